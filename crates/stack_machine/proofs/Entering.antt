-- Natives at the entry of a call.
use Rattle.std.proofs.Common.{◌≡◌, ℕ, List, Option, Result, OnOk, subst}
use Rattle.std.proofs.lemmas.Result.{on_ok_weaker}
use Rattle.core_tree.specs.declared.value.Value.{Value}
use Rattle.core_tree.specs.Device.{DeviceState}
use Rattle.loaded_code.specs.declared.script.MethodPlace.{MethodPlace}
use Rattle.body_runner.specs.declared.body.Turn.{Turn}
use Rattle.stack_machine.specs.Entering.{PerformsOnce}
use Rattle.stack_machine.specs.Runs.{Performs}

module _ (turn : Turn) (at : MethodPlace) (values arguments : List Value) (devices devices' : List DeviceState) (before now : Option (List ℕ)) (same : values ≡ arguments) where
  pub performs_once : (reply : Value) → Performs turn at values reply devices devices' before now → PerformsOnce turn at arguments devices devices' before now
  performs_once reply p =
      record { reply = reply; performs = subst (λ vs. Performs turn at vs reply devices devices' before now) same p }

  pub once_more : {T E : Type 0} (result : Result T E) → OnOk result (PerformsOnce turn at values devices devices' before now) → OnOk result (PerformsOnce turn at arguments devices devices' before now)
  once_more result h =
      on_ok_weaker result (subst (λ vs. PerformsOnce turn at vs devices devices' before now) same) h
