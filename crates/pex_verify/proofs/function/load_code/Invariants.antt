use Rattle.std.proofs.Common.{◌≡◌, ◌≤◌, length, vec_len, vec_capacity}
use Rattle.pex_verify.specs.Judged.{AreTypedIn}
use Rattle.pex_verify.specs.Places.{bounds_of}
use Rattle.pex_verify.specs.Soundness.{AreSoundInstructions}
use Rattle.pex_verify.proofs.function.load_code.Given as goal

abbrev pub invariant-loop-place : goal.invariant-loop-place
invariant-loop-place l =
    (vec_len l.loaded ≡ l.place) × ((length l.code ≤ vec_capacity l.loaded) × (AreSoundInstructions (bounds_of l.scope.home.now) (vec_len l.scope.slots.now.list) (length l.code) l.loaded.items × AreTypedIn l.scope l.loaded.items))
