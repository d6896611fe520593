-- What the laws of this crate speak of besides its definitions.
use Rattle.std.specs.Prelude.{◌≡◌, ℕ, ◌+◌, ◌<◌, ◌≤◌, List, length, take, Result, Ok, Err, OnOk}
use Rattle.std.specs.List.{AllByRecursion}
use Rattle.pex_values.specs.declared.values.Pex.{Pex}
use Rattle.pex_values.specs.Fit.{limit}
use Rattle.pex_values.specs.Plain.{PlainPex, plain}
use Rattle.pex_codec.specs.declared.faults.PexFault.{PexFault}
use Rattle.pex_codec.specs.declared.faults.PexFault.TheVariants.{OutOfMemory}
use Rattle.pex_codec.specs.declared.faults.PexRule.{PexRule}
use Rattle.pex_codec.specs.declared.decoder.Fed.{Fed}
use Rattle.pex_codec.specs.declared.decoder.Fed.TheVariants.{More, Done}
use Rattle.pex_codec.specs.Decoding.{Progress}
use Rattle.pex_codec.specs.Spells.{Spells}

-- numbers of one byte each
abbrev pub AreBytes : List ℕ → Type 0
AreBytes bytes = AllByRecursion (λ byte. byte < 256) bytes

-- the first k bytes spell a value, and a file may have so many
pub record SpellsFirst (v : PlainPex) (k : ℕ) (bytes : List ℕ) : Type 0 where
  pub spelled : Spells v (take k bytes)
  pub within : k ≤ length bytes
  pub fits : k ≤ limit

-- an answer to a piece, where so many bytes stood before that piece
abbrev pub counted_on : ℕ → Result Fed PexFault → Result Fed PexFault
counted_on before (Ok More) = Ok More
counted_on before (Ok (Done taken)) = Ok (Done (before + taken))
counted_on before (Err fault) = Err fault

-- two answers are the same, and what they lead to
pub record SameOutcome (r s : Result Fed PexFault) (after_r after_s : Progress) : Type 0 where
  pub answer : r ≡ s
  pub standing : after_r.standing ≡ after_s.standing
  pub taken : OnOk r (after_r.taken ≡ after_s.taken)

-- the value ended behind so many bytes, or no memory was found
abbrev pub EndsBehind : ℕ → Result Fed PexFault → Type 0
EndsBehind count (Ok More) = ⊥
EndsBehind count (Ok (Done taken)) = taken ≡ count
EndsBehind count (Err fault) = fault ≡ OutOfMemory

-- that value, or no memory for it
abbrev pub GivesBack : PlainPex → Result Pex PexFault → Type 0
GivesBack v (Ok w) = plain w ≡ v
GivesBack v (Err fault) = fault ≡ OutOfMemory

-- the same rule at the same offset
pub record SameRefusal (o p : ℕ) (a b : PexRule) : Type 0 where
  pub offset : o ≡ p
  pub rule : a ≡ b
