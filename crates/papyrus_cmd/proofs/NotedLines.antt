-- What writing a line leaves in a sink.
use Rattle.std.proofs.Common.{arith, ◌≡◌, ℕ, List, sym, take, length, subst}
use Rattle.std.specs.Prelude.{Option, Result, Ok, Err}
use Rattle.std.proofs.lemmas.Grind.{common_steps}
use Rattle.papy_io.specs.declared.fault.IoFault.{IoFault}
use Rattle.papy_io.specs.declared.fault.IoFault.TheVariants.{Failed, OutOfMemory}
use Rattle.papy_io.proofs.Appending.{appended_nothing}
use Rattle.papy_io.specs.Sink.{Appended, SinkWrites}
use Rattle.papyrus_cmd.specs.TopCall.{Tried}

-- what a sink took of a line, whatever it answered
pub tried_line : {T : Type 0} (wrote : Result T IoFault) (line : List ℕ) (before now : Option (List ℕ)) → SinkWrites wrote line before now → Tried line before now
tried_line (Ok _) line before now wrote =
    let whole : take (length line) line ≡ line = grind (arith, common_steps) in
    let P : List ℕ → Type 0 = λ text. Appended text before now in (length line, subst P (sym whole) wrote)
tried_line (Err Failed) line before now wrote = wrote
tried_line (Err OutOfMemory) line before now same = (0, appended_nothing before now same)
