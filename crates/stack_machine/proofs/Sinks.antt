-- What a sink has taken and counted after several steps.
use Rattle.std.proofs.Common.{◌≡◌, ℕ, List, [], ◌∷◌, ◌++◌, Option, Result, Ok, Err, sym, ◌∙◌, ap, subst, refl, append_assoc, append-nil, inl, inr}
use Rattle.std.specs.Fmt.{decimal}
use Rattle.papy_base.specs.declared.faults.StackFault.{StackFault}
use Rattle.papy_io.proofs.Appending.{appended_none, appends_more, appends_none, appends_written, both_appended}
use Rattle.papy_io.specs.Sink.{Appended, AppendsSome}
use Rattle.stack_machine.specs.declared.status.TurnFault.{TurnFault}
use Rattle.body_runner.specs.Lines.{fault_line, trace_line}
use Rattle.papy_base.specs.ReportWords.{escaped, fault_name}
use Rattle.stack_machine.specs.Machine.{CountsFault, CountsTurn}
use Rattle.stack_places.proofs.Stands.{same_refl}
use Rattle.stack_machine.specs.Written.{AppendsLines, IsLines, WritesLines}

-- a count that stood still before
pub counts_later : (fault : TurnFault) (before between now : ℕ) → between ≡ before → CountsFault fault between now → CountsFault fault before now
counts_later fault before between now e h = subst (λ (count : ℕ). CountsFault fault count now) e h

-- the same of an answer
pub counts_turn_later : {T : Type 0} (result : Result T TurnFault) (before between now : ℕ) → between ≡ before → CountsTurn result between now → CountsTurn result before now
counts_turn_later result before between now e h = subst (λ (count : ℕ). CountsTurn result count now) e h

-- ---- whole lines

pub lines_none : (now : Option (List ℕ)) → AppendsLines now now
lines_none now = record { bytes = []; lines = inl refl; appended = appended_none now }

-- lines that follow lines are lines
pub lines_join : (first second : List ℕ) → IsLines first → IsLines second → IsLines (first ++ second)
lines_join first second a (inl none) = subst IsLines (sym (append-nil first) ∙ ap (λ rest. first ++ rest) (sym none)) a
lines_join first second a (inr (front, is)) = inr (first ++ front, ap (λ rest. first ++ rest) is ∙ sym (append_assoc first front (10 ∷ [])))

pub lines_more : (before between now : Option (List ℕ)) → AppendsLines before between → AppendsLines between now → AppendsLines before now
lines_more before between now a b =
    record { bytes = a.bytes ++ b.bytes; lines = lines_join a.bytes b.bytes a.lines b.lines; appended = both_appended a.bytes b.bytes before between now a.appended b.appended }

-- lines are bytes
pub lines_some : (before now : Option (List ℕ)) → AppendsLines before now → AppendsSome before now
lines_some before now a = record { bytes = a.bytes; appended = a.appended }

pub some_behind_lines : (before between now : Option (List ℕ)) → AppendsLines before between → AppendsSome between now → AppendsSome before now
some_behind_lines before between now a b = appends_more before between now (lines_some before between a) b

-- what an answer has written behind lines
pub lines_before : {T E : Type 0} (result : Result T E) (before between now : Option (List ℕ)) → AppendsLines before between → WritesLines result between now → WritesLines result before now
lines_before (Ok value) before between now a b = lines_more before between now a b
lines_before (Err fault) before between now a b = some_behind_lines before between now a b

-- an answer that is a fault, behind lines
pub fault_behind_lines : {T E : Type 0} (result : Result T E) (fault : E) (before between now : Option (List ℕ)) → result ≡ Err fault → AppendsLines before between → AppendsSome between now → WritesLines result before now
fault_behind_lines result fault before between now is a b = rw is (some_behind_lines before between now a b)

-- ---- the lines of a report

pub trace_written : (stack : ℕ) (text bytes : List ℕ) (before now : Option (List ℕ)) → bytes ≡ trace_line stack text → Appended bytes before now → AppendsLines before now
trace_written stack text bytes before now is wrote = record { bytes = bytes; lines = inr (35 ∷ decimal stack ++ 32 ∷ escaped text, is); appended = wrote }

pub fault_written : (stack : ℕ) (script function : List ℕ) (line : ℕ) (fault : StackFault) (bytes : List ℕ) (before now : Option (List ℕ)) → bytes ≡ fault_line stack script function line fault → Appended bytes before now → AppendsLines before now
fault_written stack script function line fault bytes before now is wrote =
    record { bytes = bytes; lines = inr (33 ∷ decimal stack ++ 32 ∷ script ++ 46 ∷ function ++ 58 ∷ decimal line ++ 32 ∷ fault_name fault, is); appended = wrote }

pub ruleset sinks = (appended_none, appends_none, appends_more, appends_written, lines_none, lines_more, lines_some, some_behind_lines, lines_before, counts_later, counts_turn_later, same_refl)
