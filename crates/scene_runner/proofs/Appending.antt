-- Bytes that are appended in one call after another.
use Rattle.std.proofs.Common.{◌≡◌, ℕ, List, [], ◌∷◌, ◌++◌, append_assoc, sym, ◌∙◌, refl, subst, inr}
use Rattle.std.specs.Fmt.{decimal}
use Rattle.std.specs.Prelude.{codes, Option, Result, Ok, Err, IfOk}
use Rattle.papy_io.proofs.Appending.{both_appended}
use Rattle.papy_io.specs.Sink.{Appended, AppendsSome}
use Rattle.stack_machine.specs.declared.status.TurnFault.{TurnFault}
use Rattle.stack_machine.specs.Written.{AppendsLines, IsLines, WritesLines}
use Rattle.stack_machine.proofs.Sinks.{lines_some}
use Rattle.scene_runner.specs.Report.{Closes, IsClosing, IsReport, Reports, turns_line}

-- what an answer has written, whatever it is
pub writes_some : {T : Type 0} (result : Result T TurnFault) (before now : Option (List ℕ)) → WritesLines result before now → AppendsSome before now
writes_some (Ok _) before now wrote = lines_some before now wrote
writes_some (Err _) before now wrote = wrote

-- ---- reports

-- a line feed was pushed
pub pushed_line : (front bytes : List ℕ) → bytes ≡ front ++ 10 ∷ [] → IsLines bytes
pushed_line front bytes is = inr (front, is)

pub turns_is_line : (turns : ℕ) (line : List ℕ) → line ≡ turns_line turns → IsLines line
turns_is_line turns line is = inr (codes "turns " ++ decimal turns, is ∙ sym (append_assoc (codes "turns ") (decimal turns) (10 ∷ [])))

-- the line of turns, and the lines that were written behind it
pub closes_behind : {T : Type 0} (result : Result T TurnFault) (turns : ℕ) (line : List ℕ) (before between now : Option (List ℕ)) → line ≡ turns_line turns → Appended line before between →
    WritesLines result between now → IfOk result (λ _. Closes turns before now)
closes_behind (Ok _) turns line before between now is first behind =
    let P : List ℕ → Type 0 = λ text. Appended text before between in
    let closing : IsClosing turns (turns_line turns ++ behind.bytes) = record { rest = behind.bytes; are_lines = behind.lines; text_is = refl } in
    record { text = turns_line turns ++ behind.bytes; closing = closing; appended = both_appended (turns_line turns) behind.bytes before between now (subst P is first) behind.appended }
closes_behind (Err _) turns line before between now is first behind = tt

-- what turns wrote, and the closing report
pub reports_behind : {T : Type 0} (result : Result T TurnFault) (turns : ℕ) (before between now : Option (List ℕ)) → AppendsLines before between → IfOk result (λ _. Closes turns between now) →
    IfOk result (λ _. Reports turns before now)
reports_behind (Ok _) turns before between now lines closes =
    let report : IsReport turns (lines.bytes ++ closes.text) = record { lines = lines.bytes; closing = closes.text; are_lines = lines.lines; closes = closes.closing; text_is = refl } in
    record { text = lines.bytes ++ closes.text; report = report; appended = both_appended lines.bytes closes.text before between now lines.appended closes.appended }
reports_behind (Err _) turns before between now lines closes = tt
