use Rattle.std.proofs.Common.{◌≡◌, ◌∙◌, sym, ap, map, []}
use Rattle.std.specs.String.{string_bytes}
use Rattle.std.proofs.lemmas.List.{get_or-map}
use Rattle.command_files.specs.Outputs.{AnswersTo}
use Rattle.papyrus_cmd.specs.Answers.{CheckAnswers}
use Rattle.command_files.specs.Ending.{word_at}
use Rattle.papyrus_cmd.proofs.PartOutput.{part_is_output}
use Rattle.papyrus_cmd.proofs.PexShown.{checked}
use Rattle.papyrus_cmd.proofs.check.check.Goals as goal

pub returns-in-Ok-write_accepted-clause-output : goal.returns-in-Ok-write_accepted-clause-output
returns-in-Ok-write_accepted-clause-output g c =
    let file = c.index-files-0.result in
    let named : word_at (map string_bytes c.args.files.now) 0 ≡ string_bytes file =
    get_or-map string_bytes c.args.files.now 0 file [] c.requires.some ∙ ap string_bytes (sym c.index-files-0.is) in
    let read = rw c.as_bytes.ensures.value at c.in-Ok.ensures.read in
    let ends = checked (g.D.Desk.holds c.args.desk.now) (string_bytes file) c.in-Ok.size read in
    rw named (_, c.in-Ok-write_accepted.ensures.written, ends)

pub returns-in-Err-write_accepted-clause-output : goal.returns-in-Err-write_accepted-clause-output
returns-in-Err-write_accepted-clause-output g c =
    let file = c.index-files-0.result in
    let named : word_at (map string_bytes c.args.files.now) 0 ≡ string_bytes file =
    get_or-map string_bytes c.args.files.now 0 file [] c.requires.some ∙ ap string_bytes (sym c.index-files-0.is) in
    let read = rw c.as_bytes.ensures.value at c.in-Ok.ensures.read in
    let ends = checked (g.D.Desk.holds c.args.desk.now) (string_bytes file) c.in-Ok.size read in
    rw (named, c.from.ensures) (part_is_output (AnswersTo CheckAnswers (string_bytes file)) _ _ _ _ _ ends c.in-Err-write_accepted.ensures.written)
