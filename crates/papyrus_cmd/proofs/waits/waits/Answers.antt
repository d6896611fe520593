use Rattle.std.proofs.Common.{◌≡◌, ◌∙◌, sym, ap, map, []}
use Rattle.std.specs.String.{string_bytes}
use Rattle.std.proofs.lemmas.List.{get_or-map}
use Rattle.command_files.specs.Outputs.{AnswersTo}
use Rattle.papyrus_cmd.specs.Answers.{WaitsAnswers}
use Rattle.command_files.specs.Ending.{word_at}
use Rattle.papyrus_cmd.proofs.PartOutput.{part_is_output}
use Rattle.papyrus_cmd.proofs.WaitsTold.{waits_pass}
use Rattle.papyrus_cmd.proofs.waits.waits.Goals as goal

pub returns-in-Ok-write_counted-clause-output : goal.returns-in-Ok-write_counted-clause-output
returns-in-Ok-write_counted-clause-output g c =
    let file = c.index-files-0.result in
    let named : word_at (map string_bytes c.args.files.now) 0 ≡ string_bytes file =
    get_or-map string_bytes c.args.files.now 0 file [] c.requires.some ∙ ap string_bytes (sym c.index-files-0.is) in
    let read = rw c.as_bytes.ensures.value at c.in-Ok.ensures.read in
    let ends = waits_pass (g.D.Desk.holds c.args.desk.now) (string_bytes file) c.in-Ok.found read in
    rw named (_, c.in-Ok-write_counted.ensures.written, ends)

pub returns-clause-output : goal.returns-clause-output
returns-clause-output g c =
    let file = c.index-files-0.result in
    let named : word_at (map string_bytes c.args.files.now) 0 ≡ string_bytes file =
    get_or-map string_bytes c.args.files.now 0 file [] c.requires.some ∙ ap string_bytes (sym c.index-files-0.is) in
    let read = rw c.as_bytes.ensures.value at c.in-Ok.ensures.read in
    let ends = waits_pass (g.D.Desk.holds c.args.desk.now) (string_bytes file) c.in-Ok.found read in
    rw (named, c.from.ensures) (part_is_output (AnswersTo WaitsAnswers (string_bytes file)) _ _ _ _ _ ends c.in-Err-write_counted.ensures.written)
