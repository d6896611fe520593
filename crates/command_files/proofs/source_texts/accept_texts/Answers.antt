use Rattle.std.proofs.Common.{◌≡◌, arith, length, map}
use Rattle.std.proofs.lemmas.List.{length-map}
use Rattle.command_files.specs.SourceTexts.{text_of}
use Rattle.command_files.proofs.SourceSets.{texts_end}
use Rattle.command_files.proofs.source_texts.accept_texts.Goals as goal

pub returns-in-Err-clause-ends : goal.returns-in-Err-clause-ends
returns-in-Err-clause-ends c =
    let files = c.in_ok-files.files in
    let texts = map text_of c.args.texts.now in
    let same : length files.items ≡ length texts = omega (arith, c.in_ok-files.ensures.each, files.ok.0, length-map c.args.texts.now text_of) in
    texts_end texts files.items c.in-Err.ending same c.in_ok-files.ensures.read c.in-Err.ensures.ends
