use Rattle.std.proofs.Common.{refl}
use Rattle.command_files.proofs.SourceSets.{declared_begins}
use Rattle.command_files.proofs.scripts.script_of.Goals as goal

pub returns-in-Ok : goal.returns-in-Ok
returns-in-Ok c = declared_begins c.args.text.now c.in_ok-lines.lines c.in-Ok.script c.in_ok-lines.ensures.cut.0 c.in_ok-lines.ensures.cut.1 c.in-Ok.ensures.lines

pub returns-in-Err-Broken : goal.returns-in-Err-Broken
returns-in-Err-Broken c =
    let fault = rw c.in-Err-Broken.field-0-is at c.in-Err-Broken.ensures.line in
    record { line = c.in-Err-Broken.line; lines = c.in_ok-lines.lines; place_is = refl; form = c.in_ok-lines.ensures.cut.0; cut = c.in_ok-lines.ensures.cut.1; fault = fault }
