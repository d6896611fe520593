use Rattle.std.proofs.lemmas.Result.{err_from_is_err_and}
use Rattle.command_files.proofs.ScriptFaults.{script_unread, script_parsed}
use Rattle.command_files.proofs.scripts.read_source.Goals as goal

pub returns-in_err-text-clause-read : goal.returns-in_err-text-clause-read
returns-in_err-text-clause-read g c =
    let told = err_from_is_err_and c.from_residual.result c.from_residual.ensures.1 in
    rw (told.1, told.2) (script_unread (g.D.Desk.holds c.args.desk.now) c.args.name.now c.in_err-text.field-0.0 c.in_err-text.ensures.read)

pub returns-clause-read : goal.returns-clause-read
returns-clause-read g c =
    let parses = rw c.deref.ensures.value at c.source_of.ensures in
    script_parsed (g.D.Desk.holds c.args.desk.now) c.args.name.now c.in_ok-text.text c.source_of.result c.in_ok-text.ensures.read parses
