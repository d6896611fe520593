use Rattle.std.proofs.Common.{arith}
use Rattle.command_files.proofs.TextRead.{read_small}
use Rattle.command_files.proofs.text_file.read_text.Goals as goal

pub returns-in-Ok-clause-small : goal.returns-in-Ok-clause-small
returns-in-Ok-clause-small g c =
    let few = read_small (g.D.Desk.holds c.args.desk.now) c.args.name.now c.args.limit c.in-Ok.text c.in-Ok.ensures.bytes in omega (arith, c.in-Ok.text.ok.0)
