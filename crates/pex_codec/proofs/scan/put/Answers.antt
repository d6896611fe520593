use Rattle.std.proofs.Common.{arith}
use Rattle.pex_codec.proofs.Scans.{same_none}
use Rattle.pex_codec.proofs.scan.put.Goals as goal

pub returns-else-task-gt0 : goal.returns-else-task-gt0
returns-else-task-gt0 c = same_none c.args.task.part c.args.task.left c.args.tasks.now.items (omega (arith, c.if-task-gt0.false))
