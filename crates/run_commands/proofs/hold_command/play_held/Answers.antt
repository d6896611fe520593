use Rattle.std.proofs.Common.{map}
use Rattle.papy_base.specs.Bytes.{bytes_of}
use Rattle.run_commands.proofs.HeldRun.{unstarted_held}
use Rattle.run_commands.proofs.SceneParts.{unstarted_writes}
use Rattle.run_commands.proofs.hold_command.play_held.Goals as goal

pub returns-in-Err-clause-faults : goal.returns-in-Err-clause-faults
returns-in-Err-clause-faults g c = unstarted_writes c.args.program.tree 2 c.in-Err.ending _ c.in-Err.ensures.starts

pub returns-in-Err-clause-plays : goal.returns-in-Err-clause-plays
returns-in-Err-clause-plays g c = unstarted_held c.args.program.tree c.args.most (map bytes_of c.args.program.kept.items) c.args.program.text.items c.in-Err.ending _ c.in-Err.ensures.starts
