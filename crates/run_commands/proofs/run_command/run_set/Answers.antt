use Rattle.run_commands.proofs.RunEnds.{set_plays, unbuilt_plays, unbuilt_writes}
use Rattle.run_commands.proofs.run_command.run_set.Goals as goal

pub returns-in-Ok-clause-plays : goal.returns-in-Ok-clause-plays
returns-in-Ok-clause-plays g c = set_plays c.args.tree c.args.word c.play.result _ _ c.play.ensures.plays

pub returns-in-Err-clause-faults : goal.returns-in-Err-clause-faults
returns-in-Err-clause-faults g c = rw c.from.ensures (unbuilt_writes c.in-Err.fault _)

pub returns-in-Err-clause-plays : goal.returns-in-Err-clause-plays
returns-in-Err-clause-plays g c = rw c.from.ensures (unbuilt_plays c.args.tree c.args.word c.in-Err.fault _)
