use Rattle.run_commands.proofs.ResumedRun.{held_is_ready, load_refuses}
use Rattle.run_commands.proofs.resume_command.loaded_held.Goals as goal

pub returns-in-Ok-clause-ready : goal.returns-in-Ok-clause-ready
returns-in-Ok-clause-ready c = let loaded = c.in-Ok.ensures in held_is_ready c.args.bytes.now c.in-Ok.held loaded.1

pub returns-in-Err-Broken-clause-loads : goal.returns-in-Err-Broken-clause-loads
returns-in-Err-Broken-clause-loads c = let gives = rw c.in-Err-Broken.field-0-is at c.in-Err-Broken.ensures in load_refuses c.args.bytes.now c.in-Err-Broken.rule gives
