use Rattle.run_commands.proofs.ResumedRun.{held_loaded, held_unread}
use Rattle.run_commands.proofs.resume_command.read_held.Goals as goal

pub returns-in-Err-clause-read : goal.returns-in-Err-clause-read
returns-in-Err-clause-read g c = held_unread (g.D.Desk.holds c.args.desk.now) c.args.name.now c.in-Err.fault c.in-Err.ensures.read

pub returns-clause-read : goal.returns-clause-read
returns-clause-read g c =
    let loads = rw c.deref.ensures.value at c.loaded_held.ensures.loads in
    held_loaded (g.D.Desk.holds c.args.desk.now) c.args.name.now c.in-Ok.bytes c.loaded_held.result c.in-Ok.ensures.read loads
