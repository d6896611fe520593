use Rattle.papyrus_cmd.proofs.WaitsTold.{journal_checked, journal_unread}
use Rattle.papyrus_cmd.proofs.waits.read_waits.Goals as goal

pub returns-in-Err-clause-read : goal.returns-in-Err-clause-read
returns-in-Err-clause-read g c = journal_unread (g.D.Desk.holds c.args.desk.now) c.args.name.now c.in-Err.fault c.in-Err.ensures.read

pub returns-clause-read : goal.returns-clause-read
returns-clause-read g c =
    let checks = rw c.deref.ensures.value at c.checked.ensures in
    journal_checked (g.D.Desk.holds c.args.desk.now) c.args.name.now c.in-Ok.journal c.checked.result c.in-Ok.ensures.read checks
