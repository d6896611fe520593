use Rattle.papyrus_cmd.proofs.Assembled.{listing_read, listing_spelled, listing_unread}
use Rattle.papyrus_cmd.proofs.asm.read_listing.Goals as goal

pub returns-in-Err-clause-read : goal.returns-in-Err-clause-read
returns-in-Err-clause-read g c = listing_unread (g.D.Desk.holds c.args.desk.now) c.args.name.now c.in-Err.fault c.in-Err.ensures.read

pub returns-clause-spelled : goal.returns-clause-spelled
returns-clause-spelled g c =
    let assembles = rw c.deref.ensures.value at c.file_of.ensures in
    listing_spelled (g.D.Desk.holds c.args.desk.now) c.args.name.now c.in-Ok.text c.file_of.result c.in-Ok.ensures.read assembles

pub returns-clause-read : goal.returns-clause-read
returns-clause-read g c =
    let assembles = rw c.deref.ensures.value at c.file_of.ensures in
    listing_read (g.D.Desk.holds c.args.desk.now) c.args.name.now c.in-Ok.text c.file_of.result c.in-Ok.ensures.read assembles
