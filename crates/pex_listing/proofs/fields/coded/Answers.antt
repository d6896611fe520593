use Rattle.pex_listing.proofs.StringRules.{coded_byte, first_shown}
use Rattle.pex_listing.proofs.fields.coded.Goals as goal

pub returns-clause-spelled : goal.returns-clause-spelled
returns-clause-spelled c =
    let high = c.in_ok-high in
    let low = c.in_ok-low in
    coded_byte c.args.bytes.now high.high low.low c.in_ok-byte.byte.0 high.behind.now low.rest.now (first_shown c.args.bytes.now high.high high.behind.now high.ensures) (first_shown high.behind.now low.low low.rest.now low.ensures)
    c.in_ok-byte.ensures.value
