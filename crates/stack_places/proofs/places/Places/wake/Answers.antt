use Rattle.std.proofs.Common.{subst}
use Rattle.stack_places.specs.Places.{TakesDue, table_of}
use Rattle.stack_places.proofs.Calls.{woken, woken_first}
use Rattle.stack_places.proofs.places.Places.wake.Goals as goal

pub returns-clause-taken : goal.returns-clause-taken
returns-clause-taken c =
    let i = c.self.inside in
    subst (λ t. TakesDue c.args.turn c.due.result t (table_of i.locks c.due.new.self i.done.items)) c.self.view_is (woken i.locks i.sleepers i.done.items c.args.turn c.due.result c.due.new.self c.self.invariant.0 c.due.ensures.least c.due.ensures.taken)

pub returns-clause-first : goal.returns-clause-first
returns-clause-first c =
    let i = c.self.inside in
    woken_first i.locks i.sleepers i.done.items c.args.turn c.due.result c.due.new.self c.due.ensures.least c.due.ensures.taken
