use Rattle.std.proofs.Common.{◌<◌, sym, subst, ◌∙◌}
use Rattle.lock_queue.specs.LockTable.{seat_of}
use Rattle.script_meaning.specs.Locks.{takes}
use Rattle.stack_places.specs.Places.{IsReady, Moves, PlaceTable, table_of}
use Rattle.stack_places.proofs.Standing.{Agrees, not_some, waits_so}
use Rattle.stack_places.proofs.Calls.{may, took, took_none}
use Rattle.stack_places.proofs.places.Places.take.Goals as goal

pub take-requires-clause-first : goal.take-requires-clause-first
take-requires-clause-first c =
    let i = c.self.inside in
    let k = c.args.stack in
    let agrees : Agrees i.locks = record { waiters = c.seats_agree.ensures.waiters; owners = c.seats_agree.ensures.owners; held = c.seats_agree.ensures.held; awaited = c.seats_agree.ensures.awaited } in
    let ready = subst (λ (t : PlaceTable). IsReady t.lists k) (sym c.self.view_is) c.requires.ready in
    let within = subst (λ (t : PlaceTable). k < t.room) (sym c.self.view_is) c.requires.within in
    may i.locks i.sleepers i.done.items agrees k within c.in-Some.instance ready (waits_so (seat_of i.locks k) c.in-Some.instance (sym c.waits_for.ensures.instance ∙ c.in-Some.is))

pub returns-in-Some : goal.returns-in-Some
returns-in-Some c =
    let i = c.self.inside in
    let k = c.args.stack in
    let agrees : Agrees i.locks = record { waiters = c.seats_agree.ensures.waiters; owners = c.seats_agree.ensures.owners; held = c.seats_agree.ensures.held; awaited = c.seats_agree.ensures.awaited } in
    let ready = subst (λ (t : PlaceTable). IsReady t.lists k) (sym c.self.view_is) c.requires.ready in
    let within = subst (λ (t : PlaceTable). k < t.room) (sym c.self.view_is) c.requires.within in
    subst (λ t. Moves (takes k) t (table_of c.take.new.self i.sleepers i.done.items)) c.self.view_is (took i.locks i.sleepers i.done.items agrees k within c.in-Some.instance c.take.new.self ready (waits_so (seat_of i.locks k) c.in-Some.instance (sym c.waits_for.ensures.instance ∙ c.in-Some.is)) c.take.ensures)

pub returns-in_default : goal.returns-in_default
returns-in_default c =
    let i = c.self.inside in
    let k = c.args.stack in
    let agrees : Agrees i.locks = record { waiters = c.seats_agree.ensures.waiters; owners = c.seats_agree.ensures.owners; held = c.seats_agree.ensures.held; awaited = c.seats_agree.ensures.awaited } in
    let within = subst (λ (t : PlaceTable). k < t.room) (sym c.self.view_is) c.requires.within in
    subst (λ t. Moves (takes k) t t) c.self.view_is (took_none i.locks i.sleepers i.done.items agrees k within (sym c.waits_for.ensures.instance ∙ not_some c.waits_for.result c.in_default.not-Some))
