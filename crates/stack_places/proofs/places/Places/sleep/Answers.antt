use Rattle.std.proofs.Common.{◌<◌, sym, subst}
use Rattle.script_meaning.specs.Locks.{sleeps}
use Rattle.stack_places.specs.Places.{IsAway, Moves, PlaceTable, table_of}
use Rattle.stack_places.proofs.Standing.{Agrees, not_asleep}
use Rattle.stack_places.proofs.Calls.{slept}
use Rattle.stack_places.proofs.places.Places.sleep.Goals as goal

pub rest-requires-clause-awake : goal.rest-requires-clause-awake
rest-requires-clause-awake c =
    let i = c.self.inside in
    let agrees : Agrees i.locks = record { waiters = c.seats_agree.ensures.waiters; owners = c.seats_agree.ensures.owners; held = c.seats_agree.ensures.held; awaited = c.seats_agree.ensures.awaited } in
    let away = subst (λ (t : PlaceTable). IsAway t.lists c.args.stack) (sym c.self.view_is) c.requires.away in
    not_asleep i.locks agrees c.args.stack i.sleepers i.done.items away

pub returns : goal.returns
returns c =
    let i = c.self.inside in
    let k = c.args.stack in
    let agrees : Agrees i.locks = record { waiters = c.seats_agree.ensures.waiters; owners = c.seats_agree.ensures.owners; held = c.seats_agree.ensures.held; awaited = c.seats_agree.ensures.awaited } in
    let away = subst (λ (t : PlaceTable). IsAway t.lists k) (sym c.self.view_is) c.requires.away in
    let within = subst (λ (t : PlaceTable). k < t.room) (sym c.self.view_is) c.requires.within in
    subst (λ t. Moves (sleeps k c.args.until) t (table_of i.locks c.rest.new.self i.done.items)) c.self.view_is (slept i.locks i.sleepers i.done.items agrees k within c.args.until c.rest.new.self c.self.invariant.0 away c.rest.ensures)
