use Rattle.std.proofs.Common.{◌<◌, sym, subst, ap}
use Rattle.lock_queue.specs.LockTable.{held_by, waits_for}
use Rattle.script_meaning.specs.Locks.{goes_to_wait}
use Rattle.stack_places.specs.Places.{IsAway, Moves, PlaceTable, table_of}
use Rattle.stack_places.proofs.Standing.{Agrees, rests}
use Rattle.stack_places.proofs.Calls.{joined, freed}
use Rattle.stack_places.proofs.places.Places.go_to_wait.Goals as goal

pub join-requires-clause-idle : goal.join-requires-clause-idle
join-requires-clause-idle c =
    let i = c.self.inside in
    let agrees : Agrees i.locks = record { waiters = c.seats_agree.ensures.waiters; owners = c.seats_agree.ensures.owners; held = c.seats_agree.ensures.held; awaited = c.seats_agree.ensures.awaited } in
    let away = subst (λ (t : PlaceTable). IsAway t.lists c.args.stack) (sym c.self.view_is) c.requires.away in
    let here = rests i.locks agrees c.args.stack i.sleepers i.done.items away in
    (ap held_by here, ap waits_for here)

pub run_free-requires-clause-rests : goal.run_free-requires-clause-rests
run_free-requires-clause-rests c =
    let i = c.self.inside in
    let agrees : Agrees i.locks = record { waiters = c.seats_agree.ensures.waiters; owners = c.seats_agree.ensures.owners; held = c.seats_agree.ensures.held; awaited = c.seats_agree.ensures.awaited } in
    let away = subst (λ (t : PlaceTable). IsAway t.lists c.args.stack) (sym c.self.view_is) c.requires.away in
    rests i.locks agrees c.args.stack i.sleepers i.done.items away

pub returns-in-Some : goal.returns-in-Some
returns-in-Some c =
    let i = c.self.inside in
    let k = c.args.stack in
    let agrees : Agrees i.locks = record { waiters = c.seats_agree.ensures.waiters; owners = c.seats_agree.ensures.owners; held = c.seats_agree.ensures.held; awaited = c.seats_agree.ensures.awaited } in
    let away = subst (λ (t : PlaceTable). IsAway t.lists k) (sym c.self.view_is) c.requires.away in
    let within = subst (λ (t : PlaceTable). k < t.room) (sym c.self.view_is) c.requires.within in
    let new = c.join.new.self in
    subst (λ t. Moves (goes_to_wait k c.args.instance) t (table_of new i.sleepers i.done.items)) c.self.view_is (joined i.locks i.sleepers i.done.items agrees k within c.in-Some.instance c.args.instance new away c.in-Some.is c.join.ensures)

pub returns-in-None : goal.returns-in-None
returns-in-None c =
    let i = c.self.inside in
    let k = c.args.stack in
    let agrees : Agrees i.locks = record { waiters = c.seats_agree.ensures.waiters; owners = c.seats_agree.ensures.owners; held = c.seats_agree.ensures.held; awaited = c.seats_agree.ensures.awaited } in
    let away = subst (λ (t : PlaceTable). IsAway t.lists k) (sym c.self.view_is) c.requires.away in
    let within = subst (λ (t : PlaceTable). k < t.room) (sym c.self.view_is) c.requires.within in
    let new = c.run_free.new.self in
    subst (λ t. Moves (goes_to_wait k c.args.instance) t (table_of new i.sleepers i.done.items)) c.self.view_is (freed i.locks i.sleepers i.done.items agrees k within c.args.instance new away c.in-None.is c.run_free.ensures)
