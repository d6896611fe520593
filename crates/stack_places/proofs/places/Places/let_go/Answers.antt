use Rattle.std.proofs.Common.{◌<◌, sym, subst, ◌∙◌}
use Rattle.script_meaning.specs.Locks.{let_go}
use Rattle.stack_places.specs.Places.{Moves, PlaceTable, Runs, table_of}
use Rattle.stack_places.proofs.Standing.{Agrees}
use Rattle.stack_places.proofs.Calls.{let_gone, is_free_there}
use Rattle.stack_places.proofs.places.Places.let_go.Goals as goal

pub rest-requires-clause-free : goal.rest-requires-clause-free
rest-requires-clause-free c =
    let i = c.self.inside in
    let k = c.args.stack in
    let agrees : Agrees i.locks = record { waiters = c.seats_agree.ensures.waiters; owners = c.seats_agree.ensures.owners; held = c.seats_agree.ensures.held; awaited = c.seats_agree.ensures.awaited } in
    let runs = subst (λ (t : PlaceTable). Runs t.lists k) (sym c.self.view_is) c.requires.runs in
    let within = subst (λ (t : PlaceTable). k < t.room) (sym c.self.view_is) c.requires.within in
    is_free_there i.locks i.sleepers i.done.items agrees k within runs (sym c.held_by.ensures ∙ c.in-None.is)

pub returns-in-Some : goal.returns-in-Some
returns-in-Some c =
    let i = c.self.inside in
    let k = c.args.stack in
    let agrees : Agrees i.locks = record { waiters = c.seats_agree.ensures.waiters; owners = c.seats_agree.ensures.owners; held = c.seats_agree.ensures.held; awaited = c.seats_agree.ensures.awaited } in
    let within = subst (λ (t : PlaceTable). k < t.room) (sym c.self.view_is) c.requires.within in
    subst (λ t. Moves (let_go k) t (table_of c.release.new.self i.sleepers i.done.items)) c.self.view_is (let_gone i.locks i.sleepers i.done.items agrees k within c.release.new.self c.release.ensures)

pub returns-in-None : goal.returns-in-None
returns-in-None c =
    let i = c.self.inside in
    let k = c.args.stack in
    let agrees : Agrees i.locks = record { waiters = c.seats_agree.ensures.waiters; owners = c.seats_agree.ensures.owners; held = c.seats_agree.ensures.held; awaited = c.seats_agree.ensures.awaited } in
    let within = subst (λ (t : PlaceTable). k < t.room) (sym c.self.view_is) c.requires.within in
    subst (λ t. Moves (let_go k) t (table_of c.rest.new.self i.sleepers i.done.items)) c.self.view_is (let_gone i.locks i.sleepers i.done.items agrees k within c.rest.new.self c.rest.ensures)
