use Rattle.std.proofs.Common.{◌≡◌, sym, subst, ◌∙◌}
use Rattle.script_meaning.specs.Locks.{waited_for}
use Rattle.stack_places.specs.Places.{PlaceTable}
use Rattle.stack_places.proofs.Standing.{Agrees, owns}
use Rattle.stack_places.proofs.places.Places.held_by.Goals as goal

pub returns : goal.returns
returns c =
    let i = c.self.inside in
    let agrees : Agrees i.locks = record { waiters = c.seats_agree.ensures.waiters; owners = c.seats_agree.ensures.owners; held = c.seats_agree.ensures.held; awaited = c.seats_agree.ensures.awaited } in
    subst (λ (t : PlaceTable). c.held_by.result ≡ waited_for c.args.stack t.lists.owners) c.self.view_is (c.held_by.ensures ∙ sym (owns i.locks agrees c.args.stack))
