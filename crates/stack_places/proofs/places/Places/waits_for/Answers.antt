use Rattle.std.proofs.Common.{◌≡◌, sym, subst, ◌∙◌}
use Rattle.script_meaning.specs.Locks.{waited_for}
use Rattle.stack_places.specs.Places.{PlaceTable}
use Rattle.stack_places.proofs.Standing.{Agrees, waits_there}
use Rattle.stack_places.proofs.places.Places.waits_for.Goals as goal

pub returns : goal.returns
returns c =
    let i = c.self.inside in
    let agrees : Agrees i.locks = record { waiters = c.seats_agree.ensures.waiters; owners = c.seats_agree.ensures.owners; held = c.seats_agree.ensures.held; awaited = c.seats_agree.ensures.awaited } in
    subst (λ (t : PlaceTable). c.waits_for.result ≡ waited_for c.args.stack t.lists.waiters) c.self.view_is (c.waits_for.ensures.instance ∙ sym (waits_there i.locks agrees c.args.stack))
