use Rattle.std.proofs.Common.{◌≡◌, sym, subst, ◌∙◌}
use Rattle.script_meaning.specs.Locks.{is_ready}
use Rattle.stack_places.specs.Places.{PlaceTable, placed}
use Rattle.stack_places.proofs.Finding.{ready_told}
use Rattle.stack_places.proofs.Readiness.{ready_by_seat}
use Rattle.stack_places.proofs.Standing.{Agrees}
use Rattle.stack_places.proofs.places.Places.is_ready.Goals as goal

pub returns : goal.returns
returns c = λ world.
    let i = c.self.inside in
    let agrees : Agrees i.locks = record { waiters = c.seats_agree.ensures.waiters; owners = c.seats_agree.ensures.owners; held = c.seats_agree.ensures.held; awaited = c.seats_agree.ensures.awaited } in
    let told = ready_told i.locks c.stack_before.result c.args.stack c.ready_next.result c.stack_before.ensures.start c.ready_next.ensures in
    subst (λ (t : PlaceTable). c.eq.result ≡ is_ready (placed t.lists world) c.args.stack) c.self.view_is (c.eq.ensures ∙ (told ∙ sym (ready_by_seat i.locks agrees i.sleepers i.done.items world c.args.stack)))
