use Rattle.std.proofs.Common.{◌≡◌, ℕ, ◌≤◌, sym, subst, ◌∙◌, arith}
use Rattle.stack_places.specs.Places.{IsAway, PlaceTable}
use Rattle.stack_places.proofs.Standing.{Agrees}
use Rattle.std.specs.List.{find}
use Rattle.script_meaning.specs.Locks.{is_ready}
use Rattle.script_meaning.specs.Turns.{round}
use Rattle.stack_places.specs.Places.{placed}
use Rattle.stack_places.proofs.Readiness.{round_finds}
use Rattle.stack_places.proofs.places.Places.ready_after.Goals as goal

pub returns : goal.returns
returns c = λ world last started.
    let i = c.self.inside in
    let agrees : Agrees i.locks = record { waiters = c.seats_agree.ensures.waiters; owners = c.seats_agree.ensures.owners; held = c.seats_agree.ensures.held; awaited = c.seats_agree.ensures.awaited } in
    let within = c.requires.within in
    let room = subst (λ (t : PlaceTable). c.args.started ≤ t.room) (sym c.self.view_is) c.requires.room in
    let away = subst (λ (t : PlaceTable). (k : ℕ) → c.args.started ≤ k → IsAway t.lists k) (sym c.self.view_is) c.requires.away in
    subst (λ (t : PlaceTable). c.ready_next.result ≡ find (is_ready (placed t.lists world)) (round (placed t.lists world))) c.self.view_is (c.ready_next.ensures ∙ round_finds i.locks agrees i.sleepers i.done.items world c.args.last last (omega (arith, within, started)) (omega (arith, room, started)) (λ k h. away k (omega (arith, h, started))))
