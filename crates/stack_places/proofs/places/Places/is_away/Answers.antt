use Rattle.std.proofs.Common.{◌≡◌, ◌<◌, false, ◌&&◌, not, None, is_none, subst, ap, ◌∙◌, sym, arith}
use Rattle.std.specs.Prelude.{slice_index_or}
use Rattle.std.proofs.lemmas.List.{get_or_read}
use Rattle.lock_queue.specs.LockTable as seats
use Rattle.stack_places.specs.Places.{PlaceTable, is_zero, standings}
use Rattle.stack_places.proofs.Standing.{Agrees, away_told}
use Rattle.stack_places.proofs.places.Places.is_away.Goals as goal

pub returns : goal.returns
returns c =
    let i = c.self.inside in
    let k = c.args.stack in
    let agrees : Agrees i.locks = record { waiters = c.seats_agree.ensures.waiters; owners = c.seats_agree.ensures.owners; held = c.seats_agree.ensures.held; awaited = c.seats_agree.ensures.awaited } in
    let ok = i.done.ok.0 in
    let told = c.self.invariant.1 in
    let here = c.from.ensures in
    let within = subst (λ (t : PlaceTable). k < t.room) (sym c.self.view_is) c.requires in
    let done : c.index.result.now ≡ slice_index_or i.done.items k false = get_or_read i.done.items c.from.result c.index.result.now (omega (arith, ok, told, here, within)) c.index.ensures false ∙ ap (λ n. slice_index_or i.done.items n false) here in
    let all : c.is_nowhere.result ≡ seats.rests (seats.seat_of i.locks k) && is_none (slice_index_or i.sleepers k None) && not (slice_index_or i.done.items k false) = c.is_nowhere.ensures ∙ (ap (λ r. r && is_none c.until-until.result && not c.index.result.now) c.rests.ensures ∙ (ap (λ o. seats.rests (seats.seat_of i.locks k) && is_none o && not c.index.result.now) c.until-until.ensures ∙ ap (λ d. seats.rests (seats.seat_of i.locks k) && is_none (slice_index_or i.sleepers k None) && not d) done)) in
    subst (λ (t : PlaceTable). c.is_nowhere.result ≡ is_zero (standings t.lists k)) c.self.view_is (all ∙ away_told i.locks agrees k i.sleepers i.done.items)
