use Rattle.std.proofs.Common.{◌≡◌, None, false, length, refl, sym, ap, ◌∙◌, arith}
use Rattle.std.proofs.lemmas.List.{length-replicate}
use Rattle.lock_queue.specs.declared.seat.Seat.TheVariants.{Resting}
use Rattle.lock_queue.specs.LockTable.{LockTable}
use Rattle.stack_places.specs.Lists.{is_true, numbers_of}
use Rattle.stack_places.proofs.Calls.{nobody, no_numbers}
use Rattle.stack_places.proofs.places.Places.with_room.Goals as goal

pub invariant_of-result : goal.invariant_of-result
invariant_of-result c =
    let stacks = c.args.stacks in
    let seats : length (c.in_ok-with_room.field-0).seats ≡ stacks = ap (λ (l : LockTable). length l.seats) c.in_ok-with_room.ensures ∙ length-replicate stacks Resting in
    let sleepers : length c.in_ok-with_room-2.field-0 ≡ stacks = ap length c.in_ok-with_room-2.ensures ∙ length-replicate stacks None in
    let done : length (c.in_ok-none_done.field-0).items ≡ stacks = ap length c.in_ok-none_done.ensures ∙ length-replicate stacks false in
    let ok = (c.in_ok-none_done.field-0).ok.0 in
    let few = c.ranges.stacks.fits in
    (sleepers ∙ sym seats, omega (arith, ok, done, seats), omega (arith, few, seats), sym (ap (λ ds. length (numbers_of is_true 0 ds)) c.in_ok-none_done.ensures ∙ ap length (no_numbers is_true false 0 stacks refl)), sym (ap (λ (l : LockTable). l.instances) c.in_ok-with_room.ensures))

pub returns : goal.returns
returns c =
    nobody c.args.instances c.args.stacks c.in_ok-with_room.field-0 c.in_ok-with_room-2.field-0 (c.in_ok-none_done.field-0).items c.in_ok-with_room.ensures c.in_ok-with_room-2.ensures c.in_ok-none_done.ensures
