use Rattle.std.proofs.Common.{◌≡◌, ◌<◌, length, true, sym, subst, ap, arith}
use Rattle.std.specs.Prelude.{slice_set}
use Rattle.std.proofs.lemmas.List.{length-set}
use Rattle.script_meaning.specs.Locks.{ends}
use Rattle.stack_places.specs.Lists.{is_true, numbers_of}
use Rattle.stack_places.specs.Places.{IsAway, Moves, PlaceTable, table_of}
use Rattle.stack_places.proofs.Standing.{Agrees}
use Rattle.stack_places.proofs.Calls.{ended, one_more}
use Rattle.stack_places.proofs.Numbers.{at_most}
use Rattle.stack_places.proofs.places.Places.end.Goals as goal

pub overflow_add-self : goal.overflow_add-self
overflow_add-self c =
    let i = c.self.inside in
    let most = at_most is_true 0 i.done.items in
    let count = c.self.invariant.3 in
    let ok = i.done.ok.0 in
    let told = c.self.invariant.1 in
    let same : length i.done.items ≡ length i.locks.seats = omega (arith, ok, told) in
    let few = c.self.invariant.2 in
    let agrees : Agrees i.locks = record { waiters = c.seats_agree.ensures.waiters; owners = c.seats_agree.ensures.owners; held = c.seats_agree.ensures.held; awaited = c.seats_agree.ensures.awaited } in
    let away = subst (λ (t : PlaceTable). IsAway t.lists c.args.stack) (sym c.self.view_is) c.requires.away in
    let within = subst (λ (t : PlaceTable). c.args.stack < t.room) (sym c.self.view_is) c.requires.within in
    let more = one_more i.locks i.sleepers i.done.items agrees c.args.stack within same away in
    let bound = at_most is_true 0 (slice_set i.done.items c.args.stack true) in
    let size = length-set i.done.items c.args.stack true in
    record { fits = omega (arith, most, count, same, few, more, bound, size) }

pub invariant_of-self : goal.invariant_of-self
invariant_of-self c =
    let i = c.self.inside in
    let agrees : Agrees i.locks = record { waiters = c.seats_agree.ensures.waiters; owners = c.seats_agree.ensures.owners; held = c.seats_agree.ensures.held; awaited = c.seats_agree.ensures.awaited } in
    let away = subst (λ (t : PlaceTable). IsAway t.lists c.args.stack) (sym c.self.view_is) c.requires.away in
    let within = subst (λ (t : PlaceTable). c.args.stack < t.room) (sym c.self.view_is) c.requires.within in
    let ok = i.done.ok.0 in
    let told = c.self.invariant.1 in
    let same : length i.done.items ≡ length i.locks.seats = omega (arith, ok, told) in
    let more = one_more i.locks i.sleepers i.done.items agrees c.args.stack within same away in
    let count = c.self.invariant.3 in
    let placed_at = ap (λ n. length (numbers_of is_true 0 (slice_set i.done.items n true))) c.from.ensures in
    (c.self.invariant.0, c.self.invariant.1, c.self.invariant.2, omega (arith, more, count, placed_at), c.self.invariant.4)

pub returns : goal.returns
returns c =
    let i = c.self.inside in
    let k = c.args.stack in
    let agrees : Agrees i.locks = record { waiters = c.seats_agree.ensures.waiters; owners = c.seats_agree.ensures.owners; held = c.seats_agree.ensures.held; awaited = c.seats_agree.ensures.awaited } in
    let away = subst (λ (t : PlaceTable). IsAway t.lists k) (sym c.self.view_is) c.requires.away in
    let within = subst (λ (t : PlaceTable). k < t.room) (sym c.self.view_is) c.requires.within in
    let ok = i.done.ok.0 in
    let told = c.self.invariant.1 in
    let same : length i.done.items ≡ length i.locks.seats = omega (arith, ok, told) in
    subst (λ t. Moves (ends k) t (table_of i.locks i.sleepers (slice_set i.done.items c.from.result true))) c.self.view_is (ended i.locks i.sleepers i.done.items agrees k within c.from.result c.from.ensures same away)
