use Rattle.std.proofs.Common.{◌≡◌, ◌<◌, ◌∙◌, ℕ, Option, sym, subst, vec_len}
use Rattle.stack_places.specs.Places.{PlaceTable, SameStandings, TakesFirst, standings}
use Rattle.stack_places.proofs.Stands.{same_woken, taken_away}
use Rattle.stack_machine.specs.Standing.{Stands}
use Rattle.stack_machine.proofs.Standings.{due_has_started, stands_same}
use Rattle.stack_machine.proofs.Waking.{all_woken, woken_more}
use Rattle.stack_machine.proofs.world.World.wake.Goals as goal

pub go_to_wait-moved-requires-clause-away : goal.go_to_wait-moved-requires-clause-away
go_to_wait-moved-requires-clause-away g c =
    let turn = c.args.turn in
    let k = c.in-Some.stack in
    let p : PlaceTable = c.loop-stack.self.places in
    let q : PlaceTable = c.wake.new.self in
    let t : TakesFirst turn k p q = c.in-Some.ensures.taken in
    let s = c.loop-stack.invariant.stands in
    taken_away turn k p q t (s.once k (due_has_started turn (vec_len c.args.self.now.stacks) k c.loop-stack.self.last p q s t))

pub loop-stack-preserved : goal.loop-stack-preserved
loop-stack-preserved g c =
    let turn = c.args.turn in
    let n = vec_len c.args.self.now.stacks in
    let k = c.in-Some.stack in
    let p : PlaceTable = c.loop-stack.self.places in
    let q : PlaceTable = c.wake.new.self in
    let r : PlaceTable = c.go_to_wait-moved.new.self.places in
    let t : TakesFirst turn k p q = c.in-Some.ensures.taken in
    let i = c.loop-stack.invariant in
    let started : k < n = due_has_started turn n k c.loop-stack.self.last p q i.stands t in
    let e = c.go_to_wait-moved.ensures in
    let same : SameStandings p r = same_woken turn k p q r t (i.stands.once k started) e.places in
    record {
      stands = subst (λ (o : Option ℕ). Stands n o r) (sym e.last) (stands_same n c.loop-stack.self.last p r i.stands same);
      stacks = e.stacks ∙ i.stacks;
      room = same.room ∙ i.room;
      woken = woken_more turn n k p q r c.go_to_wait-moved.result _ _ _ i.woken t c.in-Some.ensures.first e.asleep started e.moved c.in_ok-note.ensures.added;
    }

pub returns-clause-noted : goal.returns-clause-noted
returns-clause-noted g c =
    all_woken c.args.turn (vec_len c.args.self.now.stacks) c.loop-stack.self.places _ _ c.loop-stack.invariant.woken
