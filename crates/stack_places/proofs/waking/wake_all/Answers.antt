use Rattle.std.proofs.Common.{sym, subst, ap, ◌∙◌}
use Rattle.std.specs.Prelude.{IfSome, ◌<◌}
use Rattle.script_meaning.specs.Stacks.{inner_instance, stack_at}
use Rattle.stack_places.specs.Places.{PlaceTable}
use Rattle.stack_places.proofs.Woken.{Taken, alone_on, away_taken, due_fewer, there_on, woken_all, woken_on}
use Rattle.stack_places.proofs.waking.wake_all.Goals as goal

pub go_to_wait-requires-clause-away : goal.go_to_wait-requires-clause-away
go_to_wait-requires-clause-away g c =
    let e = c.in-Some.ensures.taken in
    let t : Taken c.args.turn c.in-Some.stack (c.loop-stack.places).lists (c.wake.new.self).lists = record { until = e.until; due = e.due; rest = e.rest } in
    away_taken c.args.turn c.in-Some.stack (c.loop-stack.places).lists (c.wake.new.self).lists c.loop-stack.invariant.alone t

pub loop-stack-smaller : goal.loop-stack-smaller
loop-stack-smaller g c =
    let e = c.in-Some.ensures.taken in
    let t : Taken c.args.turn c.in-Some.stack (c.loop-stack.places).lists (c.wake.new.self).lists = record { until = e.until; due = e.due; rest = e.rest } in
    due_fewer c.args.turn c.in-Some.stack c.instance_of.result (c.loop-stack.places).lists (c.wake.new.self).lists (c.go_to_wait.new.self).lists t c.go_to_wait.ensures.moved

pub loop-stack-preserved : goal.loop-stack-preserved
loop-stack-preserved g c =
    let turn = c.args.turn in
    let k = c.in-Some.stack in
    let o = c.instance_of.result in
    let p = (c.loop-stack.places).lists in
    let q = (c.wake.new.self).lists in
    let r = (c.go_to_wait.new.self).lists in
    let e = c.in-Some.ensures.taken in
    let t : Taken turn k p q = record { until = e.until; due = e.due; rest = e.rest } in
    let m = c.go_to_wait.ensures.moved in
    let same = c.go_to_wait.ensures.instances ∙ e.instances in
    let i = c.loop-stack.invariant in
    record {
      alone = alone_on turn k o p q r i.alone t m;
      there = λ n h. subst (λ b. IfSome (inner_instance (stack_at (g.T.Stacks.stacks c.args.stacks.now) n)) (λ x. x < b)) (sym same) (i.there n (there_on turn k n o p q r t m h));
      instances = same ∙ i.instances;
      room = c.go_to_wait.ensures.room ∙ (e.room ∙ i.room);
      woke = λ w. woken_on turn k (g.T.Stacks.stacks c.args.stacks.now) o p q r c.instance_of.ensures t m w ∙ i.woke w;
    }

pub returns-clause-woke : goal.returns-clause-woke
returns-clause-woke g c =
    let e = c.in_default.ensures.taken in
    λ w. woken_all c.args.turn (g.T.Stacks.stacks c.args.stacks.now) (c.loop-stack.places).lists (c.wake.new.self).lists e.none (ap (λ (x : PlaceTable). x.lists) e.same) w ∙ c.loop-stack.invariant.woke w
