use Rattle.std.proofs.Common.{ℕ, length, List, ◌++◌, Option, slice_get, option_and_then, option_to_list, inl, inr, ap, ◌∙◌, arith, rules}
use Rattle.papy_base.proofs.OrderLemmas.{IsWalk-started, IsWalk-turned, IsOrder-end}
use Rattle.papy_base.proofs.descent.order_of.Goals as goal
use Rattle.papy_base.proofs.descent.order_of.Goals.{else-loop-test, then-loop-test+in_default}

pub loop-init : goal.loop-init
loop-init c =
    let at = λ (xs : List (Option ℕ)). option_and_then (λ item. item) (slice_get xs (length c.args.parents.now)) in
    record {
      ranks = search rules;
      walk = IsWalk-started c.args.parents.now c.in_ok-links.links.last.items c.in_ok-links.links.before.items c.in_ok-order.order.items c.push_some.new.list.items c.item_at.result c.in_ok-links.ensures c.in_ok-order.ensures.items
          (c.in_ok-push_some.ensures ∙ ap (λ xs. xs ++ option_to_list c.item_at.result) c.new-open.ensures.items) (c.item_at.ensures ∙ ap at c.deref.ensures.value);
    }

pub loop-preserved : goal.loop-preserved
loop-preserved c =
    let at = λ (xs : List (Option ℕ)). option_and_then (λ item. item) (slice_get xs c.in-Some.object) in
    record {
      ranks = search rules;
      walk = IsWalk-turned c.args.parents.now c.in_ok-links.links.last.items c.in_ok-links.links.before.items c.loop.order.items c.push.new.self.items c.loop.open.items c.pop.new.self.items c.push_some-in-loop.new.list.items c.push_some-in-loop-2.new.list.items c.in-Some.object c.item_at-in-loop.result c.item_at-in-loop-2.result c.in_ok-links.ensures c.loop.invariant.walk
          (c.pop.ensures.items ∙ ap (λ o. c.pop.new.self.items ++ option_to_list o) c.in-Some.is) c.in_ok-push.ensures.items (c.item_at-in-loop.ensures ∙ ap at c.deref-in-loop.ensures.value) c.in_ok-push_some-2.ensures (c.item_at-in-loop-2.ensures ∙ ap at c.deref-in-loop-2.ensures.value) c.in_ok-push_some-3.ensures;
    }

pub returns : goal.returns
returns c =
    let end = IsOrder-end c.args.parents.now c.in_ok-links.links.last.items c.in_ok-links.links.before.items c.loop.order.items c.loop.open.items c.in_ok-links.ensures c.loop.invariant.walk in
    elim c.loop-test.branch [
      | else-loop-test w ↦ end (inr (let ranks = c.loop.invariant.ranks in omega arith))
      | then-loop-test+in_default w ↦ end (inl (let is = c.loop.open.ok.0 in let none = w.in_default.ensures.cases.0 in omega arith))
    ]
