use Rattle.std.proofs.Common.{length, take, drop, ◌++◌, sym, subst, ◌∙◌}
use Rattle.std.proofs.lemmas.List.{take_at}
use Rattle.papy_base.specs.Orders.{IsForest, IsOrder, AreReached}
use Rattle.papy_base.specs.Ranks.{IsDescentOf}
use Rattle.papy_base.proofs.DescentLemmas.{IsDescentOf-reached}
use Rattle.papy_base.proofs.descent.Descent.of.Goals as goal

pub returns-clause-exact : goal.returns-clause-exact
returns-clause-exact c = λ among rooted.
    let parents = c.args.parents.now in
    let order = c.in_ok-order.order.items in
    let forest : IsForest parents = record { among = among; rooted = rooted } in
    let is = c.in_ok-order.ensures forest in
    let many = c.in_ok-spans.ensures.len in
    let numbered : AreReached parents order c.number.new.spans (length order) =
    subst (λ xs. AreReached parents xs c.number.new.spans (length xs)) c.deref.ensures.value (c.number.ensures (subst (IsOrder parents) (sym c.deref.ensures.value) is)) in
    let first = take_at c.number.new.spans (drop (length c.number.new.spans) c.in_ok-spans.spans.items) c.in_ok-spans.spans.len (numbered.count ∙ sym many) in
    let given : AreReached parents c.deref-2.result.now c.deref_mut-2.result.now (length c.deref-2.result.now) =
    subst (λ xs. AreReached parents xs c.deref_mut-2.result.now (length xs)) (sym c.deref-2.ensures.value)
    (subst (λ xs. AreReached parents order xs (length order)) (sym first ∙ sym c.deref_mut-2.ensures.value) numbered) in
    let reached : AreReached parents order c.reach.new.spans 0 =
    subst (λ xs. AreReached parents xs c.reach.new.spans 0) c.deref-2.ensures.value (c.reach.ensures forest (subst (IsOrder parents) (sym c.deref-2.ensures.value) is) given) in
    subst (IsDescentOf parents)
    (sym (take_at c.reach.new.spans (drop (length c.reach.new.spans) (take c.in_ok-spans.spans.len (c.number.new.spans ++ drop (length c.number.new.spans) c.in_ok-spans.spans.items))) c.in_ok-spans.spans.len (reached.count ∙ sym many)))
    (IsDescentOf-reached parents order c.reach.new.spans forest is reached)
