use Rattle.std.proofs.Common.{◌≡◌, ◌+◌, [], ◌∷◌, ◌++◌, drop, map, refl, sym, ap, subst, ◌∙◌, arith, rules, append-nil}
use Rattle.std.proofs.lemmas.List.{drop_more, drop_all}
use Rattle.std.proofs.lemmas.List.Elements.{All-push}
use Rattle.serde_json.specs.View.{items_view, view}
use Rattle.scene_reader.specs.Reading.{IsFound, IsPartFault, each_item}
use Rattle.scene_reader.proofs.Found.{item_lost, items_step, lost, pushed}
use Rattle.scene_reader.proofs.parts.SceneReader.items.Goals as goal

pub returns-in_err-item-clause-found : goal.returns-in_err-item-clause-found
returns-in_err-item-clause-found g c =
    let read = g.T.Item.reading c.args.self.version in
    let x = c.value-item.result in
    let h : IsPartFault (each_item read (items_view c.args.values.now)) c.in_err-item.field-0.0 = lost (read (view x)) (each_item read (items_view c.args.values.now)) _ (λ is. item_lost read c.args.values.now c.loop-value.value-index x (omega arith) (ap (λ v. read (view v)) (sym c.value-item.is) ∙ is)) c.in_err-item.ensures.found in
    search (rules, h)

pub loop-value-preserved : goal.loop-value-preserved
loop-value-preserved g c =
    let l = c.loop-value in
    let read = g.T.Item.reading c.args.self.version in
    let xs = c.args.values.now in
    let x = c.value-item.result in
    let here : drop l.value-index xs ≡ x ∷ drop (l.value-index + 1) xs = drop_more xs l.value-index x (omega arith) ∙ ap (λ y. y ∷ drop (l.value-index + 1) xs) (sym c.value-item.is) in (
      rw c.in_ok-push.ensures.items (λ h.
          let step = c.in_ok-item.ensures.limits h in
          let before = l.invariant.0 step.0 in
          (before.0, All-push g.T.Item.keeps l.items.items c.in_ok-item.item before.1 step.1)),
      λ after rest h.
          subst (IsFound c.args.broken.now after (each_item read (items_view xs))) (sym (ap (λ ys. map g.T.Item.plan ys ++ rest) c.in_ok-push.ensures.items ∙ pushed g.T.Item.plan l.items.items c.in_ok-item.item rest))
          (l.invariant.1 after (g.T.Item.plan c.in_ok-item.item ∷ rest) (items_step read _ _ _ xs _ x l.value-index _ rest here c.in_ok-item.ensures.found h)),
    )

pub returns-clause-found : goal.returns-clause-found
returns-clause-found g c =
    let l = c.loop-value in
    let read = g.T.Item.reading c.args.self.version in
    let xs = c.args.values.now in
    let none : drop l.value-index xs ≡ [] = drop_all l.value-index xs (omega arith) in
    subst (IsFound c.args.broken.now l.broken (each_item read (items_view xs))) (append-nil (map g.T.Item.plan l.items.items))
    (l.invariant.1 l.broken [] (subst (λ ys. IsFound l.broken l.broken (each_item read (items_view ys)) []) (sym none) (refl, refl)))
