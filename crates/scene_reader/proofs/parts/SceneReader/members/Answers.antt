use Rattle.std.proofs.Common.{◌≡◌, [], ◌∷◌, ◌++◌, map, refl, sym, ap, subst, ◌∙◌, rules, append_assoc, append-nil, string_bytes}
use Rattle.std.proofs.lemmas.List.Elements.{All-push}
use Rattle.serde_json.specs.View.{members_view, view}
use Rattle.serde_json.proofs.Views.{Entry}
use Rattle.scene_reader.specs.Limits.{NamedKeeps}
use Rattle.scene_reader.specs.Reading.{IsFound, IsPartFault, each_member}
use Rattle.scene_reader.specs.SceneOf.{short}
use Rattle.scene_reader.proofs.Found.{both_lost, found_both, found_map, lost, member_lost, pushed, then_lost}
use Rattle.scene_reader.proofs.parts.SceneReader.members.Goals as goal

pub returns-in_err-name-clause-found : goal.returns-in_err-name-clause-found
returns-in_err-name-clause-found g c =
    let l = c.loop-key in
    let read = g.T.Item.reading c.args.self.version in
    let e : Entry = (c.in-Some.key.now, c.in-Some.value.now) in
    let all : c.args.object.now.entries ≡ l.invariant.1 ++ e ∷ c.next.new.self = l.invariant.2 ∙ ap (λ es. l.invariant.1 ++ es) c.in-Some.ensures.steps in
    let text : c.as_str.result.now ≡ string_bytes c.in-Some.key.now = search rules in
    let h : IsPartFault (each_member short read (members_view c.args.object.now.entries)) c.in_err-name.field-0.0 = lost (short c.as_str.result.now) (each_member short read (members_view c.args.object.now.entries)) _ (λ is. ap (λ es. each_member short read (members_view es)) all ∙ member_lost short read l.invariant.1 e c.next.new.self (both_lost (short (string_bytes e.0)) (read (view e.1)) (sym (ap short text) ∙ is))) c.in_err-name.ensures.found in
    search (rules, h)

pub returns-in_err-item-clause-found : goal.returns-in_err-item-clause-found
returns-in_err-item-clause-found g c =
    let l = c.loop-key in
    let read = g.T.Item.reading c.args.self.version in
    let e : Entry = (c.in-Some.key.now, c.in-Some.value.now) in
    let all : c.args.object.now.entries ≡ l.invariant.1 ++ e ∷ c.next.new.self = l.invariant.2 ∙ ap (λ es. l.invariant.1 ++ es) c.in-Some.ensures.steps in
    let h : IsPartFault (each_member short read (members_view c.args.object.now.entries)) c.in_err-item.field-0.0 = lost (read (view e.1)) (each_member short read (members_view c.args.object.now.entries)) _ (λ is. ap (λ es. each_member short read (members_view es)) all ∙ member_lost short read l.invariant.1 e c.next.new.self (then_lost (short (string_bytes e.0)) (read (view e.1)) is)) c.in_err-item.ensures.found in
    search (rules, h)

pub loop-key-preserved : goal.loop-key-preserved
loop-key-preserved g c =
    let l = c.loop-key in
    let read = g.T.Item.reading c.args.self.version in
    let e : Entry = (c.in-Some.key.now, c.in-Some.value.now) in
    let left = c.next.new.self in
    let text : c.as_str.result.now ≡ string_bytes c.in-Some.key.now = search rules in (
      rw c.in_ok-push.ensures.items (λ h.
          let last = c.in_ok-item.ensures.limits h in
          let name = c.in_ok-name.ensures.limits last.0 in
          let before = l.invariant.0 name.0 in
          (before.0, All-push (NamedKeeps g.T.Item.keeps) _ _ before.1 (name.1, last.1))),
      l.invariant.1 ++ e ∷ [],
      l.invariant.2 ∙ ap (λ es. l.invariant.1 ++ es) c.in-Some.ensures.steps ∙ sym (append_assoc l.invariant.1 (e ∷ []) left),
      λ after rest h.
          subst (IsFound c.args.broken.now after (each_member short read (members_view c.args.object.now.entries))) (sym (ap (λ ys. map (λ e. (e.0, g.T.Item.plan e.1)) ys ++ rest) c.in_ok-push.ensures.items ∙ pushed (λ e. (e.0, g.T.Item.plan e.1)) l.entries.items _ rest))
          (l.invariant.3 after _ (subst (λ es. IsFound l.broken after (each_member short read (members_view es)) ((c.in_ok-name.name, g.T.Item.plan c.in_ok-item.item) ∷ rest)) (sym c.in-Some.ensures.steps)
          (found_map _ _ _ _ _ (found_both _ _ _ _ _ _ _ (found_both _ _ _ (short (string_bytes e.0)) (read (view e.1)) _ _ (subst (λ k. IsFound l.broken c.text_of.new.broken (short k) c.in_ok-name.name) text c.in_ok-name.ensures.found) c.in_ok-item.ensures.found) h)))),
    )

pub returns-clause-found : goal.returns-clause-found
returns-clause-found g c =
    let l = c.loop-key in
    let read = g.T.Item.reading c.args.self.version in
    subst (IsFound c.args.broken.now l.broken (each_member short read (members_view c.args.object.now.entries))) (append-nil _)
    (l.invariant.3 l.broken [] (subst (λ es. IsFound l.broken l.broken (each_member short read (members_view es)) []) (sym c.in-None.ensures.steps.0) (refl, refl)))
