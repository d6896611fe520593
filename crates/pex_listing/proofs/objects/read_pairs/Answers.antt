use Rattle.std.proofs.Common.{vec_len, arith, [], ◌∷◌, refl, ap, ◌∙◌, rules, sym}
use Rattle.std.proofs.lemmas.Grind.{common_steps}
use Rattle.pex_values.specs.Shape.{ArePair}
use Rattle.pex_values.specs.Spelling as spell
use Rattle.pex_listing.specs.Listing as form
use Rattle.pex_listing.specs.Spelled.{spelled_in}
use Rattle.pex_listing.proofs.Parts.{lines_none, one_more, all_read}
use Rattle.pex_listing.specs.Breaks.{Many}
use Rattle.pex_listing.specs.Left.{lines_left, view}
use Rattle.pex_listing.proofs.Opening.{many_none, parts_full, not_below, read_err, memory_err}
use Rattle.pex_listing.proofs.objects.read_pairs.Goals as goal

pub loop-place-init : goal.loop-place-init
loop-place-init c = record {
  read = lines_none (ArePair (vec_len c.args.names.now.spelled)) spell.pair (form.pair (spelled_in c.args.names.now) c.args.word.now) c.args.listing.now _ c.new-pairs.ensures.items;
  count = grind (arith, common_steps);
  left = λ forms strings awaited table good. (refl, good);
}

pub loop-place-preserved : goal.loop-place-preserved
loop-place-preserved c = record {
  read = one_more c.in_ok-read_pair.field-0 _ c.loop-place.invariant.read c.in_ok-read_pair.ensures.holds c.in_ok-read_pair.ensures.line c.in_ok-push.ensures.items;
  count = grind (arith, common_steps);
  left = λ forms strings awaited table good.
      let far = c.loop-place.invariant.left forms strings awaited table good in
      let part = c.in_ok-read_pair.ensures.left forms strings awaited c.loop-place._place table far.1 (sym c.if-not-is_at.ensures) (omega arith) in
      (far.0 ∙ part.0 ∙ ap (λ k. lines_left strings (Many (c.args.word.now ∷ []) k ∷ awaited) (view c.read_pair.new.listing)) (omega arith), part.1);
}

pub returns-then-not-is_at-clause-all : goal.returns-then-not-is_at-clause-all
returns-then-not-is_at-clause-all c = all_read c.loop-place.invariant.read (omega arith)

pub returns-then-not-is_at-clause-left : goal.returns-then-not-is_at-clause-left
returns-then-not-is_at-clause-left c = λ forms strings awaited table good.
    let far = c.loop-place.invariant.left forms strings awaited table good in
    (far.0 ∙ many_none strings (view c.loop-place.listing) (c.args.word.now ∷ []) c.loop-place._place awaited (sym c.if-not-is_at.ensures), far.1)

pub returns-in_err-read_pair-clause-left : goal.returns-in_err-read_pair-clause-left
returns-in_err-read_pair-clause-left c = λ forms strings awaited table good.
    let far = c.loop-place.invariant.left forms strings awaited table good in
    read_err _ _ c.in_err-read_pair.field-0.0 c.from_residual.result (search rules) far.0 (c.in_err-read_pair.ensures.left forms strings awaited c.loop-place._place table far.1 (sym c.if-not-is_at.ensures) (omega arith))

pub returns-in_err-push-clause-left : goal.returns-in_err-push-clause-left
returns-in_err-push-clause-left c = λ forms strings awaited table good. memory_err _ _ _ c.from_residual-in_err-push.result (search rules)

pub returns-then-is_at-clause-left : goal.returns-then-is_at-clause-left
returns-then-is_at-clause-left c = λ forms strings awaited table good.
    let far = c.loop-place.invariant.left forms strings awaited table good in
    far.0 ∙ parts_full strings (c.args.word.now ∷ []) c.loop-place._place awaited (view c.loop-place.listing) (sym c.if-is_at.ensures) (not_below (omega arith))

pub returns-clause-all : goal.returns-clause-all
returns-clause-all c = all_read c.loop-place.invariant.read (omega arith)

pub returns-clause-left : goal.returns-clause-left
returns-clause-left c = λ forms strings awaited table good.
    let far = c.loop-place.invariant.left forms strings awaited table good in
    (far.0 ∙ many_none strings (view c.loop-place.listing) (c.args.word.now ∷ []) c.loop-place._place awaited (sym c.if-is_at.ensures), far.1)
