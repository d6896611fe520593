use Rattle.std.proofs.Common.{vec_len, arith, ◌∷◌, refl, ap, ◌∙◌, rules, sym}
use Rattle.std.proofs.lemmas.Grind.{common_steps}
use Rattle.pex_listing.specs.Spelled.{spelled_in}
use Rattle.pex_listing.proofs.Parts.{lines_none, one_more, all_read}
use Rattle.pex_listing.specs.Breaks.{Many}
use Rattle.pex_listing.specs.Left.{lines_left, view}
use Rattle.pex_listing.proofs.Opening.{many_none, parts_full, not_below, read_err, memory_err}
use Rattle.pex_listing.proofs.listing.read_all.Goals as goal

pub loop-place-init : goal.loop-place-init
loop-place-init g c = record {
  read = lines_none (g.T.Item.holds (vec_len c.args.names.now.spelled)) g.T.Item.spelling (g.T.Item.lines (spelled_in c.args.names.now)) c.args.listing.now _ c.new-parts.ensures.items;
  count = grind (arith, common_steps);
  left = λ strings awaited table good. (refl, good);
}

pub loop-place-preserved : goal.loop-place-preserved
loop-place-preserved g c = record {
  read = one_more c.in_ok-read.field-0 _ c.loop-place.invariant.read c.in_ok-read.ensures.holds c.in_ok-read.ensures.lines c.in_ok-push.ensures.items;
  count = grind (arith, common_steps);
  left = λ strings awaited table good.
      let far = c.loop-place.invariant.left strings awaited table good in
      let part = c.in_ok-read.ensures.left strings awaited c.loop-place._place table far.1 (sym c.if-not-is_next.ensures) (omega arith) in
      (far.0 ∙ part.0 ∙ ap (λ k. lines_left strings (Many g.T.Item.words k ∷ awaited) (view c.read.new.listing)) (omega arith), part.1);
}

pub returns-then-not-is_next-clause-all : goal.returns-then-not-is_next-clause-all
returns-then-not-is_next-clause-all g c = all_read c.loop-place.invariant.read (omega arith)

pub returns-then-not-is_next-clause-left : goal.returns-then-not-is_next-clause-left
returns-then-not-is_next-clause-left g c = λ strings awaited table good.
    let far = c.loop-place.invariant.left strings awaited table good in
    (far.0 ∙ many_none strings (view c.loop-place.listing) g.T.Item.words c.loop-place._place awaited (sym c.if-not-is_next.ensures), far.1)

pub returns-in_err-read-clause-left : goal.returns-in_err-read-clause-left
returns-in_err-read-clause-left g c = λ strings awaited table good.
    let far = c.loop-place.invariant.left strings awaited table good in
    read_err _ _ c.in_err-read.field-0.0 c.from_residual.result (search rules) far.0 (c.in_err-read.ensures.left strings awaited c.loop-place._place table far.1 (sym c.if-not-is_next.ensures) (omega arith))

pub returns-in_err-push-clause-left : goal.returns-in_err-push-clause-left
returns-in_err-push-clause-left g c = λ strings awaited table good. memory_err _ _ _ c.from_residual-in_err-push.result (search rules)

pub returns-then-is_next-clause-left : goal.returns-then-is_next-clause-left
returns-then-is_next-clause-left g c = λ strings awaited table good.
    let far = c.loop-place.invariant.left strings awaited table good in
    far.0 ∙ parts_full strings g.T.Item.words c.loop-place._place awaited (view c.loop-place.listing) (sym c.if-is_next.ensures) (not_below (omega arith))

pub returns-clause-all : goal.returns-clause-all
returns-clause-all g c = all_read c.loop-place.invariant.read (omega arith)

pub returns-clause-left : goal.returns-clause-left
returns-clause-left g c = λ strings awaited table good.
    let far = c.loop-place.invariant.left strings awaited table good in
    (far.0 ∙ many_none strings (view c.loop-place.listing) g.T.Item.words c.loop-place._place awaited (sym c.if-is_next.ensures), far.1)
