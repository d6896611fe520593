use Rattle.std.proofs.Common.{length, length-append, arith, ◌≡◌, ℕ, true, List, [], ◌∷◌, sym, ap, ◌∙◌, rules}
use Rattle.std.specs.Prelude.{codes}
use Rattle.std.proofs.lemmas.Grind.{common_steps}
use Rattle.pex_values.specs.Fit.{IsCounted}
use Rattle.pex_values.specs.Spelling as spell
use Rattle.pex_listing.specs.Lines.{string_line}
use Rattle.pex_listing.proofs.Parts.{lines_none, one_more, all_read}
use Rattle.pex_listing.proofs.Taken.{lines_of}
use Rattle.pex_listing.specs.Breaks.{Many, is_added}
use Rattle.pex_listing.specs.Left.{begins, lines_left, view}
use Rattle.pex_listing.proofs.Opening.{table_same, many_may, many_none, parts_full, not_below, read_err, memory_err, string_form}
use Rattle.pex_listing.proofs.assembling.read_strings.Goals as goal

pub loop-place-init : goal.loop-place-init
loop-place-init c = record {
  read = lines_none IsCounted spell.string (string_line (codes "string")) c.args.listing.now _ c.new-strings.ensures.items;
  count = grind (arith, common_steps);
  left = λ awaited good. (ap (λ (s : List (List ℕ)). lines_left s (Many (codes "string" ∷ []) 0 ∷ awaited) (view c.args.listing.now)) (sym c.new-strings.ensures.items), good);
}

pub loop-place-preserved : goal.loop-place-preserved
loop-place-preserved c =
    let text = c.in_ok-read_string.field-0 in
    let line = lines_of (omega (arith, length-append (spell.two_bytes (length text)) text)) c.in_ok-read_string.ensures.line in
    record {
      read = one_more text _ c.loop-place.invariant.read c.in_ok-read_string.ensures.counted line c.in_ok-push.ensures.items;
      count = grind (arith, common_steps);
      left = λ awaited good.
          let at : begins (codes "string" ∷ []) (view c.loop-place.listing) ≡ true = sym c.if-not-is_at.ensures in
          let k = c.loop-place._place in
          let strings = c.loop-place.strings.items in
          let far = c.loop-place.invariant.left awaited good in
          let line = c.in_ok-read_string.ensures.left strings (Many (codes "string" ∷ []) k ∷ awaited) is_added (λ s t. string_form s t) far.1 (many_may strings awaited (codes "string") k (view c.loop-place.listing) at (omega arith)) in
          (far.0 ∙ line.0 ∙ table_same _ _ _ c.in_ok-push.ensures.items (omega arith), line.1);
    }

pub returns-then-not-is_at-clause-all : goal.returns-then-not-is_at-clause-all
returns-then-not-is_at-clause-all c = all_read c.loop-place.invariant.read (omega arith)

pub returns-then-not-is_at-clause-left : goal.returns-then-not-is_at-clause-left
returns-then-not-is_at-clause-left c = λ awaited good.
    let far = c.loop-place.invariant.left awaited good in
    (far.0 ∙ many_none c.loop-place.strings.items (view c.loop-place.listing) (codes "string" ∷ []) c.loop-place._place awaited (sym c.if-not-is_at.ensures), far.1)

pub returns-in_err-read_string-clause-left : goal.returns-in_err-read_string-clause-left
returns-in_err-read_string-clause-left c = λ awaited good.
    let at : begins (codes "string" ∷ []) (view c.loop-place.listing) ≡ true = sym c.if-not-is_at.ensures in
    let k = c.loop-place._place in
    let strings = c.loop-place.strings.items in
    let far = c.loop-place.invariant.left awaited good in
    read_err _ _ c.in_err-read_string.field-0.0 c.from_residual.result (search rules) far.0
    (c.in_err-read_string.ensures.left strings (Many (codes "string" ∷ []) k ∷ awaited) is_added (λ s t. string_form s t) far.1 (many_may strings awaited (codes "string") k (view c.loop-place.listing) at (omega arith)))

pub returns-in_err-push-clause-left : goal.returns-in_err-push-clause-left
returns-in_err-push-clause-left c = λ awaited good. memory_err _ _ _ c.from_residual-in_err-push.result (search rules)

pub returns-then-is_at-clause-left : goal.returns-then-is_at-clause-left
returns-then-is_at-clause-left c = λ awaited good.
    let far = c.loop-place.invariant.left awaited good in
    far.0 ∙ parts_full c.loop-place.strings.items (codes "string" ∷ []) c.loop-place._place awaited (view c.loop-place.listing) (sym c.if-is_at.ensures) (not_below (omega arith))

pub returns-clause-all : goal.returns-clause-all
returns-clause-all c = all_read c.loop-place.invariant.read (omega arith)

pub returns-clause-left : goal.returns-clause-left
returns-clause-left c = λ awaited good.
    let far = c.loop-place.invariant.left awaited good in
    (far.0 ∙ many_none c.loop-place.strings.items (view c.loop-place.listing) (codes "string" ∷ []) c.loop-place._place awaited (sym c.if-is_at.ensures), far.1)
