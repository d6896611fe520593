-- A break is told at a line of the text.
use Rattle.std.proofs.Common.{◌≡◌, ℕ, suc, ◌+◌, ◌<◌, ◌≤◌, ◌==◌, ◌&&◌, Bool, true, false, cond, List, [], ◌∷◌, length, Some, None, refl, sym, ap, ◌∙◌, ⊎_elim, arith}
use Rattle.std.proofs.lemmas.Bool.{cases_Bool, cond-true, cond-false, lt-ltb}
use Rattle.pex_listing.specs.Assembled.{TellsFault, told_line}
use Rattle.pex_listing.specs.Breaks.{Awaited, Break, Outcome, Passed, Place, Refused, all_parts, before_byte, behind_byte, behind_line, between, break_from, first_of, left_after, list_break, may_end, read_line}
use Rattle.pex_listing.proofs.Leaving.{between_cut, cut_behind}
use Rattle.pex_listing.specs.declared.faults.ListingFault.TheVariants.{Broken}
use Rattle.pex_listing.specs.declared.faults.ListingRule.{ListingRule}
use Rattle.pex_listing.specs.declared.faults.ListingRule.TheVariants.{End}

abbrev told : ℕ → ListingRule → Break
told n rule = Some (n, rule)

same_line : (m n : ℕ) (a b : ListingRule) → told m a ≡ told n b → m ≡ n
same_line m n a b e = ap number e
  where
    number : Break → ℕ
    number None = 0
    number (Some first) = first.0

none_some : (n : ℕ) (rule : ListingRule) → None ≡ told n rule → ⊥
none_some n rule e = cc

ended_by : (ends : Bool) (k n : ℕ) (rule : ListingRule) → cond ends None (told k End) ≡ told n rule → k ≡ n
ended_by true k n rule is = absurd (none_some n rule is)
ended_by false k n rule is = same_line k n End rule is

module _ (n : ℕ) (rule : ListingRule) where
  line_of_first : (p : Place) (awaited : List Awaited) (o : Outcome) (lines : List (List ℕ)) → ((q : Place) → break_from q lines ≡ told n rule → n < q.number + length lines)
      → first_of p.number o (break_from (behind_line p awaited o) lines) ≡ told n rule → n < p.number + suc (length lines)
  line_of_first p awaited (Refused broken) lines behind is = let here : p.number ≡ n = same_line p.number n broken rule is in omega (arith, here)
  line_of_first p awaited (Passed room inside added) lines behind is = let there = behind (behind_line p awaited (Passed room inside added)) is in omega (arith, there)

  line_within : (lines : List (List ℕ)) (p : Place) → break_from p lines ≡ told n rule → n < p.number + length lines
  unfolding break_from
  line_within [] p is = absurd (none_some n rule is)
  line_within (last ∷ []) p is = let here : p.number ≡ n = ended_by (may_end p.awaited && length last == 0) p.number n rule is in omega (arith, here)
  line_within (text ∷ next ∷ more) p is =
      line_of_first p (left_after p.awaited (before_byte 32 text)) (read_line p (before_byte 32 text) (behind_byte 32 text)) (next ∷ more) (λ q at. line_within (next ∷ more) q at) is

  pieces_behind : (text : List ℕ) → length (cut_behind 10 (behind_byte 10 text)) ≤ length text
  pieces_behind [] = omega arith
  pieces_behind (b ∷ t) = ⊎_elim
      (λ (is : (b == 10) ≡ true).
      let cut : length (cut_behind 10 (behind_byte 10 (b ∷ t))) ≡ length (between 10 t) = ap (λ o. length (cut_behind 10 o)) (cond-true _ _ _ is) in
      let step : length (between 10 t) ≡ suc (length (cut_behind 10 (behind_byte 10 t))) = ap length (between_cut 10 t) in
      omega (arith, cut, step, pieces_behind t))
      (λ (is : (b == 10) ≡ false).
      let cut : length (cut_behind 10 (behind_byte 10 (b ∷ t))) ≡ length (cut_behind 10 (behind_byte 10 t)) = ap (λ o. length (cut_behind 10 o)) (cond-false _ _ _ is) in
      omega (arith, cut, pieces_behind t))
      (cases_Bool (b == 10))

  pieces : (text : List ℕ) → length (between 10 text) ≤ suc (length text)
  pieces text = let cut : length (between 10 text) ≡ suc (length (cut_behind 10 (behind_byte 10 text))) = ap length (between_cut 10 text) in omega (arith, cut, pieces_behind text)

  pub break_line : (text : List ℕ) → list_break text ≡ told n rule → n ≤ suc (length text)
  break_line text is = let within = line_within (between 10 text) (record { awaited = all_parts; strings = []; room = 16777187; number = 1 }) is in omega (arith, within, pieces text)

-- in a text whose lines 32 bits count, the line is told as it is
pub told_exactly : (text : List ℕ) (line : ℕ) (rule : ListingRule) → length text < 4294967295 → TellsFault (list_break text) (Broken line rule) → list_break text ≡ Some (line, rule)
told_exactly text line rule small tells = by (list_break text) (λ n broken at. break_line n broken text at) tells
  where
    by : (first : Break) → ((n : ℕ) (broken : ListingRule) → first ≡ told n broken → n ≤ suc (length text)) → TellsFault first (Broken line rule) → first ≡ told line rule
    by None within is = absurd (none_some line rule is)
    by (Some found) within is =
        let few : told_line found.0 ≡ found.0 = cond-true _ _ _ (lt-ltb found.0 4294967296 (omega (arith, within found.0 found.1 refl))) in
        ap (λ k. told k found.1) (sym few) ∙ is
