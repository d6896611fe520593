-- The order of positions.
use Rattle.std.proofs.Common.{◌≡◌, ℕ, ◌<◌, Bool, true, false, not, sym, ap, ◌∙◌, refl, arith}
use Rattle.std.specs.Prelude.{nat_le, Some}
use Rattle.std.specs.Ordering.{is_le, is_lt, is_gt, nat_cmp, ordering_then, partial_ordering_then, is_some_and, ordering_reverse, MatchOrdering}
use Rattle.std.specs.declared.cmp.Ordering.{Ordering}
use Rattle.std.specs.declared.cmp.Ordering.TheVariants.{Less, Equal, Greater}
use Rattle.std.specs.Cmp.{IsTotalOrder}
use Rattle.std.proofs.lemmas.Bool.{true≢false, false≢true, both_ways, le-leb, lt-leb}
use Rattle.std.proofs.lemmas.Cmp.{then_total, on_total, nat_cmp_total, upto, tied_itself, ranked}
use Rattle.pex_set.specs.Inherited.{Names, Position, position_cmp, is_up_to}

pub position_total : IsTotalOrder position_cmp
position_total =
    then_total (then_total (on_total (λ (p : Position). p.0.0) nat_cmp_total) (on_total (λ (p : Position). p.0.1) nat_cmp_total)) (on_total (λ (p : Position). p.1) nat_cmp_total)

gt-false : (o : Ordering) → is_le o ≡ true → is_gt o ≡ false
gt-false Less h = refl
gt-false Equal h = refl
gt-false Greater h = absurd (false≢true h)

le-true : (o : Ordering) → is_gt o ≡ false → is_le o ≡ true
le-true Less h = refl
le-true Equal h = refl
le-true Greater h = absurd (true≢false h)

pub is_up_to-trans : (a b c : Position) → is_up_to a b ≡ true → is_up_to b c ≡ true → is_up_to a c ≡ true
unfolding is_up_to
is_up_to-trans a b c h k = le-true _ (upto position_total a b c (gt-false _ h) (gt-false _ k))

le_turned : (o : Ordering) → is_le o ≡ false → is_le (ordering_reverse o) ≡ true
le_turned Less h = absurd (true≢false h)
le_turned Equal h = absurd (true≢false h)
le_turned Greater h = refl

pub is_up_to-total : (a b : Position) → is_up_to a b ≡ false → is_up_to b a ≡ true
unfolding is_up_to
is_up_to-total a b h = ap is_le (position_total.antisymm b a) ∙ le_turned _ h

pub falsely : (t : Bool) → (t ≡ true → ⊥) → t ≡ false
falsely true h = absurd (h refl)
falsely false h = refl

-- what comes up to another that comes not up to a third comes not up to it either
pub not_up-before : (a b c : Position) → is_up_to a b ≡ true → is_up_to a c ≡ false → is_up_to b c ≡ false
not_up-before a b c h k = falsely _ (λ e. both_ways _ k (is_up_to-trans a b c h e))

pub not_up-behind : (a b c : Position) → is_up_to b c ≡ true → is_up_to a c ≡ false → is_up_to a b ≡ false
not_up-behind a b c h k = falsely _ (λ e. both_ways _ k (is_up_to-trans a b c e h))

refl_by : (a : Position) (t : Bool) → is_up_to a a ≡ t → is_up_to a a ≡ true
refl_by a true e = e
refl_by a false e = is_up_to-total a a e

pub is_up_to-refl : (a : Position) → is_up_to a a ≡ true
is_up_to-refl a = refl_by a _ refl

lt_turned : (o : Ordering) → is_lt (ordering_reverse o) ≡ not (is_le o)
lt_turned Less = refl
lt_turned Equal = refl
lt_turned Greater = refl

pub lt-not_up : (a b : Position) → is_lt (position_cmp a b) ≡ not (is_up_to b a)
unfolding is_up_to
lt-not_up a b = ap is_lt (position_total.antisymm a b) ∙ lt_turned _

names_cmp : Names → Names → Ordering
names_cmp a b = ordering_then (nat_cmp a.0 b.0) (nat_cmp a.1 b.1)

then-Equal : (o p : Ordering) → ordering_then o p ≡ Equal → (o ≡ Equal) × (p ≡ Equal)
then-Equal Less p h = absurd (true≢false (ap is_lt h))
then-Equal Equal p h = (refl, h)
then-Equal Greater p h = absurd (true≢false (ap is_gt h))

names-same : (a b : Names) → names_cmp a b ≡ Equal → a ≡ b
unfolding names_cmp
names-same a b h =
    let both = then-Equal (nat_cmp a.0 b.0) (nat_cmp a.1 b.1) h in
    let first : a.0 ≡ b.0 = ranked a.0 b.0 Equal (sym both.0) in
    let second : a.1 ≡ b.1 = ranked a.1 b.1 Equal (sym both.1) in
    λ i. (first i, second i)

le_ranked : (o : Ordering) (x y : ℕ) → MatchOrdering o (x < y) (x ≡ y) (y < x) → is_le o ≡ nat_le x y
le_ranked Less x y h = sym (le-leb x y (omega arith))
le_ranked Equal x y h = sym (le-leb x y (omega arith))
le_ranked Greater x y h = sym (lt-leb x y h)

nat_cmp-le : (x y : ℕ) → is_le (nat_cmp x y) ≡ nat_le x y
nat_cmp-le x y = le_ranked _ x y (ranked x y _ refl)

names_tie : (names : Names) → names_cmp names names ≡ Equal
unfolding names_cmp
names_tie names =
    tied_itself (then_total (on_total (λ (p : Names). p.0) nat_cmp_total) (on_total (λ (p : Names). p.1) nat_cmp_total)) names

-- at the same names the ranks decide
pub is_up_to-same : (names : Names) (x y : ℕ) → is_up_to (names, x) (names, y) ≡ nat_le x y
unfolding is_up_to names_cmp
is_up_to-same names x y = ap (λ o. is_le (ordering_then o (nat_cmp x y))) (names_tie names) ∙ nat_cmp-le x y

between : (o : Ordering) (p q : Ordering) → is_le (ordering_then o p) ≡ true → is_le (ordering_then o q) ≡ false → o ≡ Equal
between Less p q h k = absurd (true≢false k)
between Equal p q h k = refl
between Greater p q h k = absurd (false≢true h)

-- between two positions of some names there is no position of others
pub names-between : (names other : Names) (start end rank : ℕ) → is_up_to (names, start) (other, rank) ≡ true → is_up_to (names, end) (other, rank) ≡ false → names ≡ other
unfolding is_up_to names_cmp
names-between names other start end rank h k =
    names-same names other (between (names_cmp names other) (nat_cmp start rank) (nat_cmp end rank) h k)

partial_then : (o p : Ordering) → partial_ordering_then (Some o) (Some p) ≡ Some (ordering_then o p)
partial_then Less p = refl
partial_then Equal p = refl
partial_then Greater p = refl

-- what `<=` answers of two positions
pub is_up_to-partial : (a b : Position) → is_some_and is_le (partial_ordering_then (partial_ordering_then (Some (nat_cmp a.0.0 b.0.0)) (Some (nat_cmp a.0.1 b.0.1))) (Some (nat_cmp a.1 b.1))) ≡ is_up_to a b
unfolding is_up_to names_cmp
is_up_to-partial a b =
    ap (λ r. is_some_and is_le (partial_ordering_then r (Some (nat_cmp a.1 b.1)))) (partial_then (nat_cmp a.0.0 b.0.0) (nat_cmp a.0.1 b.0.1)) ∙ ap (is_some_and is_le) (partial_then (names_cmp a.0 b.0) (nat_cmp a.1 b.1))
