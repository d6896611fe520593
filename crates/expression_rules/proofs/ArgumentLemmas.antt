-- Arguments that are placed one after another, each for a parameter of its own.
use Rattle.std.proofs.Common.{◌≡◌, ◌<◌, ℕ, zero, suc, Bool, true, false, List, [], ◌∷◌, ◌++◌, length, set, refl, sym, ap, subst, ◌∙◌, arith, ⊎_elim, length-append, length-set}
use Rattle.std.specs.Prelude.{Some, nat_eq, slice_get}
use Rattle.std.specs.List.{All, IsDistinct, list_any}
use Rattle.std.proofs.lemmas.Bool.{cases_eq}
use Rattle.std.proofs.lemmas.Bool.Decides.{nat_tests}
use Rattle.std.proofs.lemmas.Cmp.{nat_eq_equiv}
use Rattle.std.proofs.lemmas.List.Elements.{All-nil, All-head, All-push, All-same, All-tail, All-weaker}
use Rattle.std.proofs.lemmas.Map.Keys.{IsDistinct-push}
use Rattle.std.proofs.lemmas.Option.{slice_get_within}
use Rattle.core_tree.specs.declared.expression.Core.{Core}
use Rattle.core_tree.specs.InRange.{Bounds}
use Rattle.expression_rules.specs.Ranges.{ArgumentsInRange, CompleteInRange, CoreInRange}
use Rattle.expression_rules.specs.declared.calls.Arguments.{Arguments}

marked-stays : (marks : List Bool) (i place : ℕ) → slice_get marks place ≡ Some true → slice_get (set marks i true) place ≡ Some true
marked-stays [] i place is = is
marked-stays (mark ∷ marks) zero zero is = refl
marked-stays (mark ∷ marks) zero (suc place) is = is
marked-stays (mark ∷ marks) (suc i) zero is = is
marked-stays (mark ∷ marks) (suc i) (suc place) is = marked-stays marks i place is

marked-now : (marks : List Bool) (place : ℕ) → place < length marks → slice_get (set marks place true) place ≡ Some true
marked-now [] place within = absurd (omega arith)
marked-now (mark ∷ marks) zero within = refl
marked-now (mark ∷ marks) (suc place) within = marked-now marks place (omega arith)

-- a parameter that isn't marked has none of the arguments
unmarked : (marks : List Bool) (place : ℕ) → slice_get marks place ≡ Some false → (places : List ℕ) → All (λ p. slice_get marks p ≡ Some true) places → list_any (nat_eq place) places ≡ false
unmarked marks place free [] marked = refl
unmarked marks place free (p ∷ ps) marked =
    let rest : list_any (nat_eq place) ps ≡ false = unmarked marks place free ps (All-tail (λ p. slice_get marks p ≡ Some true) p ps marked) in
    let first : slice_get marks p ≡ Some true = All-head (λ p. slice_get marks p ≡ Some true) p ps marked in
    ⊎_elim
    (λ (same : place ≡ p). let both : slice_get marks p ≡ Some false = subst (λ (q : ℕ). slice_get marks q ≡ Some false) same free in cc)
    (λ other. let differ : nat_eq place p ≡ false = grind (arith, nat_tests) in rw differ rest)
    (cases_eq place p)

pub arguments-none : (b : Bounds) (count : ℕ) (found : Arguments) → found.cores.items ≡ [] → found.places.items ≡ [] → length found.filled.items ≡ count → ArgumentsInRange b count found
unfolding IsDistinct
arguments-none b count found no_cores no_places counted = record {
  cores = All-same (CoreInRange b) found.cores.items [] no_cores (All-nil (CoreInRange b));
  numbered = ap length no_places ∙ sym (ap length no_cores);
  marked = All-same (λ place. slice_get found.filled.items place ≡ Some true) found.places.items [] no_places (All-nil (λ place. slice_get found.filled.items place ≡ Some true));
  different = subst (IsDistinct nat_eq) (sym no_places) tt;
  counted = counted;
}

-- one argument more, for a parameter that had none
pub arguments-more : (b : Bounds) (count : ℕ) (old new : Arguments) (place : ℕ) (core : Core) → slice_get old.filled.items place ≡ Some false → new.filled.items ≡ set old.filled.items place true →
    new.cores.items ≡ old.cores.items ++ core ∷ [] → new.places.items ≡ old.places.items ++ place ∷ [] → ArgumentsInRange b count old → CoreInRange b core → ArgumentsInRange b count new
arguments-more b count old new place core free marks cores places so_far here =
    let Marked : ℕ → Type 0 = λ p. slice_get new.filled.items p ≡ Some true in
    let stays : (p : ℕ) → slice_get old.filled.items p ≡ Some true → Marked p = λ p is. ap (λ (ms : List Bool). slice_get ms p) marks ∙ marked-stays old.filled.items place p is in
    let now : Marked place = ap (λ (ms : List Bool). slice_get ms place) marks ∙ marked-now old.filled.items place (slice_get_within old.filled.items place false free) in
    record {
      cores = All-same (CoreInRange b) new.cores.items (old.cores.items ++ core ∷ []) cores (All-push (CoreInRange b) old.cores.items core so_far.cores here);
      numbered = omega (arith, ap length cores, ap length places, length-append old.cores.items (core ∷ []), length-append old.places.items (place ∷ []), so_far.numbered);
      marked = All-same Marked new.places.items (old.places.items ++ place ∷ []) places (All-push Marked old.places.items place (All-weaker (λ p. slice_get old.filled.items p ≡ Some true) Marked stays old.places.items so_far.marked) now);
      different = subst (IsDistinct nat_eq) (sym places) (IsDistinct-push nat_eq_equiv old.places.items place so_far.different (unmarked old.filled.items place free old.places.items so_far.marked));
      counted = ap length marks ∙ length-set old.filled.items place true ∙ so_far.counted;
    }

-- as many arguments as parameters
pub arguments-all : (b : Bounds) (count : ℕ) (found : Arguments) → length found.cores.items ≡ length found.filled.items → ArgumentsInRange b count found → CompleteInRange b count found
arguments-all b count found all so_far =
    let inside : (p : ℕ) → slice_get found.filled.items p ≡ Some true → p < count = λ p is. subst (λ (n : ℕ). p < n) so_far.counted (slice_get_within found.filled.items p true is) in
    record {
      cores = so_far.cores;
      counted = all ∙ so_far.counted;
      places = record {
        one_each = so_far.numbered ∙ all ∙ so_far.counted;
        within = All-weaker (λ p. slice_get found.filled.items p ≡ Some true) (λ p. p < count) inside found.places.items so_far.marked;
        different = so_far.different;
      };
    }
