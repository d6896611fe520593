-- The sleepers that are due, without the first of them.
use Rattle.std.proofs.Common.{◌≡◌, ℕ, suc, ◌+◌, ◌<◌, ◌≤◌, Bool, true, false, not, cond, List, [], ◌∷◌, ◌++◌, length, Option, Some, None, refl, sym, ap, subst, ◌∙◌, arith}
use Rattle.std.specs.Prelude.{slice_set, position}
use Rattle.std.specs.List.{filter, position_from}
use Rattle.std.proofs.lemmas.Iterator.Adapters.{position_from-zero}
use Rattle.std.proofs.Math.Dec.{eqb}
use Rattle.std.proofs.lemmas.Bool.{eqb-true}
use Rattle.latent_natives.specs.Sleepers as sleeps
use Rattle.run_laws.specs.Exclusive.{first_is, how_many}
use Rattle.script_meaning.specs.Turns.{is_due, not_due}
use Rattle.stack_places.specs.Lists.{pair_of, pairs_from}

-- the first that is due is the one of this number, from a first number on
pub record FirstDue (turn n m : ℕ) (xs : List (Option ℕ)) : Type 0 where
  pub k : ℕ
  pub number : m ≡ n + k
  pub within : k < length xs
  pub until : ℕ
  pub due : filter (is_due turn) (pairs_from n xs) ≡ (m, until) ∷ filter (is_due turn) (pairs_from n (slice_set xs k None))
  pub rest : filter (not_due turn) (pairs_from n (slice_set xs k None)) ≡ filter (not_due turn) (pairs_from n xs)
  pub later : (j : ℕ) → 1 ≤ how_many (first_is j) (filter (is_due turn) (pairs_from n (slice_set xs k None))) → m < j

-- those from a number on have no lower one
due_from : (turn n j : ℕ) (xs : List (Option ℕ)) → 1 ≤ how_many (first_is j) (filter (is_due turn) (pairs_from n xs)) → n ≤ j
due_from turn n j [] h = absurd (omega (arith, h))
due_from turn n j (None ∷ xs) h = let more = due_from turn (suc n) j xs h in omega (arith, more)
due_from turn n j (Some until ∷ xs) h = due_by (is_due turn (n, until)) (eqb n j) refl (due_from turn (suc n) j xs) h where
  due_by : (t b : Bool) → eqb n j ≡ b → (1 ≤ how_many (first_is j) (filter (is_due turn) (pairs_from (suc n) xs)) → suc n ≤ j) → 1 ≤ how_many (first_is j) (cond t ((n, until) ∷ filter (is_due turn) (pairs_from (suc n) xs)) (filter (is_due turn) (pairs_from (suc n) xs))) → n ≤ j
  due_by false b e more g = let later = more g in omega (arith, later)
  due_by true true e more g = let same = eqb-true n j e in omega (arith, same)
  due_by true false e more g =
      let none = ap {B = ℕ} (λ t. cond t 1 0) e in
      let later = more (omega (arith, g, none)) in
      omega (arith, later)

passed_due : (turn n : ℕ) (x : Option ℕ) (rest : List (ℕ × ℕ)) → sleeps.is_due turn x ≡ false → filter (is_due turn) (pair_of n x ++ rest) ≡ filter (is_due turn) rest
passed_due turn n None rest h = refl
passed_due turn n (Some until) rest h =
    ap (λ t. cond t ((n, until) ∷ filter (is_due turn) rest) (filter (is_due turn) rest)) h

same_rest : (turn n : ℕ) (x : Option ℕ) (rest set : List (ℕ × ℕ)) → filter (not_due turn) set ≡ filter (not_due turn) rest → filter (not_due turn) (pair_of n x ++ set) ≡ filter (not_due turn) (pair_of n x ++ rest)
same_rest turn n None rest set h = h
same_rest turn n (Some until) rest set h =
    same_by (is_due turn (n, until)) where
      same_by : (t : Bool) → cond (not t) ((n, until) ∷ filter (not_due turn) set) (filter (not_due turn) set) ≡ cond (not t) ((n, until) ∷ filter (not_due turn) rest) (filter (not_due turn) rest)
      same_by true = h
      same_by false = ap (λ ps. (n, until) ∷ ps) h

here_due : (turn n m : ℕ) (x : Option ℕ) (xs : List (Option ℕ)) → sleeps.is_due turn x ≡ true → n ≡ m → FirstDue turn n m (x ∷ xs)
here_due turn n m None xs h e = absurd (cc)
here_due turn n m (Some until) xs h e = record {
  k = 0;
  number = omega (arith, e);
  within = omega arith;
  until = until;
  due = ap (λ t. cond t ((n, until) ∷ filter (is_due turn) (pairs_from (suc n) xs)) (filter (is_due turn) (pairs_from (suc n) xs))) h ∙ ap (λ i. (i, until) ∷ filter (is_due turn) (pairs_from (suc n) xs)) e;
  rest = sym (ap (λ t. cond (not t) ((n, until) ∷ filter (not_due turn) (pairs_from (suc n) xs)) (filter (not_due turn) (pairs_from (suc n) xs))) h);
  later = λ j g. let more = due_from turn (suc n) j xs g in omega (arith, more, e);
}

later_due : (turn n m : ℕ) (x : Option ℕ) (xs : List (Option ℕ)) → sleeps.is_due turn x ≡ false → FirstDue turn (suc n) m xs → FirstDue turn n m (x ∷ xs)
later_due turn n m x xs h found =
    let number = found.number in
    let within = found.within in record {
      k = suc found.k;
      number = omega (arith, number);
      within = omega (arith, within);
      until = found.until;
      due = passed_due turn n x (pairs_from (suc n) xs) h ∙ (found.due ∙ ap (λ ps. (m, found.until) ∷ ps) (sym (passed_due turn n x (pairs_from (suc n) (slice_set xs found.k None)) h)));
      rest = same_rest turn n x (pairs_from (suc n) xs) (pairs_from (suc n) (slice_set xs found.k None)) found.rest;
      later = λ j g. found.later j (subst (λ (ps : List (ℕ × ℕ)). 1 ≤ how_many (first_is j) ps) (passed_due turn n x (pairs_from (suc n) (slice_set xs found.k None)) h) g);
    }

first_due : (turn n m : ℕ) (xs : List (Option ℕ)) → position_from (sleeps.is_due turn) n xs ≡ Some m → FirstDue turn n m xs
first_due turn n m [] h = absurd (cc)
first_due turn n m (x ∷ xs) h =
    let next : n + 1 ≡ suc n = omega arith in
    first_by (sleeps.is_due turn x) refl (λ e. first_due turn (suc n) m xs (sym (ap (λ j. position_from (sleeps.is_due turn) j xs) next) ∙ e)) h where
      first_by : (t : Bool) → sleeps.is_due turn x ≡ t → (position_from (sleeps.is_due turn) (n + 1) xs ≡ Some m → FirstDue turn (suc n) m xs) → cond t (Some n) (position_from (sleeps.is_due turn) (n + 1) xs) ≡ Some m → FirstDue turn n m (x ∷ xs)
      first_by true e more h =
          let same : n ≡ m = cc in
          here_due turn n m x xs e same
      first_by false e more h = later_due turn n m x xs e (more h)

pub due_first : (turn m : ℕ) (xs : List (Option ℕ)) → position (sleeps.is_due turn) xs ≡ Some m → FirstDue turn 0 m xs
due_first turn m xs h = first_due turn 0 m xs (sym (position_from-zero (sleeps.is_due turn) xs) ∙ h)

none_from : (turn n : ℕ) (xs : List (Option ℕ)) → position_from (sleeps.is_due turn) n xs ≡ None → filter (is_due turn) (pairs_from n xs) ≡ []
none_from turn n [] h = refl
none_from turn n (x ∷ xs) h =
    let next : n + 1 ≡ suc n = omega arith in
    none_by (sleeps.is_due turn x) refl (λ e. none_from turn (suc n) xs (sym (ap (λ j. position_from (sleeps.is_due turn) j xs) next) ∙ e)) h where
      none_by : (t : Bool) → sleeps.is_due turn x ≡ t → (position_from (sleeps.is_due turn) (n + 1) xs ≡ None → filter (is_due turn) (pairs_from (suc n) xs) ≡ []) → cond t (Some n) (position_from (sleeps.is_due turn) (n + 1) xs) ≡ None → filter (is_due turn) (pairs_from n (x ∷ xs)) ≡ []
      none_by true e more h = absurd (cc)
      none_by false e more h = passed_due turn n x (pairs_from (suc n) xs) e ∙ more h

pub due_none : (turn : ℕ) (xs : List (Option ℕ)) → position (sleeps.is_due turn) xs ≡ None → filter (is_due turn) (pairs_from 0 xs) ≡ []
due_none turn xs h = none_from turn 0 xs (sym (position_from-zero (sleeps.is_due turn) xs) ∙ h)
