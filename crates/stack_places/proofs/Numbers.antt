-- Numbers and pairs in order: what is put in, what is taken out, and how often something stands there.
use Rattle.std.proofs.Common.{◌≡◌, ℕ, zero, suc, ◌+◌, ◌<◌, ◌≤◌, Bool, true, false, not, cond, List, [], ◌∷◌, ◌++◌, length, Option, Some, None, is_some, refl, sym, ap, ◌∙◌, arith}
use Rattle.std.specs.Prelude.{slice_index_or, slice_set, nat_lt}
use Rattle.std.specs.List.{filter}
use Rattle.std.proofs.Math.Dec.{eqb}
use Rattle.std.proofs.lemmas.Bool.Decides.{nat_tests}
use Rattle.run_laws.specs.Exclusive.{how_many, is_number, first_is}
use Rattle.script_meaning.specs.Locks.{is_other, with_number, with_pair}
use Rattle.script_meaning.specs.Report.{due_of}
use Rattle.stack_places.specs.Lists.{numbers_of, pair_of, pairs_from}

-- ---- tests on numbers
pub less : (a b : ℕ) → a < b → nat_lt a b ≡ true
less a b h = grind (arith, nat_tests)

pub not_less : (a b : ℕ) → b ≤ a → nat_lt a b ≡ false
not_less a b h = grind (arith, nat_tests)

pub over : (a b : ℕ) → a < b → eqb b a ≡ false
over a b h = grind (arith, nat_tests)

pub under : (a b : ℕ) → a < b → eqb a b ≡ false
under a b h = grind (arith, nat_tests)

pub itself : (a : ℕ) → eqb a a ≡ true
itself a = grind (arith, nat_tests)

pub none_and : (m : ℕ) → 0 + m ≡ m
none_and m = omega arith

-- ---- numbers
module _ {X : Type 0} (test : X → Bool) where
  -- a number below all of them goes first
  first_by : (t : Bool) (n m : ℕ) (rest : List ℕ) → n < m → with_number n rest ≡ n ∷ rest → with_number n (cond t (m ∷ rest) rest) ≡ n ∷ cond t (m ∷ rest) rest
  first_by true n m rest h e = ap (λ t. cond t (n ∷ m ∷ rest) (m ∷ with_number n rest)) (less n m h)
  first_by false n m rest h e = e

  goes_first : (n m : ℕ) (xs : List X) → n < m → with_number n (numbers_of test m xs) ≡ n ∷ numbers_of test m xs
  goes_first n m [] h = refl
  goes_first n m (x ∷ xs) h =
      let later : n < suc m = omega (arith, h) in
      first_by (test x) n m (numbers_of test (suc m) xs) h (goes_first n (suc m) xs later)

  others_by : (t : Bool) (n m : ℕ) (rest : List ℕ) → n < m → filter (is_other n) rest ≡ rest → filter (is_other n) (cond t (m ∷ rest) rest) ≡ cond t (m ∷ rest) rest
  others_by true n m rest h e =
      ap (λ t. cond (not t) (m ∷ filter (is_other n) rest) (filter (is_other n) rest)) (over n m h) ∙ ap (λ ns. m ∷ ns) e
  others_by false n m rest h e = e

  others : (n m : ℕ) (xs : List X) → n < m → filter (is_other n) (numbers_of test m xs) ≡ numbers_of test m xs
  others n m [] h = refl
  others n m (x ∷ xs) h =
      let later : n < suc m = omega (arith, h) in
      others_by (test x) n m (numbers_of test (suc m) xs) h (others n (suc m) xs later)

  into_by : (t : Bool) (n k : ℕ) (rest set : List ℕ) → n < k → set ≡ with_number k rest → cond t (n ∷ set) set ≡ with_number k (cond t (n ∷ rest) rest)
  into_by true n k rest set h e =
      let there : n ≤ k = omega (arith, h) in
      ap (λ ns. n ∷ ns) e ∙ sym (ap (λ t. cond t (k ∷ n ∷ rest) (n ∷ with_number k rest)) (not_less k n there))
  into_by false n k rest set h e = e

  -- one that passes the test takes the place of one that doesn't
  pub put_in : (d x : X) (n k : ℕ) (xs : List X) → k < length xs → test (slice_index_or xs k d) ≡ false → test x ≡ true → numbers_of test n (slice_set xs k x) ≡ with_number (n + k) (numbers_of test n xs)
  put_in d x n k [] h f e = absurd (omega (arith, h))
  put_in d x n zero (y ∷ ys) h f e =
      let next : n < suc n = omega arith in
      let here : n ≡ n + 0 = omega arith in
      ap (λ t. cond t (n ∷ numbers_of test (suc n) ys) (numbers_of test (suc n) ys)) e ∙ (sym (goes_first n (suc n) ys next) ∙ (ap (λ m. with_number m (numbers_of test (suc n) ys)) here ∙ ap (λ t. with_number (n + 0) (cond t (n ∷ numbers_of test (suc n) ys) (numbers_of test (suc n) ys))) (sym f)))
  put_in d x n (suc k) (y ∷ ys) h f e =
      let within : k < length ys = omega (arith, h) in
      let after : n < n + suc k = omega arith in
      let here : suc n + k ≡ n + suc k = omega arith in
      into_by (test y) n (n + suc k) (numbers_of test (suc n) ys) (numbers_of test (suc n) (slice_set ys k x)) after (put_in d x (suc n) k ys within f e ∙ ap (λ m. with_number m (numbers_of test (suc n) ys)) here)

  out_by : (t : Bool) (n k : ℕ) (rest set : List ℕ) → n < k → set ≡ filter (is_other k) rest → cond t (n ∷ set) set ≡ filter (is_other k) (cond t (n ∷ rest) rest)
  out_by true n k rest set h e =
      ap (λ ns. n ∷ ns) e ∙ sym (ap (λ t. cond (not t) (n ∷ filter (is_other k) rest) (filter (is_other k) rest)) (under n k h))
  out_by false n k rest set h e = e

  here_by : (t : Bool) (n : ℕ) (rest : List ℕ) → filter (is_other n) rest ≡ rest → rest ≡ filter (is_other n) (cond t (n ∷ rest) rest)
  here_by true n rest e =
      sym e ∙ sym (ap (λ t. cond (not t) (n ∷ filter (is_other n) rest) (filter (is_other n) rest)) (itself n))
  here_by false n rest e = sym e

  -- one that fails the test takes the place of any
  pub take_out : (x : X) (n k : ℕ) (xs : List X) → test x ≡ false → numbers_of test n (slice_set xs k x) ≡ filter (is_other (n + k)) (numbers_of test n xs)
  take_out x n k [] e = refl
  take_out x n zero (y ∷ ys) e =
      let next : n < suc n = omega arith in
      let here : n ≡ n + 0 = omega arith in
      ap (λ t. cond t (n ∷ numbers_of test (suc n) ys) (numbers_of test (suc n) ys)) e ∙ (here_by (test y) n (numbers_of test (suc n) ys) (others n (suc n) ys next) ∙ ap (λ m. filter (is_other m) (numbers_of test n (y ∷ ys))) here)
  take_out x n (suc k) (y ∷ ys) e =
      let after : n < n + suc k = omega arith in
      let here : suc n + k ≡ n + suc k = omega arith in
      out_by (test y) n (n + suc k) (numbers_of test (suc n) ys) (numbers_of test (suc n) (slice_set ys k x)) after (take_out x (suc n) k ys e ∙ ap (λ m. filter (is_other m) (numbers_of test (suc n) ys)) here)

  kept_by : (t u : Bool) (n : ℕ) (rest set : List ℕ) → t ≡ u → set ≡ rest → cond t (n ∷ set) set ≡ cond u (n ∷ rest) rest
  kept_by t u n rest set e f = ap (λ v. cond v (n ∷ set) set) e ∙ ap (λ ns. cond u (n ∷ ns) ns) f

  -- one that fails the test takes the place of one that fails it
  pub keep_out : (d x : X) (n k : ℕ) (xs : List X) → test (slice_index_or xs k d) ≡ false → test x ≡ false → numbers_of test n (slice_set xs k x) ≡ numbers_of test n xs
  keep_out d x n k [] f e = refl
  keep_out d x n zero (y ∷ ys) f e =
      kept_by (test x) (test y) n (numbers_of test (suc n) ys) (numbers_of test (suc n) ys) (e ∙ sym f) refl
  keep_out d x n (suc k) (y ∷ ys) f e =
      kept_by (test y) (test y) n (numbers_of test (suc n) ys) (numbers_of test (suc n) (slice_set ys k x)) refl (keep_out d x (suc n) k ys f e)

  -- ---- how often a number stands there
  none_by : (t : Bool) (k m : ℕ) (rest : List ℕ) → k < m → how_many (is_number k) rest ≡ 0 → how_many (is_number k) (cond t (m ∷ rest) rest) ≡ 0
  none_by true k m rest h e =
      ap (λ t. cond t 1 0 + how_many (is_number k) rest) (over k m h) ∙ (none_and (how_many (is_number k) rest) ∙ e)
  none_by false k m rest h e = e

  pub none_below : (k n : ℕ) (xs : List X) → k < n → how_many (is_number k) (numbers_of test n xs) ≡ 0
  none_below k n [] h = refl
  none_below k n (x ∷ xs) h =
      let later : k < suc n = omega (arith, h) in
      none_by (test x) k n (numbers_of test (suc n) xs) h (none_below k (suc n) xs later)

  here_counted : (t : Bool) (n : ℕ) (rest : List ℕ) → how_many (is_number n) rest ≡ 0 → how_many (is_number n) (cond t (n ∷ rest) rest) ≡ cond t 1 0
  here_counted true n rest e = ap (λ t. cond t 1 0 + how_many (is_number n) rest) (itself n) ∙ ap (λ m. 1 + m) e
  here_counted false n rest e = e

  further_counted : (t : Bool) (k n : ℕ) (rest : List ℕ) → n < k → how_many (is_number k) (cond t (n ∷ rest) rest) ≡ how_many (is_number k) rest
  further_counted true k n rest h =
      ap (λ t. cond t 1 0 + how_many (is_number k) rest) (under n k h) ∙ none_and (how_many (is_number k) rest)
  further_counted false k n rest h = refl

  -- once where the one of this number passes the test
  pub counted : (d : X) (n k : ℕ) (xs : List X) → test d ≡ false → how_many (is_number (n + k)) (numbers_of test n xs) ≡ cond (test (slice_index_or xs k d)) 1 0
  counted d n k [] e = sym (ap (λ t. cond t 1 0) e)
  counted d n zero (x ∷ xs) e =
      let next : n < suc n = omega arith in
      let here : n + 0 ≡ n = omega arith in
      ap (λ m. how_many (is_number m) (numbers_of test n (x ∷ xs))) here ∙ here_counted (test x) n (numbers_of test (suc n) xs) (none_below n (suc n) xs next)
  counted d n (suc k) (x ∷ xs) e =
      let after : n < n + suc k = omega arith in
      let here : n + suc k ≡ suc n + k = omega arith in
      further_counted (test x) (n + suc k) n (numbers_of test (suc n) xs) after ∙ (ap (λ m. how_many (is_number m) (numbers_of test (suc n) xs)) here ∙ counted d (suc n) k xs e)

  pub at_most : (n : ℕ) (xs : List X) → length (numbers_of test n xs) ≤ length xs
  at_most n [] = omega arith
  at_most n (x ∷ xs) = most_by (test x) (numbers_of test (suc n) xs) (at_most (suc n) xs) where
    most_by : (t : Bool) (rest : List ℕ) → length rest ≤ length xs → length (cond t (n ∷ rest) rest) ≤ length (x ∷ xs)
    most_by true rest h = omega (arith, h)
    most_by false rest h = omega (arith, h)

pub longer : (n : ℕ) (ns : List ℕ) → length (with_number n ns) ≡ suc (length ns)
longer n [] = refl
longer n (first ∷ rest) = longer_by (nat_lt n first) (longer n rest) where
  longer_by : (t : Bool) → length (with_number n rest) ≡ suc (length rest) → length (cond t (n ∷ first ∷ rest) (first ∷ with_number n rest)) ≡ suc (length (first ∷ rest))
  longer_by true e = refl
  longer_by false e = ap (λ m. suc m) e

-- ---- pairs by their first numbers
pub pair_first : (j v i : ℕ) (o : Option ℕ) (rest : List (ℕ × ℕ)) → j < i → with_pair (j, v) rest ≡ (j, v) ∷ rest → with_pair (j, v) (pair_of i o ++ rest) ≡ (j, v) ∷ pair_of i o ++ rest
pair_first j v i None rest h e = e
pair_first j v i (Some n) rest h e =
    ap (λ t. cond t ((j, v) ∷ (i, n) ∷ rest) ((i, n) ∷ with_pair (j, v) rest)) (less j i h)

pub pair_later : (j v i : ℕ) (o : Option ℕ) (rest set : List (ℕ × ℕ)) → i < j → set ≡ with_pair (j, v) rest → pair_of i o ++ set ≡ with_pair (j, v) (pair_of i o ++ rest)
pair_later j v i None rest set h e = e
pair_later j v i (Some n) rest set h e =
    let there : i ≤ j = omega (arith, h) in
    ap (λ ps. (i, n) ∷ ps) e ∙ sym (ap (λ t. cond t ((j, v) ∷ (i, n) ∷ rest) ((i, n) ∷ with_pair (j, v) rest)) (not_less j i there))

pairs_first : (j v n : ℕ) (xs : List (Option ℕ)) → j < n → with_pair (j, v) (pairs_from n xs) ≡ (j, v) ∷ pairs_from n xs
pairs_first j v n [] h = refl
pairs_first j v n (x ∷ xs) h =
    let later : j < suc n = omega (arith, h) in
    pair_first j v n x (pairs_from (suc n) xs) h (pairs_first j v (suc n) xs later)

-- one that had nothing is given something
pub given : (v n k : ℕ) (xs : List (Option ℕ)) → k < length xs → slice_index_or xs k None ≡ None → pairs_from n (slice_set xs k (Some v)) ≡ with_pair (n + k, v) (pairs_from n xs)
given v n k [] h e = absurd (omega (arith, h))
given v n zero (x ∷ xs) h e =
    let next : n < suc n = omega arith in
    let here : n ≡ n + 0 = omega arith in
    sym (pairs_first n v (suc n) xs next) ∙ (ap (λ m. with_pair (m, v) (pairs_from (suc n) xs)) here ∙ ap (λ o. with_pair (n + 0, v) (pair_of n o ++ pairs_from (suc n) xs)) (sym e))
given v n (suc k) (x ∷ xs) h e =
    let within : k < length xs = omega (arith, h) in
    let after : n < n + suc k = omega arith in
    let here : suc n + k ≡ n + suc k = omega arith in
    pair_later (n + suc k) v n x (pairs_from (suc n) xs) (pairs_from (suc n) (slice_set xs k (Some v))) after (given v (suc n) k xs within e ∙ ap (λ m. with_pair (m, v) (pairs_from (suc n) xs)) here)

-- how often a number stands first
off_by : (o : Option ℕ) (k n : ℕ) (rest : List (ℕ × ℕ)) → eqb n k ≡ false → how_many (first_is k) (pair_of n o ++ rest) ≡ how_many (first_is k) rest
off_by None k n rest h = refl
off_by (Some v) k n rest h =
    ap (λ t. cond t 1 0 + how_many (first_is k) rest) h ∙ none_and (how_many (first_is k) rest)

pairs_below : (k n : ℕ) (xs : List (Option ℕ)) → k < n → how_many (first_is k) (pairs_from n xs) ≡ 0
pairs_below k n [] h = refl
pairs_below k n (x ∷ xs) h =
    let later : k < suc n = omega (arith, h) in
    off_by x k n (pairs_from (suc n) xs) (over k n h) ∙ pairs_below k (suc n) xs later

on_by : (o : Option ℕ) (n : ℕ) (rest : List (ℕ × ℕ)) → how_many (first_is n) rest ≡ 0 → how_many (first_is n) (pair_of n o ++ rest) ≡ cond (is_some o) 1 0
on_by None n rest e = e
on_by (Some v) n rest e = ap (λ t. cond t 1 0 + how_many (first_is n) rest) (itself n) ∙ ap (λ m. 1 + m) e

pub pairs_counted : (n k : ℕ) (xs : List (Option ℕ)) → how_many (first_is (n + k)) (pairs_from n xs) ≡ cond (is_some (slice_index_or xs k None)) 1 0
pairs_counted n k [] = refl
pairs_counted n zero (x ∷ xs) =
    let next : n < suc n = omega arith in
    let here : n + 0 ≡ n = omega arith in
    ap (λ m. how_many (first_is m) (pairs_from n (x ∷ xs))) here ∙ on_by x n (pairs_from (suc n) xs) (pairs_below n (suc n) xs next)
pairs_counted n (suc k) (x ∷ xs) =
    let after : n < n + suc k = omega arith in
    let here : n + suc k ≡ suc n + k = omega arith in
    off_by x (n + suc k) n (pairs_from (suc n) xs) (under n (n + suc k) after) ∙ (ap (λ m. how_many (first_is m) (pairs_from (suc n) xs)) here ∙ pairs_counted (suc n) k xs)

-- ---- what a number stands with
off_second : (o : Option ℕ) (k n : ℕ) (rest : List (ℕ × ℕ)) → eqb n k ≡ false → due_of k (pair_of n o ++ rest) ≡ due_of k rest
off_second None k n rest h = refl
off_second (Some v) k n rest h = ap (λ t. cond t (Some v) (due_of k rest)) h

none_due : (k n : ℕ) (xs : List (Option ℕ)) → k < n → due_of k (pairs_from n xs) ≡ None
none_due k n [] h = refl
none_due k n (x ∷ xs) h =
    let later : k < suc n = omega (arith, h) in
    off_second x k n (pairs_from (suc n) xs) (over k n h) ∙ none_due k (suc n) xs later

on_second : (o : Option ℕ) (n : ℕ) (rest : List (ℕ × ℕ)) → due_of n rest ≡ None → due_of n (pair_of n o ++ rest) ≡ o
on_second None n rest e = e
on_second (Some v) n rest e = ap (λ t. cond t (Some v) (due_of n rest)) (itself n)

pub due_there : (n k : ℕ) (xs : List (Option ℕ)) → due_of (n + k) (pairs_from n xs) ≡ slice_index_or xs k None
due_there n k [] = refl
due_there n zero (x ∷ xs) =
    let next : n < suc n = omega arith in
    let here : n + 0 ≡ n = omega arith in
    ap (λ m. due_of m (pairs_from n (x ∷ xs))) here ∙ on_second x n (pairs_from (suc n) xs) (none_due n (suc n) xs next)
due_there n (suc k) (x ∷ xs) =
    let after : n < n + suc k = omega arith in
    let here : n + suc k ≡ suc n + k = omega arith in
    off_second x (n + suc k) n (pairs_from (suc n) xs) (under n (n + suc k) after) ∙ (ap (λ m. due_of m (pairs_from (suc n) xs)) here ∙ due_there (suc n) k xs)
