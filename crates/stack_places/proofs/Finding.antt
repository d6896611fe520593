-- A search for a ready stack that begins at a stack finds that stack exactly where it is ready.
use Rattle.std.proofs.Common.{◌≡◌, ℕ, zero, suc, ◌+◌, ◌-◌, ◌<◌, ◌≤◌, Bool, true, false, cond, List, [], ◌∷◌, ◌++◌, length, Option, Some, None, eqb, sym, refl, ap, ◌∙◌, ⊎_elim, arith}
use Rattle.std.proofs.lemmas.List.{get_or_past}
use Rattle.std.proofs.lemmas.Bool.{eq-eqb, ne_eqb, false≢true, cases_lt}
use Rattle.std.specs.List.{find, range_with_len}
use Rattle.std.specs.Option.{option_eq}
use Rattle.lock_queue.specs.declared.seat.Seat.TheVariants.{Resting}
use Rattle.lock_queue.specs.LockTable.{LockTable, is_ready, is_ready_in, numbers_from, ready_after, start_after}

found_cons : (p : ℕ → Bool) (x y : ℕ) (later : Option ℕ) (b : Bool) → p y ≡ b → cond b (Some y) later ≡ Some x → (later ≡ Some x → p x ≡ true) → p x ≡ true
found_cons p x y later true is found rest = let same : y ≡ x = cc in ap p (sym same) ∙ is
found_cons p x y later false is found rest = rest found

found_passes : (p : ℕ → Bool) (xs : List ℕ) (x : ℕ) → find p xs ≡ Some x → p x ≡ true
found_passes p [] x e = absurd cc
found_passes p (y ∷ ys) x e = found_cons p x y (find p ys) (p y) refl e (found_passes p ys x)

ready_within : (table : LockTable) (k : ℕ) → is_ready table k ≡ true → k < length table.seats
ready_within table k e =
    ⊎_elim
    (λ (within : k < length table.seats). within)
    (λ (past : length table.seats ≤ k). absurd (false≢true (sym (ap (is_ready_in table k) (get_or_past table.seats k Resting past)) ∙ e)))
    (cases_lt k (length table.seats))

find_first : (p : ℕ → Bool) (k more : ℕ) (rest : List ℕ) → p k ≡ true → find p (range_with_len k (suc more) ++ rest) ≡ Some k
find_first p k more rest e = ap (λ b. cond b (Some k) (find p (range_with_len (k + 1) more ++ rest))) e

find_here : (p : ℕ → Bool) (k size n : ℕ) → size ≡ n - k → k < n → p k ≡ true → find p (range_with_len k size ++ range_with_len 0 k) ≡ Some k
find_here p k zero n size within e = absurd (omega arith)
find_here p k (suc more) n size within e = find_first p k more (range_with_len 0 k) e

ready_found : (table : LockTable) (last : Option ℕ) (k : ℕ) → start_after last ≡ k → is_ready table k ≡ true → ready_after table last ≡ Some k
ready_found table last k start e =
    ap (λ s. find (is_ready table) (numbers_from s (length table.seats))) start
    ∙ find_here (is_ready table) k (length table.seats - k) (length table.seats) refl (ready_within table k e) e

same_some : (k : ℕ) (answer : Option ℕ) → answer ≡ Some k → option_eq eqb answer (Some k) ≡ true
same_some k answer e = ap (λ a. option_eq eqb a (Some k)) e ∙ eq-eqb k k refl

other_some : (k : ℕ) (answer : Option ℕ) → (answer ≡ Some k → ⊥) → option_eq eqb answer (Some k) ≡ false
other_some k None other = refl
other_some k (Some x) other = ne_eqb x k (λ e. other (ap Some e))

told : (table : LockTable) (last : Option ℕ) (k : ℕ) (answer : Option ℕ) (b : Bool) → is_ready table k ≡ b → start_after last ≡ k → answer ≡ ready_after table last → option_eq eqb answer (Some k) ≡ b
told table last k answer true is start answer_is = same_some k answer (answer_is ∙ ready_found table last k start is)
told table last k answer false is start answer_is =
    other_some k answer (λ e. false≢true (sym is ∙ found_passes (is_ready table) (numbers_from (start_after last) (length table.seats)) k (sym answer_is ∙ e)))

-- the search that begins at a stack finds that stack exactly where it is ready
pub ready_told : (table : LockTable) (last : Option ℕ) (k : ℕ) (answer : Option ℕ) → start_after last ≡ k → answer ≡ ready_after table last → option_eq eqb answer (Some k) ≡ is_ready table k
ready_told table last k answer start answer_is = told table last k answer (is_ready table k) refl start answer_is
