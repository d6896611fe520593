-- The one list of stacks that wait: who stands there, who is first, and what is left where one goes.
use Rattle.std.proofs.Common.{◌≡◌, ℕ, ◌+◌, Bool, true, false, not, cond, List, [], ◌∷◌, length, map, Option, Some, None, refl, sym, ap, ◌∙◌, arith}
use Rattle.std.specs.List.{filter}
use Rattle.std.proofs.Math.Dec.{eqb}
use Rattle.lock_queue.specs.LockTable.{is_first, pairs_if, without_stack}
use Rattle.run_laws.specs.Exclusive.{how_many}
use Rattle.script_meaning.specs.Locks.{is_stack, second_is, second_is_other, stack_of, waited_for}

pub counted : (k : ℕ) (ws : List (ℕ × ℕ)) → how_many (second_is k) ws ≡ length (filter (second_is k) ws)
counted k [] = refl
counted k (w ∷ ws) = counted_by (eqb w.1 k) (counted k ws) where
  counted_by : (t : Bool) → how_many (second_is k) ws ≡ length (filter (second_is k) ws) → cond t 1 0 + how_many (second_is k) ws ≡ length (cond t (w ∷ filter (second_is k) ws) (filter (second_is k) ws))
  counted_by true e = omega (arith, e)
  counted_by false e = omega (arith, e)

pub counted_if : (k : ℕ) (o : Option ℕ) (ws : List (ℕ × ℕ)) → filter (second_is k) ws ≡ pairs_if k o → how_many (second_is k) ws ≡ length (pairs_if k o)
counted_if k o ws e = counted k ws ∙ ap length e

-- the instance that a stack waits for is that of its one pair
pub waited : (k : ℕ) (o : Option ℕ) (ws : List (ℕ × ℕ)) → filter (second_is k) ws ≡ pairs_if k o → waited_for k ws ≡ o
waited k None [] e = refl
waited k (Some i) [] e = absurd (cc)
waited k o (w ∷ ws) e = waited_by (eqb w.1 k) o e (waited k o ws) where
  waited_by : (t : Bool) (o : Option ℕ) → cond t (w ∷ filter (second_is k) ws) (filter (second_is k) ws) ≡ pairs_if k o → (filter (second_is k) ws ≡ pairs_if k o → waited_for k ws ≡ o) → cond t (Some w.0) (waited_for k ws) ≡ o
  waited_by true None e more = absurd (cc)
  waited_by true (Some i) e more =
      let same : w ≡ (i, k) = cc in
      ap (λ (p : ℕ × ℕ). Some p.0) same
  waited_by false o e more = more e

none_here : (k : ℕ) (ws : List (ℕ × ℕ)) → filter (second_is k) ws ≡ [] → filter (second_is_other k) ws ≡ ws
none_here k [] e = refl
none_here k (w ∷ ws) e = none_by (eqb w.1 k) e (none_here k ws) where
  none_by : (t : Bool) → cond t (w ∷ filter (second_is k) ws) (filter (second_is k) ws) ≡ [] → (filter (second_is k) ws ≡ [] → filter (second_is_other k) ws ≡ ws) → cond (not t) (w ∷ filter (second_is_other k) ws) (filter (second_is_other k) ws) ≡ w ∷ ws
  none_by true e more = absurd (cc)
  none_by false e more = ap (λ ps. w ∷ ps) (more e)

-- where a stack stands once, all others are left where it goes
pub left_without : (k i : ℕ) (ws : List (ℕ × ℕ)) → filter (second_is k) ws ≡ (i, k) ∷ [] → without_stack ws k ≡ filter (second_is_other k) ws
left_without k i [] e = refl
left_without k i (w ∷ ws) e = left_by (eqb w.1 k) e (left_without k i ws) where
  left_by : (t : Bool) → cond t (w ∷ filter (second_is k) ws) (filter (second_is k) ws) ≡ (i, k) ∷ [] → (filter (second_is k) ws ≡ (i, k) ∷ [] → without_stack ws k ≡ filter (second_is_other k) ws) → cond t ws (w ∷ without_stack ws k) ≡ cond (not t) (w ∷ filter (second_is_other k) ws) (filter (second_is_other k) ws)
  left_by true e more =
      let none : filter (second_is k) ws ≡ [] = cc in
      sym (none_here k ws none)
  left_by false e more = ap (λ ps. w ∷ ps) (more e)

-- the first of an instance's queue
pub first_waits : (k i : ℕ) (ws : List (ℕ × ℕ)) → is_first k (map (λ (w : ℕ × ℕ). w.1) (filter (λ (w : ℕ × ℕ). eqb w.0 i) ws)) ≡ is_stack k (stack_of ws i)
first_waits k i [] = refl
first_waits k i (w ∷ ws) = first_by (eqb w.0 i) (first_waits k i ws) where
  first_by : (t : Bool) → is_first k (map (λ (w : ℕ × ℕ). w.1) (filter (λ (w : ℕ × ℕ). eqb w.0 i) ws)) ≡ is_stack k (stack_of ws i) → is_first k (map (λ (w : ℕ × ℕ). w.1) (cond t (w ∷ filter (λ (w : ℕ × ℕ). eqb w.0 i) ws) (filter (λ (w : ℕ × ℕ). eqb w.0 i) ws))) ≡ is_stack k (cond t (Some w.1) (stack_of ws i))
  first_by true e = refl
  first_by false e = e
