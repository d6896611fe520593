-- The list of waiters.
use Rattle.std.proofs.Common.{◌≡◌, ℕ, suc, ◌+◌, ◌<◌, ◌≤◌, Bool, true, false, List, [], ◌∷◌, length, refl, sym, ap, ◌∙◌, arith}
use Rattle.std.specs.List.{prefix_len, remove}
use Rattle.std.proofs.lemmas.Bool.{cond-true, cond-false}
use Rattle.run_replay.specs.declared.book.Waiter.{Waiter}
use Rattle.run_replay.specs.Book.{is_other, without_stack}

removed_at : (stack : ℕ) (w : Waiter) (ws : List Waiter) (n : ℕ) (t : Bool) → is_other stack w ≡ t → n ≡ prefix_len (is_other stack) (w ∷ ws) → n < suc (length ws)
    → (prefix_len (is_other stack) ws < length ws → remove ws (prefix_len (is_other stack) ws) ≡ without_stack stack ws) → remove (w ∷ ws) n ≡ without_stack stack (w ∷ ws)
removed_at stack w ws n true e is inside rest =
    let more : n ≡ suc (prefix_len (is_other stack) ws) = is ∙ cond-true _ _ _ e ∙ omega arith in
    ap (λ (k : ℕ). remove (w ∷ ws) k) more ∙ ap (λ (l : List Waiter). w ∷ l) (rest (omega arith)) ∙ sym (cond-true _ _ _ e)
removed_at stack w ws n false e is inside rest =
    let none : n ≡ 0 = is ∙ cond-false _ _ _ e in
    ap (λ (k : ℕ). remove (w ∷ ws) k) none ∙ sym (cond-false _ _ _ e)

-- what is left where the stack waits
pub removed : (stack : ℕ) (waiters : List Waiter) → prefix_len (is_other stack) waiters < length waiters → remove waiters (prefix_len (is_other stack) waiters) ≡ without_stack stack waiters
removed stack [] inside = absurd (omega arith)
removed stack (w ∷ ws) inside = removed_at stack w ws (prefix_len (is_other stack) (w ∷ ws)) (is_other stack w) refl refl inside (λ within. removed stack ws within)

none_at : (stack : ℕ) (w : Waiter) (ws : List Waiter) (t : Bool) → is_other stack w ≡ t → suc (length ws) ≤ prefix_len (is_other stack) (w ∷ ws)
    → (length ws ≤ prefix_len (is_other stack) ws → ws ≡ without_stack stack ws) → (w ∷ ws) ≡ without_stack stack (w ∷ ws)
none_at stack w ws true e past rest =
    let more : prefix_len (is_other stack) (w ∷ ws) ≡ 1 + prefix_len (is_other stack) ws = cond-true _ _ _ e in
    ap (λ (l : List Waiter). w ∷ l) (rest (omega arith)) ∙ sym (cond-true _ _ _ e)
none_at stack w ws false e past rest =
    let none : prefix_len (is_other stack) (w ∷ ws) ≡ 0 = cond-false _ _ _ e in
    absurd (omega arith)

-- what is left where it doesn't
pub nothing_removed : (stack : ℕ) (waiters : List Waiter) → length waiters ≤ prefix_len (is_other stack) waiters → waiters ≡ without_stack stack waiters
nothing_removed stack [] past = refl
nothing_removed stack (w ∷ ws) past = none_at stack w ws (is_other stack w) refl past (λ more. nothing_removed stack ws more)

pub removed_here : (stack : ℕ) (old seen new : List Waiter) (at : ℕ) → seen ≡ old → at ≡ prefix_len (is_other stack) seen → at < length old → new ≡ remove old at → new ≡ without_stack stack old
removed_here stack old seen new at same place inside is =
    let here : at ≡ prefix_len (is_other stack) old = place ∙ ap (prefix_len (is_other stack)) same in
    is ∙ ap (λ (n : ℕ). remove old n) here ∙ removed stack old (omega arith)

pub nothing_here : (stack : ℕ) (old seen : List Waiter) (at : ℕ) → seen ≡ old → at ≡ prefix_len (is_other stack) seen → length old ≤ at → old ≡ without_stack stack old
nothing_here stack old seen at same place past =
    let here : at ≡ prefix_len (is_other stack) old = place ∙ ap (prefix_len (is_other stack)) same in
    nothing_removed stack old (omega arith)
