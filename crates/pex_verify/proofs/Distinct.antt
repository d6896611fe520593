-- Numbers that are new, one after the other.
use Rattle.std.proofs.Common.{◌≡◌, ℕ, ◌+◌, ◌<◌, ◌≢◌, ◌==◌, Bool, true, false, if◌then◌else◌, List, Option, None, Some, IsSome, slice_index, refl, sym, subst, eq-eqb}
use Rattle.std.proofs.lemmas.Bool.{false≢true}
use borrow.Author.Count.{below_more}

-- one more that none of the earlier ones is, where each of those was noted
pub distinct_more : (numbers : List ℕ) (Noted : ℕ → Type 0) (i : ℕ) → ((k : ℕ) → k < i → Noted (slice_index numbers k)) → (Noted (slice_index numbers i) → ⊥) → ((a b : ℕ) → a < b → b < i → slice_index numbers a ≢ slice_index numbers b)
    → (a b : ℕ) → a < b → b < i + 1 → slice_index numbers a ≢ slice_index numbers b
distinct_more numbers Noted i noted new below a b less within =
    below_more (λ (n : ℕ). (m : ℕ) → m < n → slice_index numbers m ≢ slice_index numbers n) i (λ n n_below m m_less. below m n m_less n_below) (λ m m_less same. new (subst Noted same (noted m m_less))) b within a less

some_still : {T : Type 0} (test : Bool) (x : T) (o : Option T) → IsSome o → IsSome (if test then Some x else o)
some_still true x o some = refl
some_still false x o some = some

-- what was noted stays so where one more is noted
pub noted_more : {T : Type 0} (numbers : List ℕ) (before after : ℕ → Option T) (x : T) (i number : ℕ) → number ≡ slice_index numbers i → ((other : ℕ) → after other ≡ (if number == other then Some x else before other))
    → ((k : ℕ) → k < i → IsSome (before (slice_index numbers k))) → (k : ℕ) → k < i + 1 → IsSome (after (slice_index numbers k))
noted_more {T} numbers before after x i number is noted earlier k within =
    below_more (λ (n : ℕ). IsSome (after (slice_index numbers n))) i
    (λ n below. subst (λ (o : Option T). IsSome o) (sym (noted (slice_index numbers n))) (some_still (number == slice_index numbers n) x (before (slice_index numbers n)) (earlier n below)))
    (subst (λ (o : Option T). IsSome o) (sym (noted (slice_index numbers i)))
    (subst (λ (test : Bool). IsSome (if test then Some x else before (slice_index numbers i))) (sym (eq-eqb number (slice_index numbers i) is)) refl))
    k within

-- a number that is new was not noted
pub new_number : {T : Type 0} (numbers : List ℕ) (before : ℕ → Option T) (i number : ℕ) → number ≡ slice_index numbers i → before number ≡ None → IsSome (before (slice_index numbers i)) → ⊥
new_number {T} numbers before i number is none some =
    let noted : IsSome (before number) = subst (λ (n : ℕ). IsSome (before n)) (sym is) some in
    absurd (false≢true (subst (λ (o : Option T). IsSome o) none noted))
