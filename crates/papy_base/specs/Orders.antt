-- Orders of objects in which each is followed at once by all that stand below it.
use Rattle.std.specs.Prelude.{◌≡◌, ℕ, ◌+◌, ◌<◌, ◌≤◌, ◌⊎◌, min, max, length, set, List, Option, Some, None, All, slice_index_or}
use Rattle.std.specs.List.{AllPairs, Contains}
use Rattle.papy_base.specs.declared.descent.Span.{Span}
use Rattle.papy_base.specs.Lineage.{parent_of, AreAmong, AreRooted}
use Rattle.papy_base.specs.Ranks.{span_at}

-- the parent's number, and one past all objects where there is none
abbrev pub number_of : ℕ → Option ℕ → ℕ
number_of count None = count
number_of count (Some parent) = min parent count

abbrev pub parent_number : List (Option ℕ) → ℕ → ℕ
parent_number parents object = number_of (length parents) (parent_of parents object)

-- each parent is an object, and no object is above itself
pub record IsForest (parents : List (Option ℕ)) : Type 0 where
  pub among : AreAmong parents
  pub rooted : AreRooted parents

-- the last of the objects before the bound that has this parent, none where there is none
abbrev pub IsLast : List (Option ℕ) → ℕ → ℕ → Option ℕ → Type 0
IsLast parents parent bound None = (other : ℕ) → other < bound → parent_number parents other ≡ parent → ⊥
IsLast parents parent bound (Some object) =
    (object < bound) × (parent_number parents object ≡ parent) × ((other : ℕ) → object < other → other < bound → parent_number parents other ≡ parent → ⊥)

-- what is linked of objects before the bound: the last of each parent, and the one before each that has the same parent
pub record AreLinked (parents : List (Option ℕ)) (bound : ℕ) (last before : List (Option ℕ)) : Type 0 where
  pub parents_have_last : length last ≡ length parents + 1
  pub objects_have_before : length before ≡ length parents
  pub last_is : (parent : ℕ) → parent ≤ length parents → IsLast parents parent bound (slice_index_or last parent None)
  pub before_is : (object : ℕ) → object < bound → IsLast parents (parent_number parents object) object (slice_index_or before object None)

-- an object or one above it, by the numbers of parents
pub data IsBelow (parents : List (Option ℕ)) : ℕ → ℕ → Type 0 where
  itself : {object : ℕ} → IsBelow parents object object
  below_parent : {object above : ℕ} → parent_number parents object < length parents → IsBelow parents (parent_number parents object) above → IsBelow parents object above

-- all objects, one by one: each has as its parent none, or the one before it, or one above that
pub record IsOrder (parents : List (Option ℕ)) (order : List ℕ) : Type 0 where
  pub few : length order ≤ length parents
  pub objects : All (λ object. object < length parents) order
  pub all : (object : ℕ) → object < length parents → Contains order object
  pub distinct : AllPairs (λ one other. one ≡ other → ⊥) order
  pub begins : 0 < length order → parent_number parents (slice_index_or order 0 0) ≡ length parents
  pub follows : (rank : ℕ) → rank + 1 < length order → (parent_number parents (slice_index_or order (rank + 1) 0) ≡ length parents) ⊎ IsBelow parents (slice_index_or order rank 0) (parent_number parents (slice_index_or order (rank + 1) 0))

-- each object has its place as its rank, and the spans of those from this rank on reach as far as those of their children
pub record AreReached (parents : List (Option ℕ)) (order : List ℕ) (spans : List Span) (from : ℕ) : Type 0 where
  pub count : length spans ≡ length parents
  pub start : (rank : ℕ) → rank < length order → (span_at spans (slice_index_or order rank 0)).start ≡ rank
  pub end : (rank : ℕ) → rank < length order → (rank < (span_at spans (slice_index_or order rank 0)).end) × ((span_at spans (slice_index_or order rank 0)).end ≤ length order)
  pub below : (rank other : ℕ) → rank < length order → rank ≤ other → other < (span_at spans (slice_index_or order rank 0)).end → IsBelow parents (slice_index_or order other 0) (slice_index_or order rank 0)
  pub reached : (rank : ℕ) → rank < length order → from ≤ rank → parent_number parents (slice_index_or order rank 0) < length parents → (span_at spans (slice_index_or order rank 0)).end ≤ (span_at spans (parent_number parents (slice_index_or order rank 0))).end

-- the spans after that of the parent was made to reach as far as that of the object
abbrev pub reaching : List Span → ℕ → ℕ → List Span
reaching spans object parent =
    set spans parent (record { start = (span_at spans parent).start; end = max (span_at spans parent).end (span_at spans object).end })
