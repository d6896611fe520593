-- Objects and the objects above them, by the numbers of their parents.
use Rattle.std.specs.Prelude.{◌≡◌, ℕ, suc, zero, ◌<◌, ◌==◌, Bool, List, [], ◌∷◌, length, Option, Some, None, IfSome, All, slice_get}
use Rattle.std.specs.List.{list_any}
use Rattle.std.specs.Option.{option_and_then}

-- the parent of an object, none where it has none or there is no such object
abbrev pub parent_of : List (Option ℕ) → ℕ → Option ℕ
parent_of parents object = option_and_then (λ parent. parent) (slice_get parents object)

-- so many objects at most: this one, its parent, the parent of that one ..
unfoldable pub upward : ℕ → List (Option ℕ) → Option ℕ → List ℕ
upward zero parents object = []
upward (suc left) parents None = []
upward (suc left) parents (Some object) = object ∷ upward left parents (parent_of parents object)

-- an object and all above it, the nearest first. As many as there are objects are enough where none is above itself
abbrev pub lineage : List (Option ℕ) → Option ℕ → List ℕ
lineage parents object = upward (length parents) parents object

-- whether an object is the other or stands below it
abbrev pub stands_below : List (Option ℕ) → ℕ → ℕ → Bool
stands_below parents object above = list_any (λ other. other == above) (lineage parents (Some object))

-- each parent is one of the objects
abbrev pub AreAmong : List (Option ℕ) → Type 0
AreAmong parents = All (λ parent. IfSome parent (λ n. n < length parents)) parents

-- no object is above itself: whichever one goes up from, one comes to an object without parent
abbrev pub AreRooted : List (Option ℕ) → Type 0
AreRooted parents =
    (object : ℕ) → object < length parents → lineage parents (Some object) ≡ object ∷ lineage parents (parent_of parents object)

-- the second object is the first itself or stands above it
pub data StandsAbove (parents : List (Option ℕ)) : ℕ → ℕ → Type 0 where
  itself : (n : ℕ) → StandsAbove parents n n
  further : (n p a : ℕ) → parent_of parents n ≡ Some p → StandsAbove parents p a → StandsAbove parents n a

-- from an object upward, the first that has something of its own, with what it has
pub data Nearest {X : Type 0} (parents : List (Option ℕ)) (own : ℕ → Option X) : ℕ → Option (ℕ × X) → Type 0 where
  here : (n : ℕ) (x : X) → own n ≡ Some x → Nearest parents own n (Some (n, x))
  further : (n p : ℕ) (found : Option (ℕ × X)) → own n ≡ None → parent_of parents n ≡ Some p → Nearest parents own p found → Nearest parents own n found
  nowhere : (n : ℕ) → own n ≡ None → parent_of parents n ≡ None → Nearest parents own n None
