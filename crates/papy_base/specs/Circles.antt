-- Walks up along parents, and the circles of parents that they come to.
use Rattle.std.specs.Prelude.{◌≡◌, ℕ, zero, suc, ◌+◌, ◌<◌, ◌≤◌, ◌⊎◌, ◌↔◌, Bool, true, false, List, length, Option, None, Some, IsSome, IfSome, All, MatchOption, count_by, is_some, slice_index_or}
use Rattle.std.specs.Option.{option_and_then}
use Rattle.papy_base.specs.Lineage.{parent_of, AreAmong}

-- the object so many steps above this one, none where there are fewer
unfoldable pub climb : List (Option ℕ) → ℕ → Option ℕ → Option ℕ
climb parents zero object = object
climb parents (suc steps) object = climb parents steps (option_and_then (parent_of parents) object)

-- the object is one of those above it
abbrev pub StandsAboveItself : List (Option ℕ) → ℕ → Type 0
StandsAboveItself parents object = (steps : ℕ) × (0 < steps) × (climb parents steps (Some object) ≡ Some object)

abbrev pub is_marked : List Bool → ℕ → Bool
is_marked marks object = slice_index_or marks object false

-- marked are the objects that stand above themselves, and no other
abbrev pub MarksCircles : List (Option ℕ) → List Bool → Type 0
MarksCircles parents marks =
    (object : ℕ) → object < length parents → (is_marked marks object ≡ true) ↔ StandsAboveItself parents object

-- no object is marked
abbrev pub NoneMarked : List Bool → Type 0
NoneMarked marks = All (λ mark. mark ≡ false) marks

-- ---- walks, each by the number of the object that it begins at
-- the walk that visited the object
abbrev pub walk_at : List (Option ℕ) → ℕ → Option ℕ
walk_at walks object = slice_index_or walks object None

-- how many objects were visited
abbrev pub visits : List (Option ℕ) → ℕ
visits walks = count_by is_some walks

-- a walk begins at this object, and each before it began at a lesser one
pub record CanStart (parents walks : List (Option ℕ)) (start : ℕ) : Type 0 where
  pub among : AreAmong parents
  pub within : start < length parents
  pub as_long : length walks ≡ length parents
  pub earlier : (object walk : ℕ) → walk_at walks object ≡ Some walk → walk < start

-- the walk visited the object, and has come from it to what is here
pub record IsOnWay (parents before walks : List (Option ℕ)) (start : ℕ) (here : Option ℕ) (object : ℕ) : Type 0 where
  pub noted : walk_at walks object ≡ Some start
  pub steps : ℕ
  pub some : 0 < steps
  pub few : steps + visits before ≤ visits walks
  pub leads : climb parents steps (Some object) ≡ here

-- the walk has come here, and left all else as it was
pub record HasWalked (parents before walks : List (Option ℕ)) (start : ℕ) (here : Option ℕ) : Type 0 where
  pub more : visits before ≤ visits walks
  pub visited : IsSome (walk_at walks start)
  pub each : (object : ℕ) → (walk_at walks object ≡ walk_at before object) ⊎ IsOnWay parents before walks start here object

-- a walk ends above an object without parent, at one that was visited before, or back at one that it has visited itself
abbrev pub Walked : List (Option ℕ) → List (Option ℕ) → ℕ → Option ℕ → List (Option ℕ) → Type 0
Walked parents before start circle after =
    MatchOption circle
    ((here : Option ℕ) × HasWalked parents before after start here × IfSome here (λ object. IsSome (walk_at before object)))
    (λ object. HasWalked parents before after start (Some object) × IsOnWay parents before after start (Some object) object)

-- ---- marks
-- going up from the object one comes back to it, in as many steps as there are objects or fewer
pub record IsOnCircle (parents : List (Option ℕ)) (object : ℕ) : Type 0 where
  pub steps : ℕ
  pub some : 0 < steps
  pub few : steps ≤ length parents
  pub round : climb parents steps (Some object) ≡ Some object

-- all that stand above this object are marked, and others are as before
pub record IsMarked (parents : List (Option ℕ)) (before : List Bool) (start : ℕ) (after : List Bool) : Type 0 where
  pub stay : (object : ℕ) → is_marked before object ≡ true → is_marked after object ≡ true
  pub all : (steps object : ℕ) → climb parents steps (Some start) ≡ Some object → is_marked after object ≡ true
  pub only : (object : ℕ) → is_marked after object ≡ true
      → (is_marked before object ≡ true) ⊎ ((steps : ℕ) × (climb parents steps (Some start) ≡ Some object))

-- walks from the objects below the bound were made, and the circles marked that they came to
pub record AreSearched (parents walks : List (Option ℕ)) (marks : List Bool) (bound : ℕ) : Type 0 where
  pub walks_as_long : length walks ≡ length parents
  pub marks_as_long : length marks ≡ length parents
  pub earlier : (object walk : ℕ) → walk_at walks object ≡ Some walk → walk < bound
  pub visited : (object : ℕ) → object < bound → IsSome (walk_at walks object)
  -- from what was visited one comes to an end, or to an object that is marked
  pub ends : (object : ℕ) → IsSome (walk_at walks object) → (climb parents (visits walks) (Some object) ≡ None)
      ⊎ ((steps above : ℕ) × (climb parents steps (Some object) ≡ Some above) × (is_marked marks above ≡ true))
  pub closed : (object parent : ℕ) → is_marked marks object ≡ true → parent_of parents object ≡ Some parent → is_marked marks parent ≡ true
  pub sound : (object : ℕ) → is_marked marks object ≡ true → StandsAboveItself parents object
