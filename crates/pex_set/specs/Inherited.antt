-- Members by their names, and what each object has of them from itself upward.
use Rattle.std.specs.Prelude.{◌≡◌, ◌≢◌, ℕ, ◌<◌, ◌⊎◌, Bool, true, List, [], ◌∷◌, Option, Some, None, if◌then◌else◌, IsTrue, All, slice_get}
use Rattle.std.specs.Ordering.{is_le, nat_cmp, ordering_then}
use Rattle.std.specs.declared.cmp.Ordering.{Ordering}
use Rattle.pex_set.specs.declared.inherited.MemberPlace.{MemberPlace}
use Rattle.pex_set.specs.declared.inherited.OwnMember.{OwnMember}
use Rattle.pex_set.specs.declared.inherited.Stretch.{Stretch}
use Rattle.papy_base.specs.Ranks.{has, IsWithin, AreApart}

-- names of a state and of a member in it
abbrev pub Names : Type 0
Names = ℕ × ℕ

-- a rank behind names: positions ascend by the names, and by the rank where these are the same
abbrev pub Position : Type 0
Position = Names × ℕ

abbrev pub position_cmp : Position → Position → Ordering
position_cmp a b = ordering_then (ordering_then (nat_cmp a.0.0 b.0.0) (nat_cmp a.0.1 b.0.1)) (nat_cmp a.1 b.1)

-- whether a position comes no later than the other
unfoldable pub is_up_to : Position → Position → Bool
is_up_to a b = is_le (position_cmp a b)

-- what the last stretch has that begins no later than the position. Where there is none, what was found before
abbrev pub found_from : List Stretch → Position → Option MemberPlace → Option MemberPlace
found_from [] position found = found
found_from (stretch ∷ rest) position found =
    found_from rest position (if is_up_to stretch.start position then stretch.member else found)

-- what objects of this rank have by these names
abbrev pub found_in : List Stretch → Names → ℕ → Option MemberPlace
found_in stretches names rank = found_from stretches (names, rank) None

-- each stretch begins no later than all behind it
abbrev pub Ascends : List Stretch → Type 0
Ascends [] = Unit {0}
Ascends (stretch ∷ rest) = All (λ later. is_up_to stretch.start later.start ≡ true) rest × Ascends rest

-- the member has these names, and the rank is one of its object's
abbrev pub Reaches : OwnMember → Names → ℕ → Type 0
Reaches member names rank = (member.names ≡ names) × IsTrue (has member.span rank)

-- the place of a member that reaches the rank, where each other that does starts before it, or stands behind it in the same object
pub record IsInnermost (members : List OwnMember) (names : Names) (rank : ℕ) (place : MemberPlace) : Type 0 where
  pub index : ℕ
  pub member : OwnMember
  pub stands : slice_get members index ≡ Some member
  pub placed : member.place ≡ place
  pub reaches : Reaches member names rank
  pub others : (k : ℕ) (other : OwnMember) → slice_get members k ≡ Some other → k ≢ index → Reaches other names rank → (other.span.start < member.span.start) ⊎ ((other.place.object ≡ member.place.object) × (index < k))

-- what the innermost object whose ranks have this one has by these names: the first that it has. None where no member reaches the rank
abbrev pub IsNearest : List OwnMember → Names → ℕ → Option MemberPlace → Type 0
IsNearest members names rank None = All (λ member. Reaches member names rank → ⊥) members
IsNearest members names rank (Some place) = IsInnermost members names rank place

-- two members of one object, which have its ranks, or two of different ones, of which one stands below the other or neither does
abbrev pub AreOfTree : OwnMember → OwnMember → Type 0
AreOfTree a b =
    ((a.place.object ≡ b.place.object) × (a.span ≡ b.span))
    ⊎ ((a.place.object ≢ b.place.object) × (a.span.start ≢ b.span.start) × (AreApart a.span b.span ⊎ (IsWithin a.span b.span ⊎ IsWithin b.span a.span)))

-- the spans of members are those of objects of trees: none is empty, and any two lie inside one another or apart
abbrev pub AreLaminar : List OwnMember → Type 0
AreLaminar members = All (λ a. (a.span.start < a.span.end) × All (AreOfTree a) members) members
