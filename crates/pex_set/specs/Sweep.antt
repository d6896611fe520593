-- Members in the order of their names and starts, and the stretches made of those so far.
use Rattle.std.specs.Prelude.{◌≡◌, ℕ, ◌<◌, Bool, true, false, ◌&&◌, not, cond, List, [], ◌∷◌, ◌++◌, length, reverse, take, Option, Some, None, IfSome, All, slice_get, slice_index_or, option_and_then}
use Rattle.std.specs.List.{Contains, filter, last_or}
use Rattle.pex_set.specs.declared.inherited.MemberPlace.{MemberPlace}
use Rattle.pex_set.specs.declared.inherited.OwnMember.{OwnMember}
use Rattle.pex_set.specs.declared.inherited.Stretch.{Stretch}
use Rattle.pex_set.specs.Inherited.{Position, is_up_to, found_from, Ascends}

abbrev pub start_of : OwnMember → Position
start_of member = (member.names, member.span.start)

abbrev pub end_of : OwnMember → Position
end_of member = (member.names, member.span.end)

-- whether the position is behind the member's start and before its end
abbrev pub covers : OwnMember → Position → Bool
covers member position = is_up_to (start_of member) position && not (is_up_to (end_of member) position)

abbrev pub starts_with : OwnMember → OwnMember → Bool
starts_with a b = is_up_to (start_of a) (start_of b) && is_up_to (start_of b) (start_of a)

-- what the stretch has
abbrev pub member_of : Option Stretch → Option MemberPlace
member_of stretch = option_and_then (λ s. s.member) stretch

-- the first of the members with the latest start among those that cover the position
pub record IsLatestCover (members : List OwnMember) (position : Position) (place : MemberPlace) : Type 0 where
  pub member : OwnMember
  pub placed : member.place ≡ place
  pub covered : covers member position ≡ true
  pub first : slice_get (filter (starts_with member) members) 0 ≡ Some member
  pub latest : All (λ other. covers other position ≡ true → is_up_to (start_of other) (start_of member) ≡ true) members

abbrev pub IsCover : List OwnMember → Position → Option MemberPlace → Type 0
IsCover members position None = All (λ member. covers member position ≡ false) members
IsCover members position (Some place) = IsLatestCover members position place

-- each position is answered as the members cover it
abbrev pub AreCovered : List OwnMember → List Stretch → Type 0
AreCovered members stretches = (position : Position) → IsCover members position (found_from stretches position None)

-- none of these members starts later
abbrev pub IsBehind : List OwnMember → OwnMember → Type 0
IsBehind done member = All (λ other. is_up_to (start_of other) (start_of member) ≡ true) done

-- the member may be added behind these: none of them starts later, and it ends in those in which it starts
pub record Fits (done : List OwnMember) (member : OwnMember) : Type 0 where
  pub after : IsBehind done member
  pub filled : All (λ other. is_up_to (end_of other) (start_of other) ≡ false) done
  pub goes_on : is_up_to (end_of member) (start_of member) ≡ false
  pub inside : All (λ other. is_up_to (end_of other) (start_of member) ≡ false → is_up_to (end_of member) (end_of other) ≡ true) done

-- each starts no earlier than those before it
abbrev pub AreSorted : List OwnMember → Type 0
AreSorted members = (k : ℕ) (d : OwnMember) → k < length members → IsBehind (take k members) (slice_index_or members k d)

-- each may be added behind those before it
abbrev pub AreInOrder : List OwnMember → Type 0
AreInOrder members = (k : ℕ) (d : OwnMember) → k < length members → Fits (take k members) (slice_index_or members k d)

-- the stretches with the ends behind them, the last first, ascend. Those of the stretches begin no later than the last member
pub record IsOrdered (done : List OwnMember) (stretches ends : List Stretch) : Type 0 where
  pub ascends : Ascends (stretches ++ reverse ends)
  pub before : (position : Position) → All (λ member. is_up_to (start_of member) position ≡ true) done → All (λ stretch. is_up_to stretch.start position ≡ true) stretches

-- the latest stretch begins where the latest member starts
pub record IsLatestStart (done : List OwnMember) (latest : Stretch) : Type 0 where
  pub member : OwnMember
  pub added : Contains done member
  pub start : latest.start ≡ start_of member
  pub members : All (λ other. is_up_to (start_of other) latest.start ≡ true) done

abbrev pub IsLatest : List OwnMember → Option Stretch → Type 0
IsLatest done None = done ≡ []
IsLatest done (Some latest) = IsLatestStart done latest

-- whether the position comes no later than the latest stretch
abbrev pub is_reached : Position → Option Stretch → Bool
is_reached position None = false
is_reached position (Some latest) = is_up_to position latest.start

-- one of the members ends there
abbrev pub IsEnd : List OwnMember → Stretch → Type 0
IsEnd done stretch = (member : OwnMember) × Contains done member × (stretch.start ≡ end_of member)

-- the stretches with the ends behind them, the last first, answer for the members
pub record IsSwept (done : List OwnMember) (stretches ends : List Stretch) : Type 0 where
  pub answers : AreCovered done (stretches ++ reverse ends)
  pub latest : IsLatest done (last_or None stretches)
  pub all_ends : All (IsEnd done) ends

-- some of the ends went behind the stretches, the last first. Each of these comes up to the position
pub record AreMoved (position : Position) (stretches ends new_stretches new_ends : List Stretch) : Type 0 where
  pub moved : List Stretch
  pub behind : new_stretches ≡ stretches ++ moved
  pub from_ends : ends ≡ new_ends ++ reverse moved
  pub come : All (λ stretch. is_up_to stretch.start position ≡ true) moved

-- the last does not come up to the position
abbrev pub IsLastBehind : Position → List Stretch → Type 0
IsLastBehind position ends = IfSome (last_or None ends) (λ end. is_up_to end.start position ≡ false)

-- the end, or the outer one, where this comes earlier
abbrev pub earlier_end : Position → Option Stretch → Position
earlier_end end None = end
earlier_end end (Some outer) = cond (is_up_to end outer.start) end outer.start

-- a member begins behind the stretches, and what was found there before goes on at its end
pub record IsOpened (start end : Position) (place : MemberPlace) (stretches ends new_stretches new_ends : List Stretch) : Type 0 where
  pub begun : new_stretches ≡ stretches ++ record { start = start; member = Some place } ∷ []
  pub ended : new_ends ≡ ends ++ record { start = earlier_end end (last_or None ends); member = member_of (last_or None stretches) } ∷ []
