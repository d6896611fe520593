-- The members of objects, and which of them is the nearest in a lineage.
use Rattle.std.specs.Prelude.{◌≡◌, ℕ, ◌<◌, ◌==◌, Bool, ◌&&◌, List, [], ◌∷◌, Option, None, All, find}
use Rattle.std.specs.Option.{option_map, option_or}
use Rattle.papy_base.specs.declared.descent.Span.{Span}
use Rattle.pex_set.specs.declared.inherited.MemberPlace.{MemberPlace}
use Rattle.pex_set.specs.declared.inherited.OwnMember.{OwnMember}
use Rattle.pex_set.specs.Inherited.{Names}
use Rattle.papy_base.specs.Ranks.{span_at}

-- whether it is a member of the object by these names
abbrev pub is_own : ℕ → Names → OwnMember → Bool
is_own object names member = member.place.object == object && (member.names.0 == names.0 && member.names.1 == names.1)

-- the place of the first member of an object by these names
abbrev pub own_member : List OwnMember → ℕ → Names → Option MemberPlace
own_member members object names = option_map (λ member. member.place) (find (is_own object names) members)

-- from the first of these objects to the last, the first that one has
abbrev pub nearest : List OwnMember → List ℕ → Names → Option MemberPlace
nearest members [] names = None
nearest members (object ∷ above) names = option_or (own_member members object names) (nearest members above names)

-- each is a member of one of so many objects, and has its ranks
abbrev pub AreRanked : List Span → ℕ → List OwnMember → Type 0
AreRanked spans count members = All (λ member. (member.place.object < count) × (member.span ≡ span_at spans member.place.object)) members
