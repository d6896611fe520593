-- When two functions give and take the same, and what the places of functions ask for.
use Rattle.std.specs.Prelude.{ℕ, ◌≡◌, ◌<◌, ◌⊎◌, false, List, [], ◌∷◌, length, codes, Option, Some, None, Bool, IsTrue, is_none, is_some, drop, position, MatchOption, slice_index_or}
use Rattle.std.specs.List.{list_any}
use Rattle.papy_base.specs.Case.{SameIgnoringCase}
use Rattle.line_parser.specs.declared.tree.TypeName.{TypeName}
use Rattle.line_parser.specs.declared.tree.Parameter.{Parameter}
use Rattle.line_parser.specs.declared.tree.Heading.{Heading}

-- the same type, with the case of its word ignored
abbrev pub SameType : TypeName → TypeName → Type 0
SameType a b = (a.is_array ≡ b.is_array) × SameIgnoringCase a.word b.word

-- both have the same result, or none has one
abbrev pub SameResult : Option TypeName → Option TypeName → Type 0
SameResult None None = Unit {0}
SameResult (Some a) (Some b) = SameType a b
SameResult None (Some b) = ⊥
SameResult (Some a) None = ⊥

-- the result is there and has this type
abbrev pub HasType : Option TypeName → TypeName → Type 0
HasType None kind = ⊥
HasType (Some found) kind = SameType found kind

-- one parameter, of this type
abbrev pub TakesOne : List Parameter → TypeName → Type 0
TakesOne [] kind = ⊥
TakesOne (only ∷ []) kind = SameType only.kind kind
TakesOne (first ∷ second ∷ rest) kind = ⊥

-- no parameter and no result, neither Global nor Native
abbrev pub IsPlainEvent : Heading → Type 0
IsPlainEvent heading =
    (heading.parameters.items ≡ []) × (heading.result ≡ None) × (heading.is_global ≡ false) × (heading.is_native ≡ false)

-- as many parameters, of the same types in order
abbrev pub SameParameters : List Parameter → List Parameter → Type 0
SameParameters these those =
    (length these ≡ length those) × ((n : ℕ) (a b : Parameter) → n < length these → SameType (slice_index_or these n a).kind (slice_index_or those n b).kind)

-- the same result, parameter types, Global and Native
abbrev pub SameSignature : Heading → Heading → Type 0
SameSignature a b =
    SameResult a.result b.result × SameParameters a.parameters.items b.parameters.items × (a.is_global ≡ b.is_global) × (a.is_native ≡ b.is_native)

-- `Get` without parameters and with the property's type
abbrev pub IsGet : Heading → TypeName → Type 0
IsGet heading kind =
    SameIgnoringCase heading.name (codes "Get") × (heading.parameters.items ≡ []) × HasType heading.result kind

-- `Set` with one parameter of the property's type and no result
abbrev pub IsSet : Heading → TypeName → Type 0
IsSet heading kind =
    SameIgnoringCase heading.name (codes "Set") × (heading.result ≡ None) × TakesOne heading.parameters.items kind

-- a function that a property of this type may have
abbrev pub IsAccessor : Heading → TypeName → Type 0
IsAccessor heading kind =
    (heading.is_global ≡ false) × (heading.is_native ≡ false) × (IsGet heading kind ⊎ IsSet heading kind)

abbrev pub has_default : Parameter → Bool
has_default parameter = is_some parameter.default

abbrev pub has_no_default : Parameter → Bool
has_no_default parameter = is_none parameter.default

-- from the first parameter with a default on, one has none
abbrev pub HasLateParameter : List Parameter → Type 0
HasLateParameter parameters =
    MatchOption (position has_default parameters) ⊥ (λ first. IsTrue (list_any has_no_default (drop first parameters)))
