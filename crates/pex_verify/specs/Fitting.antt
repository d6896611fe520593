-- Which values fit which types.
use Rattle.std.specs.Prelude.{◌≡◌, ◌⊎◌, true, List, Option, Some, None}
use Rattle.core_tree.specs.declared.core_type.CoreType.TheVariants as kinds
use Rattle.papy_base.specs.Ranks.{is_below}
use Rattle.papy_base.specs.declared.descent.Span.{Span}
use Rattle.core_tree.specs.Values.{holds_none}
use Rattle.pex_verify.specs.declared.value_type.ValueType.{ValueType}
use Rattle.pex_verify.specs.declared.value_type.ValueType.TheVariants.{Nothing, Float, Unknown, Of}

-- ---- types, in a set whose scripts have these ranks
-- a value of the one type fits the other: it has the type, or is of a script below it, or is None and the type has None
abbrev pub FitsIn : List Span → ValueType → ValueType → Type 0
FitsIn spans (Of (kinds.Script child)) (Of (kinds.Script above)) = is_below spans child above ≡ true
FitsIn spans (Of from) (Of to) = from ≡ to
FitsIn spans Nothing (Of to) = holds_none to ≡ true
FitsIn spans Nothing Nothing = Unit {0}
FitsIn spans _ _ = ⊥

-- `as` gives the other type from a value of this one
abbrev pub CastsIn : List Span → ValueType → ValueType → Type 0
CastsIn spans Float to = ⊥
CastsIn spans Unknown to = ⊥
CastsIn spans value (Of kinds.Bool) = Unit {0}
CastsIn spans (Of kinds.Bool) (Of kinds.Int) = Unit {0}
CastsIn spans (Of kinds.Text) (Of kinds.Int) = Unit {0}
CastsIn spans Nothing (Of kinds.Text) = Unit {0}
CastsIn spans (Of kinds.Int) (Of kinds.Text) = Unit {0}
CastsIn spans (Of kinds.Bool) (Of kinds.Text) = Unit {0}
CastsIn spans (Of (kinds.Script script)) (Of kinds.Text) = Unit {0}
CastsIn spans (Of (kinds.Script from)) (Of (kinds.Script to)) = (is_below spans from to ≡ true) ⊎ (is_below spans to from ≡ true)
CastsIn spans value to = FitsIn spans value to

-- what holds of the type that a place has, if it has one. What has the type None takes any value
abbrev pub Stored : Option ValueType → (ValueType → Type 0) → Type 0
Stored None holds = ⊥
Stored (Some Nothing) holds = Unit {0}
Stored (Some wanted) holds = holds wanted
