-- What fits in a set whose scripts have these ranks.
use Rattle.std.proofs.Common.{Bool, ◌||◌, List, refl, ap}
use Rattle.std.proofs.lemmas.Bool.{eq-eqb}
use Rattle.core_tree.specs.declared.core_type.CoreType.{CoreType}
use Rattle.core_tree.specs.declared.core_type.CoreType.TheVariants as kinds
use Rattle.papy_base.specs.Ranks.{has, span_at}
use Rattle.papy_base.specs.declared.descent.Span.{Span}
use Rattle.pex_verify.specs.declared.value_type.ValueType.TheVariants.{Of}
use Rattle.pex_verify.specs.Fitting.{FitsIn}

pub fits_itself : (spans : List Span) (kind : CoreType) → FitsIn spans (Of kind) (Of kind)
fits_itself spans kinds.Int = refl
fits_itself spans kinds.Bool = refl
fits_itself spans kinds.Text = refl
fits_itself spans (kinds.Script script) =
    ap (λ (b : Bool). b || has (span_at spans script) (span_at spans script).start) (eq-eqb script script refl)
fits_itself spans kinds.IntArray = refl
fits_itself spans kinds.BoolArray = refl
fits_itself spans kinds.TextArray = refl
fits_itself spans (kinds.ScriptArray script) = refl
