-- What must hold of a script besides so that the outline of its file is that of the script.
use Rattle.std.specs.Prelude.{◌≡◌, ℕ, false, List, [], ◌∷◌, Some, IfSome, slice_get}
use Rattle.std.specs.List.{AllByRecursion}
use Rattle.core_tree.specs.declared.script.CoreVariable.{CoreVariable}
use Rattle.core_tree.specs.declared.value.Value.TheVariants as values
use Rattle.core_tree.specs.Set as trees
use Rattle.core_tree.specs.Values.{default_of}
use Rattle.pex_meaning.specs.Names.{is_empty}
use Rattle.emit_laws.specs.Readable.{KindFits}

-- a variable begins as None only where that is the default of its type
pub record VariableFits (scripts : List (List ℕ)) (v : CoreVariable) : Type 0 where
  pub kind : KindFits scripts (Some v.kind)
  pub none : v.value ≡ values.NoneValue → default_of v.kind ≡ values.NoneValue

-- the first state has the empty name, and no other
abbrev pub AreEmptyFirst : List trees.State → Type 0
AreEmptyFirst [] = Unit {0}
AreEmptyFirst (first ∷ named) = (first.name ≡ []) × AllByRecursion (λ s. is_empty s.name ≡ false) named

pub record OutlineFits (scripts : List (List ℕ)) (tree : trees.Script) : Type 0 where
  pub parents : (number : ℕ) (name : List ℕ) → slice_get scripts number ≡ Some name → is_empty name ≡ false
  pub auto_state : IfSome tree.auto_state (λ name. is_empty name ≡ false)
  pub variables : AllByRecursion (VariableFits scripts) tree.variables
  pub properties : AllByRecursion (λ p. KindFits scripts (Some p.kind)) tree.properties
  pub states : AreEmptyFirst tree.states
