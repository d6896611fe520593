-- The variables of a script and their types.
use Rattle.std.specs.Prelude.{◌≡◌, ℕ, ◌==◌, not, List}
use Rattle.core_tree.specs.declared.core_type.CoreType.{CoreType}
use Rattle.core_tree.specs.declared.outline.OutlineVariable.{OutlineVariable}
use Rattle.core_tree.specs.declared.value.Value.{Value}
use Rattle.core_tree.specs.declared.value.Value.TheVariants as values
use Rattle.core_tree.specs.Values.{default_of}
use Rattle.pex_values.specs.declared.values.Datum.{Datum}
use Rattle.pex_values.specs.declared.values.Datum.TheVariants as datum
use Rattle.pex_values.specs.declared.values.PexVariable.{PexVariable}
use Rattle.run_laws.specs.Fits.{Known, HasType}
use Rattle.pex_verify.specs.declared.sources.SetFile.{SetFile}
use Rattle.pex_verify.specs.declared.value_type.ValueType.{ValueType}
use Rattle.pex_verify.specs.declared.value_type.ValueType.TheVariants.{Of}
use Rattle.pex_verify.specs.Meanings.{Meanings, value_meaning}
use Rattle.pex_verify.specs.Pairs.{Paired}
use Rattle.pex_verify.specs.Signatures.{number_at, title_at}

abbrev pub variable_type : OutlineVariable → ValueType
variable_type variable = Of variable.kind

-- what the type of a file's variable means
abbrev pub type_of_variable : Meanings → List ℕ → PexVariable → ValueType
type_of_variable types numbers variable = value_meaning types (number_at numbers variable.kind)

-- ---- initial values
-- as a file with these strings gives it. One that the file leaves out is the default of the type
abbrev pub initial_value : List (List ℕ) → CoreType → Datum → Value
initial_value strings kind (datum.Quoted reference) = values.Text (title_at strings reference)
initial_value strings kind (datum.Int number) = values.Int number
initial_value strings kind (datum.Bool byte) = values.Bool (not (byte == 0))
initial_value strings kind _ = default_of kind

-- what is loaded for a variable
pub record IsVariable (source : SetFile) (variable : PexVariable) (loaded : OutlineVariable) : Type 0 where
  pub name : loaded.name ≡ title_at source.titles.now variable.name
  pub value : loaded.value ≡ initial_value source.pex.now.strings.items loaded.kind variable.value
  -- whatever instances and arrays there are
  pub fits : (known : Known) → HasType known loaded.kind loaded.value

abbrev pub AreVariables : SetFile → List PexVariable → List OutlineVariable → Type 0
AreVariables source variables loaded =
    Paired PexVariable OutlineVariable (λ n v l. IsVariable source v l) variables loaded
