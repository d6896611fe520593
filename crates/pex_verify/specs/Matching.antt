-- Loaded functions, as their files say.
use Rattle.std.specs.Prelude.{◌≡◌, ℕ, List, map, Option}
use Rattle.core_tree.specs.declared.core_type.CoreType.{CoreType}
use Rattle.papy_base.specs.declared.name.Name.{Name}
use Rattle.pex_values.specs.declared.values.PexFunction.{PexFunction}
use Rattle.pex_verify.specs.declared.judged.JudgedFunction.{JudgedFunction}
use Rattle.pex_verify.specs.declared.value_type.ValueType.{ValueType}
use Rattle.pex_verify.specs.declared.value_type.ValueType.TheVariants.{Of}
use Rattle.pex_verify.specs.Meanings.{Meanings, result_meaning, value_meaning, of_result}
use Rattle.pex_verify.specs.Pairs.{Paired}
use Rattle.pex_verify.specs.Sites.{Site, HasTypedCode}
use Rattle.pex_verify.specs.Signatures.{number_at, title_at, kind_at, has_bit}

-- ---- parameters and locals
abbrev pub parameter_type : Name × CoreType → ValueType
parameter_type parameter = Of parameter.1

abbrev pub local_type : Name × Option CoreType → ValueType
local_type local = of_result local.1

-- what the types of a file's parameters mean
abbrev pub parameter_types : Meanings → List ℕ → List (ℕ × ℕ) → List ValueType
parameter_types types numbers pairs = map (λ (pair : ℕ × ℕ). value_meaning types (kind_at numbers pair)) pairs

abbrev pub local_types : Meanings → List ℕ → List (ℕ × ℕ) → List ValueType
local_types types numbers pairs = map (λ (pair : ℕ × ℕ). result_meaning types (kind_at numbers pair)) pairs

-- ---- functions
-- a function of a file, by the strings of the file and their numbers, under the name at a reference
pub record Written : Type 0 where
  pub numbers : List ℕ
  pub titles : List (List ℕ)
  pub name : ℕ
  pub function : PexFunction

-- what is loaded for it where it stands
pub record IsWritten (site : Site) (written : Written) (loaded : JudgedFunction) : Type 0 where
  pub name : loaded.name ≡ title_at written.titles written.name
  pub parameters : map parameter_type loaded.parameters.items ≡ parameter_types site.set.types written.numbers written.function.parameters.items
  pub locals : map local_type loaded.locals.items ≡ local_types site.set.types written.numbers written.function.locals.items
  pub result : of_result loaded.result ≡ result_meaning site.set.types (number_at written.numbers written.function.result)
  pub is_global : loaded.is_global ≡ has_bit written.function.bits 1
  pub is_native : loaded.is_native ≡ has_bit written.function.bits 2
  pub typed : HasTypedCode site written.numbers written.titles loaded

abbrev pub AreWritten : Site → List Written → List JudgedFunction → Type 0
AreWritten site written loaded =
    Paired Written JudgedFunction (λ n w f. IsWritten site w f) written loaded
