-- The properties of a loaded script, as its object says.
use Rattle.std.specs.Prelude.{◌≡◌, ℕ, List, [], ◌∷◌, map, bit_and, Option, Some, None, slice_get}
use Rattle.std.specs.Option.{option_map}
use Rattle.pex_values.specs.declared.values.PexFunction.{PexFunction}
use Rattle.pex_values.specs.declared.values.PexProperty.{PexProperty}
use Rattle.pex_verify.specs.declared.judged.JudgedFunction.{JudgedFunction}
use Rattle.pex_verify.specs.declared.judged.JudgedProperty.{JudgedProperty}
use Rattle.pex_verify.specs.declared.scope.Home.{Home}
use Rattle.pex_verify.specs.declared.value_type.ValueType.TheVariants.{Nothing, Of}
use Rattle.pex_verify.specs.Matching.{IsWritten}
use Rattle.pex_verify.specs.Meanings.{Meanings, result_meaning, value_meaning}
use Rattle.pex_verify.specs.Rules.{IsNewProperty}
use Rattle.pex_verify.specs.Signatures.{number_at, title_at, kind_at}
use Rattle.pex_verify.specs.Sites.{site_of}
use Rattle.pex_verify.specs.States.{own_written}

-- it reads a property of this type: no parameters, and a result of the type
pub record Reads (numbers : List ℕ) (kind : ℕ) (function : PexFunction) : Type 0 where
  pub parameters : function.parameters.items ≡ []
  pub answer : number_at numbers function.result ≡ kind

-- it writes one: a parameter of the type, and no result
pub record Writes (types : Meanings) (numbers : List ℕ) (kind : ℕ) (function : PexFunction) : Type 0 where
  pub parameters : map (kind_at numbers) function.parameters.items ≡ kind ∷ []
  pub answer : result_meaning types (number_at numbers function.result) ≡ Nothing

-- what is loaded for a function of a property, which is neither global nor native, where the file has one
pub record IsAccessor (home : Home) (name : ℕ) (function : PexFunction) (loaded : JudgedFunction) : Type 0 where
  pub written : IsWritten (site_of home) (own_written home (name, function)) loaded
  pub plain : bit_and function.bits 3 ≡ 0

abbrev pub AreAccessors : Home → ℕ → (PexFunction → Type 0) → Option PexFunction → Option JudgedFunction → Type 0
AreAccessors home name HasForm None None = Unit {0}
AreAccessors home name HasForm (Some function) (Some loaded) = IsAccessor home name function loaded × HasForm function
AreAccessors home name HasForm _ _ = ⊥

-- the variable of an auto property has the property's type
abbrev pub IsOfKind : Home → PexProperty → Option ℕ → Option ℕ → Type 0
IsOfKind home property None None = Unit {0}
IsOfKind home property (Some reference) (Some place) =
    option_map (λ variable. number_at home.source.now.names.now variable.kind) (slice_get home.object.now.variables.items place) ≡ Some (number_at home.source.now.names.now property.kind)
IsOfKind home property _ _ = ⊥

-- what is loaded for a property
pub record IsProperty (home : Home) (place : ℕ) (property : PexProperty) (loaded : JudgedProperty) : Type 0 where
  pub name : loaded.name ≡ title_at home.source.now.titles.now property.name
  pub kind : Of loaded.kind ≡ value_meaning home.set.now.types (number_at home.source.now.names.now property.kind)
  pub bits : loaded.bits ≡ property.bits
  pub new : IsNewProperty home place (number_at home.source.now.names.now property.name)
  pub variable : IsOfKind home property property.variable loaded.variable
  pub read : AreAccessors home property.name (Reads home.source.now.names.now (number_at home.source.now.names.now property.kind)) property.read loaded.read
  pub write : AreAccessors home property.name (Writes home.set.now.types home.source.now.names.now (number_at home.source.now.names.now property.kind)) property.write loaded.write
