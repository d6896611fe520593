-- How a property is read and written, by what its file says.
use Rattle.std.proofs.Common.{◌≡◌, ℕ, zero, suc, ◌<◌, ◌==◌, Bool, true, false, not, List, [], ◌∷◌, Option, None, Some, map, refl, sym, ap, ◌∙◌, arith}
use Rattle.std.specs.Prelude.{slice_get, bit_and, is_some}
use Rattle.std.specs.Option.{option_map}
use Rattle.std.proofs.lemmas.Bool.{eqb-true, eq-eqb, false≢true}
use Rattle.std.proofs.lemmas.Nat.{and_le_r}
use Rattle.std.proofs.lemmas.Nat.Bits.{and_pow, bit_at_and}
use Rattle.std.proofs.lemmas.Option.{none-some, same_Some, slice_get-map}
use Rattle.core_tree.specs.declared.core_type.CoreType.{CoreType}
use Rattle.core_tree.specs.declared.outline.OutlineScript.{OutlineScript}
use Rattle.core_tree.specs.declared.outline.OutlineVariable.{OutlineVariable}
use Rattle.core_tree.specs.Outlines.{ScriptShape, script_shape}
use Rattle.papy_base.specs.declared.name.Name.{Name}
use Rattle.run_laws.specs.Fits.{variable_kinds}
use Rattle.run_laws.specs.Keeps.{IsVariable}
use Rattle.run_laws.specs.TypedCode.{AccessorMeets, GetMeets, SetMeets}
use Rattle.pex_set.specs.Names.{number_in}
use Rattle.pex_values.specs.declared.values.PexFunction.{PexFunction}
use Rattle.pex_values.specs.declared.values.PexProperty.{PexProperty}
use Rattle.pex_values.specs.declared.values.PexVariable.{PexVariable}
use Rattle.pex_verify.specs.declared.judged.JudgedFunction.{JudgedFunction}
use Rattle.pex_verify.specs.declared.judged.JudgedProperty.{JudgedProperty}
use Rattle.pex_verify.specs.declared.scope.Home.{Home}
use Rattle.pex_verify.specs.declared.sources.SetFile.{SetFile}
use Rattle.pex_verify.specs.declared.value_type.ValueType.{ValueType}
use Rattle.pex_verify.specs.declared.value_type.ValueType.TheVariants.{Nothing, Float, Unknown, Of}
use Rattle.pex_verify.specs.Heads.{property_by}
use Rattle.pex_verify.specs.Matching.{parameter_type}
use Rattle.pex_verify.specs.Meanings.{Meanings, of_result, result_meaning, value_meaning, where_none_is_none}
use Rattle.pex_verify.specs.JudgedCode.{access_of, function_of, function_where, property_of}
use Rattle.pex_verify.specs.Properties.{Reads, Writes, IsAccessor, AreAccessors, IsOfKind, IsProperty}
use Rattle.pex_verify.specs.Signatures.{number_at, title_at, kind_at}
use Rattle.pex_verify.specs.Sources.{HasParts}
use Rattle.pex_verify.specs.Variables.{variable_type, type_of_variable}
use Rattle.pex_verify.proofs.Views.{IsPropertyViewed}

-- ---- bits
not_true : (b : Bool) → not b ≡ true → b ≡ false
not_true false h = refl
not_true true h = absurd (false≢true h)

from_not : (b : Bool) → not b ≡ false → b ≡ true
from_not false h = sym h
from_not true h = refl

set_bit : (n : ℕ) → not (n == 0) ≡ true → 0 < n
set_bit zero h = absurd (false≢true h)
set_bit (suc n) h = omega arith

is_read_bit : (bits : ℕ) → not (bit_and bits 1 == 0) ≡ true → bit_and bits 1 ≡ 1
is_read_bit bits h =
    let positive = set_bit (bit_and bits 1) h in
    let at = and_le_r bits 1 in
    omega arith

is_written_bit : (bits : ℕ) → not (bit_and bits 2 == 0) ≡ true → bit_and bits 2 ≡ 2
is_written_bit bits h =
    let positive = set_bit (bit_and bits 2) h in
    let at = and_le_r bits 2 in
    let low = bit_at_and bits 2 0 in
    omega arith

read_alone : (bits : ℕ) → bit_and bits 4 ≡ 0 → bit_and bits 1 ≡ 1 → bit_and bits 5 ≡ 1
read_alone bits auto read =
    let low = bit_at_and bits 5 0 in
    let middle = bit_at_and bits 5 1 in
    let high = bit_at_and bits 5 2 in
    let one = and_pow bits 0 in
    let four = and_pow bits 2 in
    let at = and_le_r bits 5 in
    omega arith

written_alone : (bits : ℕ) → bit_and bits 4 ≡ 0 → bit_and bits 2 ≡ 2 → bit_and bits 6 ≡ 2
written_alone bits auto write =
    let low = bit_at_and bits 6 0 in
    let middle = bit_at_and bits 6 1 in
    let high = bit_at_and bits 6 2 in
    let two = and_pow bits 1 in
    let four = and_pow bits 2 in
    let at = and_le_r bits 6 in
    omega arith

not_global : (bits : ℕ) → bit_and bits 3 ≡ 0 → bit_and bits 1 ≡ 0
not_global bits plain =
    let low = bit_at_and bits 3 0 in
    let one = and_pow bits 0 in
    omega arith

clear_bit : (n : ℕ) → not (n == 0) ≡ false → n ≡ 0
clear_bit n h = eqb-true n 0 (from_not (n == 0) h)

-- ---- types
-- a name that means a type of values means it as the name of a result too
result_by : (meaning : ValueType) (kind : CoreType) → Of kind ≡ where_none_is_none meaning → meaning ≡ Of kind
result_by Nothing kind h = cc
result_by Float kind h = cc
result_by Unknown kind h = cc
result_by (Of other) kind h = sym h

result_of_kind : (result : Option CoreType) (kind : CoreType) → of_result result ≡ Of kind → result ≡ Some kind
result_of_kind None kind h = cc
result_of_kind (Some other) kind h = cc

no_result : (result : Option CoreType) → of_result result ≡ Nothing → result ≡ None
no_result None h = refl
no_result (Some other) h = cc

no_parameters : (parameters : List (Name × CoreType)) → map parameter_type parameters ≡ [] → map (λ (p : Name × CoreType). p.1) parameters ≡ []
no_parameters [] h = refl
no_parameters (p ∷ rest) h = cc

one_parameter : (parameters : List (Name × CoreType)) (kind : CoreType)
    → map parameter_type parameters ≡ Of kind ∷ [] → map (λ (p : Name × CoreType). p.1) parameters ≡ kind ∷ []
one_parameter [] kind h = cc
one_parameter (p ∷ []) kind h = cc
one_parameter (p ∷ q ∷ rest) kind h = cc

kinds_mean : (types : Meanings) (numbers : List ℕ) (pairs : List (ℕ × ℕ))
    → map (λ (pair : ℕ × ℕ). value_meaning types (kind_at numbers pair)) pairs ≡ map (value_meaning types) (map (kind_at numbers) pairs)
kinds_mean types numbers [] = refl
kinds_mean types numbers (pair ∷ rest) = ap (λ l. value_meaning types (kind_at numbers pair) ∷ l) (kinds_mean types numbers rest)

-- ---- variables
variable_by : (types : Meanings) (numbers : List ℕ) (number : ℕ) (kind : CoreType) (outlined : Option OutlineVariable) (written : Option PexVariable)
    → option_map variable_type outlined ≡ option_map (type_of_variable types numbers) written
    → option_map (λ (v : PexVariable). number_at numbers v.kind) written ≡ Some number
    → Of kind ≡ value_meaning types number → option_map (λ (v : OutlineVariable). v.kind) outlined ≡ Some kind
variable_by types numbers number kind None None same is means = absurd (none-some number is)
variable_by types numbers number kind None (Some p) same is means = cc
variable_by types numbers number kind (Some v) None same is means = cc
variable_by types numbers number kind (Some v) (Some p) same is means =
    let found : number_at numbers p.kind ≡ number = same_Some (number_at numbers p.kind) number is in
    let e : Of v.kind ≡ Of kind = same_Some (Of v.kind) (value_meaning types (number_at numbers p.kind)) same ∙ ap (value_meaning types) found ∙ sym means in
    cc

-- the variable of an auto property has the property's type in the outline
pub variable_is : (types : Meanings) (numbers : List ℕ) (number : ℕ) (kind : CoreType) (outlined : List OutlineVariable) (written : List PexVariable) (place : ℕ)
    → map variable_type outlined ≡ map (type_of_variable types numbers) written
    → option_map (λ (v : PexVariable). number_at numbers v.kind) (slice_get written place) ≡ Some number
    → Of kind ≡ value_meaning types number → slice_get (map (λ (v : OutlineVariable). v.kind) outlined) place ≡ Some kind
variable_is types numbers number kind outlined written place same is means =
    let at : option_map variable_type (slice_get outlined place) ≡ slice_get (map (type_of_variable types numbers) written) place = sym (slice_get-map variable_type outlined place) ∙ ap (λ l. slice_get l place) same in
    let by = at ∙ slice_get-map (type_of_variable types numbers) written place in
    slice_get-map (λ (v : OutlineVariable). v.kind) outlined place
    ∙ variable_by types numbers number kind (slice_get outlined place) (slice_get written place) by is means

-- ---- functions
module _ (home : Home) (outline : List ScriptShape) (name : ℕ) (number : ℕ) (kind : CoreType) (means : Of kind ≡ value_meaning home.set.now.types number) where
  abbrev types : Meanings
  types = home.set.now.types

  abbrev numbers : List ℕ
  numbers = home.source.now.names.now

  not_global_loaded : (function : PexFunction) (loaded : JudgedFunction) → IsAccessor home name function loaded → loaded.is_global ≡ false
  not_global_loaded function loaded is =
      is.written.is_global ∙ ap (λ (b : Bool). not b) (eq-eqb (bit_and function.bits 1) 0 (not_global function.bits is.plain))

  reader_by : (function : PexFunction) (loaded : JudgedFunction)
      → IsAccessor home name function loaded → Reads numbers number function → AccessorMeets [] (Some kind) (Some (function_of outline loaded))
  reader_by function loaded is reads =
      let none = is.written.parameters ∙ ap (map (λ (pair : ℕ × ℕ). value_meaning types (kind_at numbers pair))) reads.parameters in
      let answer = is.written.result ∙ ap (result_meaning types) reads.answer ∙ result_by (result_meaning types number) kind means in
      (no_parameters loaded.parameters.items none, result_of_kind loaded.result kind answer, not_global_loaded function loaded is)

  writer_by : (function : PexFunction) (loaded : JudgedFunction)
      → IsAccessor home name function loaded → Writes types numbers number function → AccessorMeets (kind ∷ []) None (Some (function_of outline loaded))
  writer_by function loaded is writes =
      let one = is.written.parameters ∙ kinds_mean types numbers function.parameters.items in
      let of_kind : map parameter_type loaded.parameters.items ≡ Of kind ∷ [] = one ∙ ap (map (value_meaning types)) writes.parameters ∙ ap (λ (k : ValueType). k ∷ []) (sym means) in
      let answer = is.written.result ∙ writes.answer in
      (one_parameter loaded.parameters.items kind of_kind, no_result loaded.result answer, not_global_loaded function loaded is)

  reader_meets : (given : Option PexFunction) (loaded : Option JudgedFunction)
      → AreAccessors home name (Reads numbers number) given loaded → is_some given ≡ true → AccessorMeets [] (Some kind) (function_where outline loaded)
  reader_meets None None are there = absurd (false≢true there)
  reader_meets None (Some loaded) are there = absurd are
  reader_meets (Some given) None are there = absurd are
  reader_meets (Some given) (Some loaded) are there = reader_by given loaded are.0 are.1

  writer_meets : (given : Option PexFunction) (loaded : Option JudgedFunction)
      → AreAccessors home name (Writes types numbers number) given loaded → is_some given ≡ true → AccessorMeets (kind ∷ []) None (function_where outline loaded)
  writer_meets None None are there = absurd (false≢true there)
  writer_meets None (Some loaded) are there = absurd are
  writer_meets (Some given) None are there = absurd are
  writer_meets (Some given) (Some loaded) are there = writer_by given loaded are.0 are.1

-- ---- a property
-- the outline has the types of the object's variables
abbrev pub AreVariablesOf : Home → OutlineScript → Type 0
AreVariablesOf home outlined =
    map variable_type outlined.variables.items ≡ map (type_of_variable home.set.now.types home.source.now.names.now) home.object.now.variables.items

-- the strings of the object's file have their numbers in a table of names
abbrev pub AreTitlesNumbered : List (List ℕ) → SetFile → Type 0
AreTitlesNumbered names source =
    (reference : ℕ) → number_in names (title_at source.titles.now reference) ≡ Some (number_at source.names.now reference)

module _ (home : Home) (outline : List ScriptShape) (script : ℕ) (outlined : OutlineScript) (stands : slice_get outline script ≡ Some (script_shape outlined)) (variables : AreVariablesOf home outlined) where
  abbrev own_numbers : List ℕ
  own_numbers = home.source.now.names.now

  -- the number of the name of its type
  abbrev type_number : PexProperty → ℕ
  type_number property = number_at own_numbers property.kind

  variable_stands : (property : PexProperty) (loaded : JudgedProperty) (place : ℕ)
      → Of loaded.kind ≡ value_meaning home.set.now.types (type_number property)
      → option_map (λ (v : PexVariable). number_at own_numbers v.kind) (slice_get home.object.now.variables.items place) ≡ Some (type_number property)
      → IsVariable outline script place loaded.kind
  variable_stands property loaded place means is =
      ap (λ (o : Option ScriptShape). slice_get (variable_kinds o) place) stands
      ∙ variable_is home.set.now.types own_numbers (type_number property) loaded.kind outlined.variables.items home.object.now.variables.items place variables is means

  gets_by : (place : ℕ) (property : PexProperty) (loaded : JudgedProperty)
      → IsProperty home place property loaded → HasParts property → not (bit_and property.bits 1 == 0) ≡ true
      → (number : ℕ) (given variable : Option ℕ) → property.variable ≡ given → IsOfKind home property given variable
      → GetMeets outline (Some loaded.kind) (Some (script, number, access_of outline loaded variable))
  gets_by place property loaded is parts readable number None None e h =
      let auto = clear_bit (bit_and property.bits 4) (sym parts.variable ∙ ap is_some e) in
      let read = eq-eqb (bit_and property.bits 5) 1 (read_alone property.bits auto (is_read_bit property.bits readable)) in
      reader_meets home outline property.name (type_number property) loaded.kind is.kind property.read loaded.read is.read (parts.read ∙ read)
  gets_by place property loaded is parts readable number None (Some variable) e h = absurd h
  gets_by place property loaded is parts readable number (Some given) None e h = absurd h
  gets_by place property loaded is parts readable number (Some given) (Some variable) e h =
      let read = eq-eqb (bit_and loaded.bits 1) 1 (ap (λ (b : ℕ). bit_and b 1) is.bits ∙ is_read_bit property.bits readable) in
      (read, (loaded.kind, refl, variable_stands property loaded variable is.kind h))

  sets_by : (place : ℕ) (property : PexProperty) (loaded : JudgedProperty)
      → IsProperty home place property loaded → HasParts property → not (bit_and property.bits 2 == 0) ≡ true
      → (number : ℕ) (given variable : Option ℕ) → property.variable ≡ given → IsOfKind home property given variable
      → SetMeets outline (loaded.kind ∷ []) None (Some (script, number, access_of outline loaded variable))
  sets_by place property loaded is parts writable number None None e h =
      let auto = clear_bit (bit_and property.bits 4) (sym parts.variable ∙ ap is_some e) in
      let written = eq-eqb (bit_and property.bits 6) 2 (written_alone property.bits auto (is_written_bit property.bits writable)) in
      writer_meets home outline property.name (type_number property) loaded.kind is.kind property.write loaded.write is.write (parts.write ∙ written)
  sets_by place property loaded is parts writable number None (Some variable) e h = absurd h
  sets_by place property loaded is parts writable number (Some given) None e h = absurd h
  sets_by place property loaded is parts writable number (Some given) (Some variable) e h =
      let written = eq-eqb (bit_and loaded.bits 2) 2 (ap (λ (b : ℕ). bit_and b 2) is.bits ∙ is_written_bit property.bits writable) in
      (written, refl, (loaded.kind, refl, variable_stands property loaded variable is.kind h))

  -- a loaded property is read and written as its head says
  pub IsPropertyViewed-from_file : (names : List (List ℕ)) → AreTitlesNumbered names home.source.now
      → (place : ℕ) (property : PexProperty) (loaded : JudgedProperty) → IsProperty home place property loaded → HasParts property
      → IsPropertyViewed home.set.now.types names outline script (property_by own_numbers property) (property_of outline loaded)
  IsPropertyViewed-from_file names numbered place property loaded is parts = record {
    name = ap (number_in names) is.name ∙ numbered property.name;
    kind = loaded.kind;
    kind_is = sym is.kind;
    gets = λ readable number. gets_by place property loaded is parts readable number property.variable loaded.variable refl is.variable;
    sets = λ writable number. sets_by place property loaded is parts writable number property.variable loaded.variable refl is.variable;
  }
