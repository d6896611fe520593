-- What must hold of names and of code so that a file that spells them is read as what was lowered.
use Rattle.std.specs.Prelude.{◌≡◌, ℕ, ◌<◌, ◌^◌, ◌&&◌, Bool, true, false, List, [], ◌∷◌, length, map, Option, Some, None, slice_get, nat_eq, codes, IfSome}
use Rattle.std.specs.List.{AllByRecursion, ends_with}
use Rattle.core_tree.specs.declared.core_type.CoreType.{CoreType}
use Rattle.core_tree.specs.declared.core_type.CoreType.TheVariants as kinds
use Rattle.core_tree.specs.Set as trees
use Rattle.pex_meaning.specs.Functions as meaning
use Rattle.pex_meaning.specs.Functions.{variable_names}
use Rattle.pex_meaning.specs.Instructions as reading
use Rattle.pex_meaning.specs.Names.{are_same, is_among, no_types, string_at}
use Rattle.code_lower.specs.declared.place.Coded.{Coded}
use Rattle.code_lower.specs.declared.place.Coded.TheVariants as coded
use Rattle.code_lower.specs.declared.place.Lowered.{Lowered}
use Rattle.code_lower.specs.declared.place.Place.{Place}
use Rattle.code_lower.specs.declared.place.Place.TheVariants as place
use Rattle.code_emit.specs.Spelled.{Scope, SpellsSlots, slot_name}
use Rattle.code_emit.specs.Strings.{Home, Table}

-- ---- names
-- no two of them are the same, with case ignored
abbrev pub AreDistinct : List (List ℕ) → Type 0
AreDistinct names =
    (i j : ℕ) (one other : List ℕ) → slice_get names i ≡ Some one → slice_get names j ≡ Some other → are_same one other ≡ true → i ≡ j

-- no slot has the name, nor does it mean what each instance has
pub record IsVariableName (name : List ℕ) : Type 0 where
  pub no_slot : (number : ℕ) (kind : Option CoreType) → are_same name (slot_name number kind) ≡ false
  pub no_instance : are_same (codes "self") name ≡ false
  pub no_state : are_same (codes "::State") name ≡ false

pub record AreVariableNames (names : List (List ℕ)) : Type 0 where
  pub distinct : AreDistinct names
  pub each : (number : ℕ) (name : List ℕ) → slice_get names number ≡ Some name → IsVariableName name

-- the name of a script that is a type: no other type has the name, and no array
pub record IsTypeName (name : List ℕ) : Type 0 where
  pub no_int : are_same name (codes "Int") ≡ false
  pub no_bool : are_same name (codes "Bool") ≡ false
  pub no_text : are_same name (codes "String") ≡ false
  pub no_library : is_among name no_types ≡ false
  pub no_array : ends_with nat_eq name (codes "[]") ≡ false

abbrev pub KindFits : List (List ℕ) → Option CoreType → Type 0
KindFits scripts (Some (kinds.Script number)) = IfSome (slice_get scripts number) IsTypeName
KindFits scripts (Some (kinds.ScriptArray number)) = IfSome (slice_get scripts number) IsTypeName
KindFits scripts _ = Unit {0}

-- ---- operands
abbrev pub is_of_instance : Place → Bool
is_of_instance (place.Variable number kind) = true
is_of_instance place.OwnInstance = true
is_of_instance place.StateText = true
is_of_instance _ = false

-- a Global function has no instance
abbrev pub PlaceFits : Bool → Place → Type 0
PlaceFits is_global place = (is_global && is_of_instance place) ≡ false

-- what an instruction reads and writes
abbrev pub places_of : Coded → List Place
places_of (coded.Unary opcode result of) = result ∷ of ∷ []
places_of (coded.Binary opcode result left right) = result ∷ left ∷ right ∷ []
places_of (coded.Search opcode array result searched start) = array ∷ result ∷ searched ∷ start ∷ []
places_of (coded.NewArray result count) = result ∷ []
places_of (coded.PropGet name of result) = of ∷ result ∷ []
places_of (coded.PropSet name of value) = of ∷ value ∷ []
places_of (coded.SetElement array index value) = array ∷ index ∷ value ∷ []
places_of (coded.Return None) = []
places_of (coded.Return (Some value)) = value ∷ []
places_of (coded.CallMethod name of result more) = of ∷ result ∷ more.items
places_of (coded.CallParent name result more) = result ∷ more.items
places_of (coded.CallStatic script name result more) = result ∷ more.items
places_of (coded.Jump offset) = []
places_of (coded.JumpIf decided condition offset) = condition ∷ []

abbrev pub InstructionFits : Bool → Coded → Type 0
InstructionFits is_global code = AllByRecursion (PlaceFits is_global) (places_of code)

-- one slot at most takes what calls without a result give
abbrev pub HaveOneNothing : List (Option CoreType) → Type 0
HaveOneNothing kinds = (i j : ℕ) → slice_get kinds i ≡ Some None → slice_get kinds j ≡ Some None → i ≡ j

-- ---- where operands are read
-- what a function can name, as it is read
abbrev pub scope_read : Bool → Scope → reading.Scope
scope_read is_global scope = record {
  strings = scope.table.strings;
  scripts = scope.table.home.scripts;
  slots = map (λ slot. string_at scope.table.strings slot.0) scope.slots;
  variables = scope.table.home.variables;
  is_global = is_global;
}

pub record HomeFits (home : Home) : Type 0 where
  pub scripts : AreDistinct home.scripts
  pub variables : AreVariableNames home.variables

-- slots of these types
pub record ScopeFits (scope : Scope) (kinds : List (Option CoreType)) : Type 0 where
  pub names : HomeFits scope.table.home
  pub slots : SpellsSlots scope.table 0 scope.slots kinds
  pub one_nothing : HaveOneNothing kinds
  pub few : length kinds < 2 ^ 64

-- ---- functions
pub record FunctionFits (home : Home) (tree : trees.Function) (lowered : Lowered) : Type 0 where
  pub names : HomeFits home
  pub one_nothing : HaveOneNothing lowered.kinds.items
  pub few : length lowered.kinds.items < 2 ^ 64
  pub kinds : AllByRecursion (KindFits home.scripts) lowered.kinds.items
  pub result : KindFits home.scripts tree.result
  pub code : AllByRecursion (λ i. InstructionFits tree.is_global i.0) lowered.code.items
  pub native : tree.is_native ≡ true → lowered.code.items ≡ []

-- where a function is read there are the scripts and the variables of which the strings are
pub record IsHome (home : meaning.Home) (table : Table) : Type 0 where
  pub scripts : home.scripts ≡ table.home.scripts
  pub variables : variable_names home ≡ table.home.variables
