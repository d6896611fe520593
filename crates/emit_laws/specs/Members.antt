-- What the members of a script mean, and what must hold of a script so that the file that spells it is read so.
use Rattle.std.specs.Prelude.{◌≡◌, ◌⊎◌, ℕ, true, false, List, [], ◌∷◌, map, filter, Option, Some, None, IfSome}
use Rattle.std.specs.List.{AllByRecursion, flat_map}
use Rattle.core_tree.specs.Set as trees
use Rattle.pex_values.specs.Plain.{PlainFunction, PlainObject, PlainPex, PlainProperty, PlainState}
use Rattle.code_meaning.specs.Code.{Access, Auto, Full, Function, Property, Script, State}
use Rattle.pex_meaning.specs.Names.{are_same, is_among, is_empty, string_at}
use Rattle.pex_meaning.specs.Prelude.{members, prelude}
use Rattle.code_lower.specs.declared.place.Lowered.{Lowered}
use Rattle.code_lower.specs.Whole.{IsLowered, function_with}
use Rattle.code_emit.specs.Spelled.{Each, SpellsCode, parent_name}
use Rattle.code_emit.specs.Strings.{Origin, Table, home_of}
use Rattle.emit_laws.specs.Readable.{FunctionFits, HomeFits}

-- ---- what members mean
-- under a name, code that was lowered from a tree
pub record IsCodeOf (from : Origin) (name : List ℕ) (tree : trees.Function) (function : Function) : Type 0 where
  pub lowered : Lowered
  pub is_lowered : IsLowered from.set from.script tree lowered
  pub is : function ≡ record (function_with tree is_lowered.temporaries lowered) { name = name }

pub record StateMeans (from : Origin) (tree : trees.State) (state : State) : Type 0 where
  pub name : state.name ≡ tree.name
  pub functions : Each (λ (t : trees.Function) f. IsCodeOf from t.name t f) tree.functions state.functions

abbrev pub AccessorMeans : Origin → List ℕ → Option trees.Function → Option Function → Type 0
AccessorMeans from name None None = Unit {0}
AccessorMeans from name (Some tree) (Some function) = IsCodeOf from name tree function
AccessorMeans from name _ _ = ⊥

abbrev pub AccessMeans : Origin → List ℕ → trees.Access → Access → Type 0
AccessMeans from name (trees.Auto variable) (Auto other is_read is_written) = (other ≡ variable) × (is_read ≡ true) × (is_written ≡ true)
AccessMeans from name (trees.Full read write) (Full get put) = AccessorMeans from name read get × AccessorMeans from name write put
AccessMeans from name _ _ = ⊥

pub record PropertyMeans (from : Origin) (tree : trees.Property) (property : Property) : Type 0 where
  pub name : property.name ≡ tree.name
  pub access : AccessMeans from tree.name tree.access property.access

pub record ScriptMeans (from : Origin) (tree : trees.Script) (script : Script) : Type 0 where
  pub properties : Each (PropertyMeans from) tree.properties script.properties
  pub states : Each (StateMeans from) tree.states script.states

-- ---- what must hold
-- whatever code of the tree the function spells
abbrev pub CodeFits : Origin → Table → PlainFunction → trees.Function → Type 0
CodeFits from table f tree =
    (lowered : Lowered) → IsLowered from.set from.script tree lowered → SpellsCode table tree lowered f → FunctionFits (home_of from) tree lowered

abbrev pub AccessorFits : Origin → Table → Option PlainFunction → Option trees.Function → Type 0
AccessorFits from table (Some f) (Some tree) = CodeFits from table f tree
AccessorFits from table _ _ = Unit {0}

abbrev pub AccessFits : Origin → Table → PlainProperty → trees.Access → Type 0
AccessFits from table p (trees.Auto variable) = Unit {0}
AccessFits from table p (trees.Full read write) = AccessorFits from table p.read read × AccessorFits from table p.write write

-- each of the names differs from those behind it, with case ignored
abbrev pub Differ : List (List ℕ) → Type 0
Differ [] = Unit {0}
Differ (first ∷ rest) = AllByRecursion (λ other. are_same first other ≡ false) rest × Differ rest

pub record StateFits (from : Origin) (table : Table) (s : PlainState) (tree : trees.State) : Type 0 where
  pub names : Differ (map (λ f. f.name) tree.functions)
  pub functions : Each (λ (f : ℕ × PlainFunction) t. CodeFits from table f.1 t) s.functions tree.functions

-- names of functions in states without a name
abbrev pub empty_names : List trees.State → List (List ℕ)
empty_names states = flat_map (λ s. map (λ f. f.name) s.functions) (filter (λ s. is_empty s.name) states)

-- the members that a script without parent has
abbrev pub member_names : List (List ℕ)
member_names = map (λ member. string_at prelude.strings member.0) members

abbrev pub HasMembers : Origin → trees.Script → Type 0
HasMembers from tree =
    IfSome (parent_name (home_of from).scripts tree.parent) (λ name. is_empty name ≡ false)
    ⊎ AllByRecursion (λ member. is_among member (empty_names tree.states) ≡ true) member_names

-- the strings of the file of a script
abbrev pub table_of : Origin → PlainPex → Table
table_of from file = record { home = home_of from; strings = file.strings }

pub record ScriptFits (from : Origin) (table : Table) (o : PlainObject) (tree : trees.Script) : Type 0 where
  pub names : HomeFits (home_of from)
  pub property_names : Differ (map (λ p. p.name) tree.properties)
  pub properties : Each (λ p (t : trees.Property). AccessFits from table p t.access) o.properties tree.properties
  pub state_names : Differ (map (λ s. s.name) tree.states)
  pub states : Each (StateFits from table) o.states tree.states
  pub members : HasMembers from tree
