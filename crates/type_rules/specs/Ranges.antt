-- That each number in the trees of a function, a script and a set names what is there.
use Rattle.std.specs.Prelude.{◌≡◌, ◌<◌, ◌≤◌, ℕ, List, length, Option, Some, None, vec_len}
use Rattle.core_tree.specs.declared.core_type.CoreType.{CoreType}
use Rattle.core_tree.specs.declared.core_type.CoreType.TheVariants as kinds
use Rattle.core_tree.specs.declared.script.CoreFunction.{CoreFunction}
use Rattle.core_tree.specs.declared.script.CoreProperty.{CoreProperty}
use Rattle.core_tree.specs.declared.script.CoreState.{CoreState}
use Rattle.core_tree.specs.InRange.{FunctionInRange, PropertyInRange, ResultInRange, Signatures, StateInRange}
use Rattle.core_tree.specs.Set.{function_of, property_of, state_of}
use Rattle.script_linker.specs.declared.set.SourceFile.{SourceFile}
use Rattle.type_scope.specs.Types.{signatures}
use Rattle.expression_rules.specs.declared.scope.Scope.{Scope}
use Rattle.expression_rules.specs.Scopes.{ScopeInRange}
use Rattle.type_rules.specs.declared.statements.Promise.{Promise}
use Rattle.type_rules.specs.declared.statements.Promise.TheVariants.{Nothing, Value}
use Rattle.type_rules.specs.declared.work.ScriptRules.{ScriptRules}

-- ---- functions
-- the scripts of the set of a scope
abbrev pub scope_set : Scope → List SourceFile
scope_set scope = scope.catalog.now.set.now

-- a type, and where it isn't known some type
abbrev pub known : Option CoreType → CoreType
known None = kinds.Int
known (Some kind) = kind

abbrev pub promised : Promise → Option CoreType
promised Nothing = None
promised (Value kind) = Some (known kind)

abbrev pub PromiseInRange : Signatures → Promise → Type 0
PromiseInRange functions Nothing = Unit {0}
PromiseInRange functions (Value kind) = ResultInRange functions kind

-- the same script, with the locals that there were and maybe more
pub record Grows (before after : Scope) : Type 0 where
  pub catalog : after.catalog ≡ before.catalog
  pub layout : after.layout ≡ before.layout
  pub script : after.script ≡ before.script
  pub locals : vec_len before.locals.kinds ≤ vec_len after.locals.kinds
  pub in_range : ScopeInRange before → ScopeInRange after

-- ---- scripts
-- the scripts of the set
abbrev pub set_of : ScriptRules → List SourceFile
set_of work = work.catalog.now.set.now

-- the functions of the empty state of each script of the set, and the number of the script's variables
abbrev pub functions_of : ScriptRules → Signatures
functions_of work = signatures work.catalog.now.set.now

abbrev pub variables_of : ScriptRules → ℕ
variables_of work = vec_len work.layout.now.sources

-- the script is one of the set
abbrev pub WorkInRange : ScriptRules → Type 0
WorkInRange work = work.number < length (functions_of work)

-- the same script
pub record KeepsScript (before after : ScriptRules) : Type 0 where
  pub catalog : after.catalog ≡ before.catalog
  pub layout : after.layout ≡ before.layout
  pub number : after.number ≡ before.number

-- functions, properties and states of a script
abbrev pub CoreFunctionInRange : ScriptRules → CoreFunction → Type 0
CoreFunctionInRange work f = FunctionInRange (functions_of work) (variables_of work) (function_of f)

abbrev pub CorePropertyInRange : ScriptRules → CoreProperty → Type 0
CorePropertyInRange work p = PropertyInRange (functions_of work) (variables_of work) (property_of p)

abbrev pub CoreStateInRange : ScriptRules → CoreState → Type 0
CoreStateInRange work s = StateInRange (functions_of work) (variables_of work) (state_of s)
