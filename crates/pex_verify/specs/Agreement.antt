-- What the final scripts have to do with the tables by which code is judged.
use Rattle.std.specs.Prelude.{◌≡◌, ℕ, ◌<◌, true, List, [], ◌∷◌, Option, Some, None, map, vec_len, slice_get, slice_index_or, All}
use Rattle.core_tree.specs.declared.core_type.CoreType.{CoreType}
use Rattle.core_tree.specs.Outlines.{ScriptShape}
use Rattle.run_laws.specs.Fits.{variable_kinds}
use Rattle.script_meaning.specs.Values.{is_child, lineage, parent_in}
use Rattle.pex_set.specs.Names.{empty_name, number_in}
use Rattle.pex_set.specs.Objects.{first_named}
use Rattle.papy_base.specs.Ranks.{is_below}
use Rattle.code_meaning.specs.Code.{Function, Script}
use Rattle.code_meaning.specs.LookUp.{first_method, first_property, method_in}
use Rattle.code_meaning.specs.Operands.{slot_kinds}
use Rattle.run_laws.specs.TypedCode.{MethodMeets, GetMeets, SetMeets}
use Rattle.pex_verify.specs.declared.scope.FunctionScope.{FunctionScope}
use Rattle.pex_verify.specs.declared.scripts.PropertySignature.{PropertySignature}
use Rattle.pex_verify.specs.declared.scripts.SetHeads.{SetHeads}
use Rattle.pex_verify.specs.declared.scripts.Signature.{Signature}
use Rattle.pex_verify.specs.declared.value_type.ValueType.TheVariants.{Of}
use Rattle.pex_verify.specs.Found.{function_found, property_found, parent_of, is_global, is_readable, is_writable}
use Rattle.pex_verify.specs.Meanings.{Meanings, of_result, result_meaning, value_meaning}
use Rattle.pex_verify.specs.JudgedCode.{script_named}
use Rattle.pex_verify.specs.Types.{IsTypeAmong, IsValueTypeAmong}

-- ---- sets
-- the scripts of the types that names mean are scripts of the set, and a script that the table has below another is so in
-- the outline
pub record HaveTypesOf (set : SetHeads) (outline : List ScriptShape) : Type 0 where
  pub meanings : (name : ℕ) → IsValueTypeAmong (vec_len set.heads) (result_meaning set.types name)
  pub children : (child above : ℕ) → child < vec_len set.heads → is_below set.table.descent child above ≡ true → is_child outline child above ≡ true

-- a function by its signature: from a script upward, in whichever state, and in the empty states of the script itself
pub record IsOffered (types : Meanings) (outline : List ScriptShape) (scripts : List Script) (script : ℕ) (name : List ℕ) (signature : Signature) : Type 0 where
  pub parameters : List CoreType
  pub result : Option CoreType
  pub parameters_are : map (λ kind. Of kind) parameters ≡ map (value_meaning types) signature.parameters.items
  pub result_is : of_result result ≡ result_meaning types signature.answer
  pub on_instances : (own : ℕ) (state : List ℕ) → is_child outline own script ≡ true → MethodMeets outline (is_global signature) parameters result (method_in scripts (lineage outline (Some own)) state name)
  pub on_scripts : MethodMeets outline (is_global signature) parameters result (first_method scripts (lineage outline (Some script)) [] name)

-- a property by its head: it is read and written so on each instance
pub record IsPropertyOffered (types : Meanings) (outline : List ScriptShape) (scripts : List Script) (script : ℕ) (name : List ℕ) (property : PropertySignature) : Type 0 where
  pub kind : CoreType
  pub kind_is : value_meaning types property.kind ≡ Of kind
  pub gets : is_readable property ≡ true → (own : ℕ) → is_child outline own script ≡ true → GetMeets outline (Some kind) (first_property scripts (lineage outline (Some own)) name)
  pub sets : is_writable property ≡ true → (own : ℕ) → is_child outline own script ≡ true → SetMeets outline (kind ∷ []) None (first_property scripts (lineage outline (Some own)) name)

-- what the tables of a set and its table of names find is what the scripts offer
pub record Agrees (set : SetHeads) (names : List (List ℕ)) (outline : List ScriptShape) (scripts : List Script) : Type 0 where
  pub types : HaveTypesOf set outline
  pub parents : (script parent : ℕ) → parent_of set script ≡ Some parent → (parent < vec_len set.heads) × (parent_in (slice_get outline script) ≡ Some parent) × (is_child outline parent parent ≡ true)
  pub named : (number script : ℕ) (name : List ℕ) → number_in names name ≡ Some number → first_named set.objects number ≡ Some script → (script < vec_len set.heads) × (script_named outline name ≡ script)
  pub functions : (script number : ℕ) (name : List ℕ) (signature : Signature) → script < vec_len set.heads → number_in names name ≡ Some number → function_found set script number ≡ Some signature → IsOffered set.types outline scripts script name signature
  pub properties : (script number : ℕ) (name : List ℕ) (property : PropertySignature) → script < vec_len set.heads → number_in names name ≡ Some number → property_found set script number ≡ Some property → IsPropertyOffered set.types outline scripts script name property

-- ---- functions
-- a function has the types that are seen where its code is judged
pub record Stands (scope : FunctionScope) (outline : List ScriptShape) (function : Function) : Type 0 where
  pub here : scope.home.now.here < vec_len scope.home.now.set.now.heads
  pub slots : scope.slots.now.list.items ≡ map of_result (slot_kinds function)
  pub slots_among : All (IsValueTypeAmong (vec_len scope.home.now.set.now.heads)) scope.slots.now.list.items
  pub variables : map (λ variable. variable.kind) scope.home.now.variables.now.list.items ≡ variable_kinds (slice_get outline scope.home.now.here)
  pub variables_among : All (λ variable. IsTypeAmong (vec_len scope.home.now.set.now.heads) variable.kind) scope.home.now.variables.now.list.items
  pub is_global : function.is_global ≡ scope.is_global
  pub result : scope.answer ≡ of_result function.result

-- the file's strings have their numbers in the table of names
abbrev pub AreNumbered : FunctionScope → List (List ℕ) → Type 0
AreNumbered scope names =
    (reference : ℕ) → number_in names (slice_index_or scope.source.now.titles.now reference []) ≡ Some (slice_index_or scope.source.now.names.now reference empty_name)
