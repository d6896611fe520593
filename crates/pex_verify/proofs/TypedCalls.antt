-- Calls and uses of properties are typed where they are accepted.
use Rattle.std.proofs.Common.{◌≡◌, ℕ, suc, ◌<◌, Bool, true, false, List, [], ◌∷◌, Option, Some, None, length, map, refl, sym, ap, subst, ◌∙◌, arith, vec_len}
use Rattle.std.specs.Prelude.{slice_get, slice_index_or}
use Rattle.core_tree.specs.declared.core_type.CoreType.{CoreType}
use Rattle.core_tree.specs.declared.core_type.CoreType.TheVariants as kinds
use Rattle.core_tree.specs.Outlines.{ScriptShape}
use Rattle.script_meaning.specs.Values.{is_child, lineage, parent_in}
use Rattle.script_meaning.specs.Stacks.{ByMethod, ByParent, ByGlobal, ByGet, BySet}
use Rattle.code_meaning.specs.Code.{Function, Script}
use Rattle.code_meaning.specs.LookUp.{method_in, first_method}
use Rattle.run_laws.specs.TypedCode.{Scope, AllGive, Calls, CallsOn, Gives, MethodMeets, Stores}
use Rattle.pex_verify.specs.declared.judged.JudgedOperand.{JudgedOperand as Operand}
use Rattle.pex_verify.specs.declared.scope.FunctionScope.{FunctionScope}
use Rattle.pex_verify.specs.declared.scripts.PropertySignature.{PropertySignature}
use Rattle.pex_verify.specs.declared.scripts.Signature.{Signature}
use Rattle.pex_verify.specs.declared.value_type.ValueType.{ValueType}
use Rattle.pex_verify.specs.declared.value_type.ValueType.TheVariants.{Nothing, Float, Unknown, Of}
use Rattle.pex_verify.specs.Accepted.{EachFits}
use Rattle.pex_verify.specs.Agreement.{HaveTypesOf, IsOffered, IsPropertyOffered, Stands}
use Rattle.pex_verify.specs.Found.{is_global, is_readable, is_writable}
use Rattle.pex_verify.specs.Judgement.{IsFor, IsSeenIn, Takes, type_by}
use Rattle.pex_verify.specs.Meanings.{of_result, result_meaning, script_type, value_meaning, where_none_is_none}
use Rattle.pex_verify.specs.JudgedCode.{operand_of}
use Rattle.pex_verify.specs.Types.{IsValueTypeAmong}
use Rattle.pex_verify.proofs.Typing.{gives, gives_own, stores, type_among}

script_kind : (value : ValueType) (script : ℕ) → script_type value ≡ Some script → value ≡ Of (kinds.Script script)
script_kind Nothing script same = absurd (cc)
script_kind Float script same = absurd (cc)
script_kind Unknown script same = absurd (cc)
script_kind (Of kinds.Int) script same = absurd (cc)
script_kind (Of kinds.Bool) script same = absurd (cc)
script_kind (Of kinds.Text) script same = absurd (cc)
script_kind (Of (kinds.Script found)) script same = let e : found ≡ script = cc in ap (λ (n : ℕ). Of (kinds.Script n)) e
script_kind (Of kinds.IntArray) script same = absurd (cc)
script_kind (Of kinds.BoolArray) script same = absurd (cc)
script_kind (Of kinds.TextArray) script same = absurd (cc)
script_kind (Of (kinds.ScriptArray found)) script same = absurd (cc)

module _ (scope : FunctionScope) (outline : List ScriptShape) (scripts : List Script) (function : Function) (types : HaveTypesOf scope.home.now.set.now outline) (stands : Stands scope outline function) where
  abbrev placed : Scope
  placed = record { outline = outline; scripts = scripts; script = scope.home.now.here; function = function }

  pub gives_object : (o : Operand) (script : ℕ) → IsSeenIn scope.is_global o → script_type (type_by scope o) ≡ Some script → Gives placed (kinds.Script script) (operand_of o)
  gives_object o script s same =
      gives_own scope outline scripts function types stands o (kinds.Script script) s (script_kind (type_by scope o) script same)

  pub object_below : (o : Operand) (script : ℕ) → script_type (type_by scope o) ≡ Some script → script < vec_len scope.home.now.set.now.heads
  object_below o script same =
      subst (λ (v : ValueType). IsValueTypeAmong (vec_len scope.home.now.set.now.heads) v) (script_kind (type_by scope o) script same) (type_among scope outline scripts function types stands o)

  -- a result of the type that a name means
  pub stores_named : (o : Operand) (name : ℕ) (result : Option CoreType) → IsSeenIn scope.is_global o → of_result result ≡ result_meaning scope.home.now.set.now.types name → Takes scope o (result_meaning scope.home.now.set.now.types name) → Stores placed (operand_of o) result
  stores_named o name result s same h =
      stores scope outline scripts function types stands o result (subst (λ (v : ValueType). IsValueTypeAmong (vec_len scope.home.now.set.now.heads) v) (sym same) (types.meanings name)) s (subst (λ (v : ValueType). Takes scope o v) (sym same) h)

  -- ---- arguments
  argument_gives : (o : Operand) (name : ℕ) (kind : CoreType) → IsSeenIn scope.is_global o → Of kind ≡ value_meaning scope.home.now.set.now.types name → IsFor scope (value_meaning scope.home.now.set.now.types name) o → Gives placed kind (operand_of o)
  argument_gives o name kind s same h =
      gives scope outline scripts function types stands o kind s (subst (λ (v : ValueType). IsFor scope v o) (sym same) h)

  all_give : (kinds : List CoreType) (names : List ℕ) (more : List Operand) → map (λ (k : CoreType). Of k) kinds ≡ map (value_meaning scope.home.now.set.now.types) names → length more ≡ length names
      → ((k : ℕ) (d : Operand) → k < length more → IsSeenIn scope.is_global (slice_index_or more k d)) → EachFits scope names more → AllGive placed kinds (map operand_of more)
  all_give [] [] [] same count s each = tt
  all_give [] [] (o ∷ more) same count s each = absurd (omega arith)
  all_give [] (name ∷ names) more same count s each = absurd (cc)
  all_give (kind ∷ kinds) [] more same count s each = absurd (cc)
  all_give (kind ∷ kinds) (name ∷ names) [] same count s each = absurd (omega arith)
  all_give (kind ∷ kinds) (name ∷ names) (o ∷ more) same count s each =
      let first : Of kind ≡ value_meaning scope.home.now.set.now.types name = cc in
      (argument_gives o name kind (s 0 o (omega arith)) first (each 0 o (omega arith)), all_give kinds names more (cc) (omega arith) (λ k d h. s (suc k) d (omega arith)) (λ k d h. each (suc k) d (omega arith)))

  -- ---- methods
  pub calls_method : (object to : Operand) (more : List Operand) (name : List ℕ) (script : ℕ) (signature : Signature) → IsOffered scope.home.now.set.now.types outline scripts script name signature → is_global signature ≡ false
      → script_type (type_by scope object) ≡ Some script → IsSeenIn scope.is_global object → Takes scope to (result_meaning scope.home.now.set.now.types signature.answer) → IsSeenIn scope.is_global to
      → length more ≡ length signature.parameters.items → ((k : ℕ) (d : Operand) → k < length more → IsSeenIn scope.is_global (slice_index_or more k d)) → EachFits scope signature.parameters.items more
      → (script : ℕ) × (parameters : List CoreType) × (given : Option CoreType) × Gives placed (kinds.Script script) (operand_of object) × AllGive placed parameters (map operand_of more) × Stores placed (operand_of to) given × CallsOn placed script (ByMethod name) parameters given
  calls_method object to more name script signature offered plain objected s takes t count u each =
      (script, offered.parameters, offered.result, gives_object object script s objected, all_give offered.parameters signature.parameters.items more offered.parameters_are count u each, stores_named to signature.answer offered.result t offered.result_is takes, λ own below state. subst (λ (b : Bool). MethodMeets outline b offered.parameters offered.result (method_in scripts (lineage outline (Some own)) state name)) plain (offered.on_instances own state below))

  pub calls_parent : (to : Operand) (more : List Operand) (name : List ℕ) (parent : ℕ) (signature : Signature) → IsOffered scope.home.now.set.now.types outline scripts parent name signature → is_global signature ≡ false
      → parent_in (slice_get outline scope.home.now.here) ≡ Some parent → is_child outline parent parent ≡ true → scope.is_global ≡ false → Takes scope to (result_meaning scope.home.now.set.now.types signature.answer) → IsSeenIn scope.is_global to
      → length more ≡ length signature.parameters.items → ((k : ℕ) (d : Operand) → k < length more → IsSeenIn scope.is_global (slice_index_or more k d)) → EachFits scope signature.parameters.items more
      → (parameters : List CoreType) × (given : Option CoreType) × AllGive placed parameters (map operand_of more) × Stores placed (operand_of to) given × (function.is_global ≡ false) × CallsOn placed scope.home.now.here (ByParent scope.home.now.here name) parameters given
  calls_parent to more name parent signature offered plain above itself instance takes t count u each =
      (offered.parameters, offered.result, all_give offered.parameters signature.parameters.items more offered.parameters_are count u each, stores_named to signature.answer offered.result t offered.result_is takes, stands.is_global ∙ instance, λ own below. (below, λ state. subst (λ (p : Option ℕ). MethodMeets outline false offered.parameters offered.result (method_in scripts (lineage outline p) state name)) (sym above) (subst (λ (b : Bool). MethodMeets outline b offered.parameters offered.result (method_in scripts (lineage outline (Some parent)) state name)) plain (offered.on_instances parent state itself))))

  pub calls_static : (to : Operand) (more : List Operand) (name : List ℕ) (script named : ℕ) (signature : Signature) → IsOffered scope.home.now.set.now.types outline scripts script name signature → is_global signature ≡ true → named ≡ script
      → Takes scope to (result_meaning scope.home.now.set.now.types signature.answer) → IsSeenIn scope.is_global to
      → length more ≡ length signature.parameters.items → ((k : ℕ) (d : Operand) → k < length more → IsSeenIn scope.is_global (slice_index_or more k d)) → EachFits scope signature.parameters.items more
      → (parameters : List CoreType) × (given : Option CoreType) × AllGive placed parameters (map operand_of more) × Stores placed (operand_of to) given × Calls outline scripts None (ByGlobal named name) parameters given
  calls_static to more name script named signature offered global same takes t count u each =
      (offered.parameters, offered.result, all_give offered.parameters signature.parameters.items more offered.parameters_are count u each, stores_named to signature.answer offered.result t offered.result_is takes, (refl, subst (λ (n : ℕ). MethodMeets outline true offered.parameters offered.result (first_method scripts (lineage outline (Some n)) [] name)) (sym same) (subst (λ (b : Bool). MethodMeets outline b offered.parameters offered.result (first_method scripts (lineage outline (Some script)) [] name)) global offered.on_scripts)))

  -- ---- properties
  value_among : (value : ValueType) → IsValueTypeAmong (vec_len scope.home.now.set.now.heads) value → IsValueTypeAmong (vec_len scope.home.now.set.now.heads) (where_none_is_none value)
  value_among Nothing among = tt
  value_among Float among = tt
  value_among Unknown among = tt
  value_among (Of kind) among = among

  pub gets_property : (object to : Operand) (name : List ℕ) (script : ℕ) (property : PropertySignature) → IsPropertyOffered scope.home.now.set.now.types outline scripts script name property → is_readable property ≡ true
      → script_type (type_by scope object) ≡ Some script → IsSeenIn scope.is_global object → Takes scope to (value_meaning scope.home.now.set.now.types property.kind) → IsSeenIn scope.is_global to
      → (script : ℕ) × (given : CoreType) × Gives placed (kinds.Script script) (operand_of object) × Stores placed (operand_of to) (Some given) × CallsOn placed script (ByGet name) [] (Some given)
  gets_property object to name script property offered readable objected s takes t =
      let among = subst (λ (v : ValueType). IsValueTypeAmong (vec_len scope.home.now.set.now.heads) v) offered.kind_is (value_among (result_meaning scope.home.now.set.now.types property.kind) (types.meanings property.kind)) in
      (script, offered.kind, gives_object object script s objected, stores scope outline scripts function types stands to (Some offered.kind) among t (subst (λ (v : ValueType). Takes scope to v) offered.kind_is takes), λ own below. (refl, offered.gets readable own below))

  pub sets_property : (object value : Operand) (name : List ℕ) (script : ℕ) (property : PropertySignature) → IsPropertyOffered scope.home.now.set.now.types outline scripts script name property → is_writable property ≡ true
      → script_type (type_by scope object) ≡ Some script → IsSeenIn scope.is_global object → IsFor scope (value_meaning scope.home.now.set.now.types property.kind) value → IsSeenIn scope.is_global value
      → (script : ℕ) × (kind : CoreType) × Gives placed (kinds.Script script) (operand_of object) × Gives placed kind (operand_of value) × CallsOn placed script (BySet name) (kind ∷ []) None
  sets_property object value name script property offered writable objected s fits t =
      (script, offered.kind, gives_object object script s objected, argument_gives value property.kind offered.kind t (sym offered.kind_is) fits, λ own below. offered.sets writable own below)
