-- Instructions that look nothing up are typed where they are accepted.
use Rattle.std.proofs.Common.{◌≡◌, ℕ, ◌≤◌, true, false, List, Option, Some, None, refl, ◌∙◌, ⊎_elim, vec_len}
use Rattle.std.specs.Prelude.{IsSome, slice_get}
use Rattle.std.specs.Option.{IsSomeAnd}
use Rattle.core_tree.specs.declared.core_type.CoreType.{CoreType}
use Rattle.core_tree.specs.declared.core_type.CoreType.TheVariants as kinds
use Rattle.core_tree.specs.Outlines.{ScriptShape}
use Rattle.core_tree.specs.Values.{element_kind}
use Rattle.code_meaning.specs.Code.{Function, Script, Slot}
use Rattle.code_meaning.specs.Operands.{kind_in, type_of, variables_in}
use Rattle.run_laws.specs.TypedCode.{Scope, Gives, GivesArray, IsPlace, Stores, Compares, Computes as ComputesTyped, Searches}
use Rattle.pex_verify.specs.declared.judged.JudgedOperand.{JudgedOperand as Operand}
use Rattle.pex_verify.specs.declared.judged.JudgedOperand.TheVariants as loaded
use Rattle.pex_verify.specs.declared.scope.FunctionScope.{FunctionScope}
use Rattle.pex_verify.specs.declared.value_type.ValueType.{ValueType}
use Rattle.pex_verify.specs.declared.value_type.ValueType.TheVariants.{Nothing, Float, Unknown, Of}
use Rattle.pex_verify.specs.Accepted.{Computes, Compare, IsArrayWith, Creates, Measures, GetsElement, SetsElement, Finds}
use Rattle.pex_verify.specs.Agreement.{HaveTypesOf, Stands}
use Rattle.pex_verify.specs.Fitting.{FitsIn}
use Rattle.pex_verify.specs.Judgement.{IsFor, IsSeenIn, Takes, spans_of, type_by}
use Rattle.pex_verify.specs.Meanings.{element_type}
use Rattle.pex_verify.specs.JudgedCode.{number_of, operand_of, size_of}
use Rattle.pex_verify.specs.Types.{IsTypeAmong, IsValueTypeAmong}
use Rattle.pex_verify.proofs.Sizes.{size_in_range}
use Rattle.pex_verify.proofs.Typing.{Means, gives, gives_none, gives_own, never_fits, never_float, only_none, slot_means, stores, type_among, variable_is}

no_array : false ≡ true → ⊥
no_array h = cc

as_array : (value : Option ValueType) → IsSome value → IsSomeAnd value (λ _. Unit {0})
as_array None h = absurd (cc)
as_array (Some value) h = tt

-- a place of an array type has it in the end
array_kind : (value : ValueType) (typed : Option CoreType) → Means value typed → IsSome (element_type value) → (kind : CoreType) × (element : CoreType) × (typed ≡ Some kind) × (element_kind kind ≡ Some element)
array_kind Nothing typed meant h = absurd (cc)
array_kind Float typed meant h = absurd (cc)
array_kind Unknown typed meant h = absurd (cc)
array_kind (Of kinds.Int) typed meant h = absurd (cc)
array_kind (Of kinds.Bool) typed meant h = absurd (cc)
array_kind (Of kinds.Text) typed meant h = absurd (cc)
array_kind (Of (kinds.Script script)) typed meant h = absurd (cc)
array_kind (Of kinds.IntArray) typed meant h = (kinds.IntArray, kinds.Int, meant, refl)
array_kind (Of kinds.BoolArray) typed meant h = (kinds.BoolArray, kinds.Bool, meant, refl)
array_kind (Of kinds.TextArray) typed meant h = (kinds.TextArray, kinds.Text, meant, refl)
array_kind (Of (kinds.ScriptArray script)) typed meant h = (kinds.ScriptArray script, kinds.Script script, meant, refl)

module _ (scope : FunctionScope) (outline : List ScriptShape) (scripts : List Script) (function : Function) (types : HaveTypesOf scope.home.now.set.now outline) (stands : Stands scope outline function) where
  abbrev placed : Scope
  placed = record { outline = outline; scripts = scripts; script = scope.home.now.here; function = function }

  abbrev count : ℕ
  count = vec_len scope.home.now.set.now.heads

  pub own : (o : Operand) (kind : CoreType) → IsSeenIn scope.is_global o → type_by scope o ≡ Of kind → Gives placed kind (operand_of o)
  own = gives_own scope outline scripts function types stands

  pub takes_kind : (o : Operand) (kind : CoreType) → IsTypeAmong count kind → IsSeenIn scope.is_global o → Takes scope o (Of kind) → Stores placed (operand_of o) (Some kind)
  takes_kind o kind among s h = stores scope outline scripts function types stands o (Some kind) among s h

  -- ---- values
  pub computes : (kind : CoreType) (to left right : Operand) → IsTypeAmong count kind → IsSeenIn scope.is_global to → IsSeenIn scope.is_global left → IsSeenIn scope.is_global right → Computes scope kind kind to left right
      → ComputesTyped placed kind (operand_of to) (operand_of left) (operand_of right)
  computes kind to left right among s t u h =
      (takes_kind to kind among s h.0, own left kind t h.1.0, own right kind u h.1.1)

  pub compares : (to left right : Operand) → IsSeenIn scope.is_global to → IsSeenIn scope.is_global left → IsSeenIn scope.is_global right → Computes scope kinds.Int kinds.Bool to left right
      → Compares placed (operand_of to) (operand_of left) (operand_of right)
  compares to left right s t u h =
      (takes_kind to kinds.Bool tt s h.0, own left kinds.Int t h.1.0, own right kinds.Int u h.1.1)

  fit_alike : (a b : Operand) (value : ValueType) → type_by scope b ≡ value → IsSeenIn scope.is_global a → IsSeenIn scope.is_global b → FitsIn (spans_of scope) (type_by scope a) value
      → (kind : CoreType) × Gives placed kind (operand_of a) × Gives placed kind (operand_of b)
  fit_alike a b Nothing same s t h =
      (kinds.IntArray, gives_none scope outline scripts function types stands a kinds.IntArray s (only_none scope outline scripts function types stands (type_by scope a) h) refl, gives_none scope outline scripts function types stands b kinds.IntArray t same refl)
  fit_alike a b Float same s t h = absurd (never_float scope outline scripts function types stands (type_by scope a) h)
  fit_alike a b Unknown same s t h = absurd (never_fits scope outline scripts function types stands (type_by scope a) h)
  fit_alike a b (Of kind) same s t h = (kind, gives scope outline scripts function types stands a kind s h, own b kind t same)

  pub compare : (a b : Operand) → IsSeenIn scope.is_global a → IsSeenIn scope.is_global b → Compare scope a b → (kind : CoreType) × Gives placed kind (operand_of a) × Gives placed kind (operand_of b)
  compare a b s t h = ⊎_elim
      (λ (left : IsFor scope (type_by scope b) a). fit_alike a b (type_by scope b) refl s t left)
      (λ (right : IsFor scope (type_by scope a) b).
      let alike = fit_alike b a (type_by scope a) refl t s right in
      (alike.0, alike.2, alike.1))
      h

  -- ---- arrays
  array_as : (o : Operand) (value : ValueType) (holds : ValueType → Type 0) → type_by scope o ≡ value → IsValueTypeAmong count value → IsSeenIn scope.is_global o → IsSomeAnd (element_type value) holds
      → (element : CoreType) × GivesArray placed (operand_of o) element × IsTypeAmong count element × holds (Of element)
  array_as o Nothing holds same among s h = absurd h
  array_as o Float holds same among s h = absurd h
  array_as o Unknown holds same among s h = absurd h
  array_as o (Of kinds.Int) holds same among s h = absurd h
  array_as o (Of kinds.Bool) holds same among s h = absurd h
  array_as o (Of kinds.Text) holds same among s h = absurd h
  array_as o (Of (kinds.Script script)) holds same among s h = absurd h
  array_as o (Of kinds.IntArray) holds same among s h =
      (kinds.Int, (kinds.IntArray, refl, own o kinds.IntArray s same), tt, h)
  array_as o (Of kinds.BoolArray) holds same among s h =
      (kinds.Bool, (kinds.BoolArray, refl, own o kinds.BoolArray s same), tt, h)
  array_as o (Of kinds.TextArray) holds same among s h =
      (kinds.Text, (kinds.TextArray, refl, own o kinds.TextArray s same), tt, h)
  array_as o (Of (kinds.ScriptArray script)) holds same among s h =
      (kinds.Script script, (kinds.ScriptArray script, refl, own o (kinds.ScriptArray script) s same), among, h)

  array_gives : (o : Operand) (holds : ValueType → Type 0) → IsSeenIn scope.is_global o → IsArrayWith scope o holds → (element : CoreType) × GivesArray placed (operand_of o) element × IsTypeAmong count element × holds (Of element)
  array_gives o holds s h = array_as o (type_by scope o) holds refl (type_among scope outline scripts function types stands o) s h

  pub creates : (to size : Operand) → IsSeenIn scope.is_global to → Creates scope to size
      → (size_of (number_of size) ≤ 128) × IsPlace placed (operand_of to) × ((kind : CoreType) × (element : CoreType) × (type_of outline scope.home.now.here function (operand_of to) ≡ Some kind) × (element_kind kind ≡ Some element))
  creates loaded.NoneValue size s h = absurd (no_array h.0)
  creates (loaded.Word name) size s h = absurd (no_array h.0)
  creates (loaded.Quoted text) size s h = absurd (no_array h.0)
  creates (loaded.Int number) size s h = absurd (no_array h.0)
  creates (loaded.Bool truth) size s h = absurd (no_array h.0)
  creates (loaded.Slot number) size s h =
      ((size_in_range size h.1).1, tt, array_kind (type_by scope (loaded.Slot number)) (type_of outline scope.home.now.here function (Slot number)) (slot_means scope outline scripts function types stands number) h.0)
  creates (loaded.Variable number) size s h =
      ((size_in_range size h.1).1, stands.is_global ∙ s, array_kind (type_by scope (loaded.Variable number)) (kind_in (slice_get (variables_in (slice_get outline scope.home.now.here)) number)) (variable_is scope outline scripts function types stands number) h.0)
  creates loaded.Instance size s h = absurd (no_array h.0)
  creates loaded.State size s h = absurd (no_array h.0)

  pub measures : (to array : Operand) → IsSeenIn scope.is_global to → IsSeenIn scope.is_global array → Measures scope to array → Stores placed (operand_of to) (Some kinds.Int) × ((element : CoreType) × GivesArray placed (operand_of array) element)
  measures to array s t h =
      let found = array_gives array (λ _. Unit {0}) t (as_array (element_type (type_by scope array)) h.1) in
      (takes_kind to kinds.Int tt s h.0, (found.0, found.1))

  pub gets_element : (to array index : Operand) → IsSeenIn scope.is_global to → IsSeenIn scope.is_global array → IsSeenIn scope.is_global index → GetsElement scope to array index
      → (element : CoreType) × GivesArray placed (operand_of array) element × Stores placed (operand_of to) (Some element) × Gives placed kinds.Int (operand_of index)
  gets_element to array index s t u h =
      let found = array_gives array (λ element. Takes scope to element) t h.1 in
      (found.0, found.1, takes_kind to found.0 found.2 s found.3, own index kinds.Int u h.0)

  pub sets_element : (array index value : Operand) → IsSeenIn scope.is_global array → IsSeenIn scope.is_global index → IsSeenIn scope.is_global value → SetsElement scope array index value
      → (element : CoreType) × GivesArray placed (operand_of array) element × Gives placed kinds.Int (operand_of index) × Gives placed element (operand_of value)
  sets_element array index value s t u h =
      let found = array_gives array (λ element. IsFor scope element value) s h.1 in
      (found.0, found.1, own index kinds.Int t h.0, gives scope outline scripts function types stands value found.0 u found.3)

  pub finds : (array to value start : Operand) → IsSeenIn scope.is_global array → IsSeenIn scope.is_global to → IsSeenIn scope.is_global value → IsSeenIn scope.is_global start → Finds scope array to value start
      → Searches placed (operand_of array) (operand_of to) (operand_of value) (operand_of start)
  finds array to value start s t u v h =
      let found = array_gives array (λ element. IsFor scope element value) s h.1.1 in
      (takes_kind to kinds.Int tt t h.0, own start kinds.Int v h.1.0, (found.0, found.1, gives scope outline scripts function types stands value found.0 u found.3))
