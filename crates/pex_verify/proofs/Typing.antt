-- Operands that are judged to be of a type are so in the final scripts.
use Rattle.std.proofs.Common.{◌≡◌, ℕ, zero, suc, true, List, [], ◌∷◌, Option, Some, None, map, refl, sym, ap, subst, ◌∙◌, inl, inr, arith, vec_len}
use Rattle.std.specs.Prelude.{slice_get, slice_index_or, All, IsSome}
use Rattle.std.specs.Option.{option_map}
use Rattle.std.proofs.lemmas.Option.{slice_get-map, slice_get_within, get_or_from_slice_get}
use Rattle.core_tree.specs.declared.core_type.CoreType.{CoreType}
use Rattle.core_tree.specs.declared.core_type.CoreType.TheVariants as kinds
use Rattle.core_tree.specs.declared.outline.OutlineVariable.{OutlineVariable}
use Rattle.core_tree.specs.Outlines.{ScriptShape}
use Rattle.run_laws.specs.Fits.{variable_kinds}
use Rattle.core_tree.specs.Values.{holds_none}
use Rattle.core_tree.specs.Values.{element_kind}
use Rattle.code_meaning.specs.Code.{Function, Script, Slot}
use Rattle.code_meaning.specs.Operands.{slot_kinds, variables_in, kind_in, type_of}
use Rattle.run_laws.specs.TypedCode.{Scope, Fits, IsSeen, Gives, GivesResult, Where, Takes as TakesTyped, Stores, Casts}
use Rattle.pex_verify.specs.declared.judged.JudgedOperand.{JudgedOperand as Operand}
use Rattle.pex_verify.specs.declared.judged.JudgedOperand.TheVariants as loaded
use Rattle.pex_verify.specs.declared.scope.FunctionScope.{FunctionScope}
use Rattle.pex_verify.specs.declared.value_type.ValueType.{ValueType}
use Rattle.pex_verify.specs.declared.value_type.ValueType.TheVariants.{Nothing, Float, Unknown, Of}
use Rattle.pex_verify.specs.Agreement.{HaveTypesOf, Stands}
use Rattle.pex_verify.specs.Fitting.{FitsIn, CastsIn, Stored}
use Rattle.pex_verify.specs.Judgement.{IsSeenIn, spans_of, type_by, stored_by, variable_type}
use Rattle.pex_verify.specs.Meanings.{of_result}
use Rattle.pex_verify.specs.JudgedCode.{operand_of}
use Rattle.pex_verify.specs.Types.{IsTypeAmong, IsValueTypeAmong}
use Rattle.pex_verify.proofs.Fitting.{fits_itself}

-- ---- a type as it is judged, and as it stands in the end
abbrev pub Means : ValueType → Option CoreType → Type 0
Means Nothing kind = kind ≡ None
Means Float kind = ⊥
Means Unknown kind = Unit {0}
Means (Of found) kind = kind ≡ Some found

means_result : (kind : Option CoreType) → Means (of_result kind) kind
means_result None = refl
means_result (Some kind) = refl

means_at : (kinds : List (Option CoreType)) (n : ℕ) → Means (slice_index_or (map of_result kinds) n Unknown) (slice_index_or kinds n None)
means_at [] n = tt
means_at (kind ∷ rest) zero = means_result kind
means_at (kind ∷ rest) (suc n) = means_at rest n

variable_means : (vs ws : List OutlineVariable) (n : ℕ) → map (λ (v : OutlineVariable). v.kind) vs ≡ map (λ (w : OutlineVariable). w.kind) ws → Means (variable_type (slice_get vs n)) (kind_in (slice_get ws n))
variable_means [] ws n same = tt
variable_means (v ∷ vs) [] n same = absurd cc
variable_means (v ∷ vs) (w ∷ ws) zero same = let e : w.kind ≡ v.kind = cc in ap Some e
variable_means (v ∷ vs) (w ∷ ws) (suc n) same = variable_means vs ws n (cc)

variable_kinds_are : (script : Option ScriptShape) → variable_kinds script ≡ map (λ (v : OutlineVariable). v.kind) (variables_in script)
variable_kinds_are None = refl
variable_kinds_are (Some script) = refl

module _ (scope : FunctionScope) (outline : List ScriptShape) (scripts : List Script) (function : Function) (types : HaveTypesOf scope.home.now.set.now outline) (stands : Stands scope outline function) where
  abbrev placed : Scope
  placed = record { outline = outline; scripts = scripts; script = scope.home.now.here; function = function }

  abbrev count : ℕ
  count = vec_len scope.home.now.set.now.heads

  -- ---- types
  pub fits_value : (from kind : CoreType) → IsTypeAmong count from → FitsIn (spans_of scope) (Of from) (Of kind) → Fits outline (Some from) kind
  fits_value kinds.Int kind among h = h
  fits_value kinds.Bool kind among h = h
  fits_value kinds.Text kind among h = h
  fits_value (kinds.Script child) (kinds.Script above) among h = types.children child above among h
  fits_value (kinds.Script child) kind among h = h
  fits_value kinds.IntArray kind among h = h
  fits_value kinds.BoolArray kind among h = h
  fits_value kinds.TextArray kind among h = h
  fits_value (kinds.ScriptArray child) kind among h = h

  pub fits_given : (from : Option CoreType) (kind : CoreType) → IsValueTypeAmong count (of_result from) → FitsIn (spans_of scope) (of_result from) (Of kind) → Fits outline from kind
  fits_given None kind among h = h
  fits_given (Some from) kind among h = fits_value from kind among h

  fits_meant : (value : ValueType) (from : Option CoreType) (kind : CoreType) → Means value from → IsValueTypeAmong count value → FitsIn (spans_of scope) value (Of kind) → Fits outline from kind
  fits_meant Nothing from kind meant among h =
      subst (λ (o : Option CoreType). Fits outline o kind) (sym meant) h
  fits_meant Float from kind meant among h = absurd h
  fits_meant Unknown from kind meant among h = absurd h
  fits_meant (Of found) from kind meant among h =
      subst (λ (o : Option CoreType). Fits outline o kind) (sym meant) (fits_value found kind among h)

  -- ---- parameters, locals and variables
  pub slot_means : (n : ℕ) → Means (type_by scope (loaded.Slot n)) (type_of outline scope.home.now.here function (Slot n))
  slot_means n =
      subst (λ (slots : List ValueType). Means (slice_index_or slots n Unknown) (slice_index_or (slot_kinds function) n None)) (sym stands.slots) (means_at (slot_kinds function) n)

  among_at : (vs : List ValueType) (n : ℕ) → All (IsValueTypeAmong count) vs → IsValueTypeAmong count (slice_index_or vs n Unknown)
  among_at [] n all = tt
  among_at (v ∷ vs) zero all = all 0 v (omega arith)
  among_at (v ∷ vs) (suc n) all = among_at vs n (λ k d h. all (suc k) d (omega arith))

  kind_found : (n : ℕ) (found : Option OutlineVariable) → slice_get scope.home.now.variables.now.list.items n ≡ found → (kind : CoreType) → variable_type found ≡ Of kind → slice_get (variable_kinds (slice_get outline scope.home.now.here)) n ≡ Some kind
  kind_found n None is kind same = absurd cc
  kind_found n (Some variable) is kind same =
      let e : variable.kind ≡ kind = cc in
      ap (λ (ks : List CoreType). slice_get ks n) (sym stands.variables)
      ∙ (slice_get-map (λ (v : OutlineVariable). v.kind) scope.home.now.variables.now.list.items n
      ∙ (ap (option_map (λ (v : OutlineVariable). v.kind)) is ∙ ap Some e))

  kind_among : (n : ℕ) (found : Option OutlineVariable) → slice_get scope.home.now.variables.now.list.items n ≡ found → IsValueTypeAmong count (variable_type found)
  kind_among n None is = tt
  kind_among n (Some variable) is =
      let vs = scope.home.now.variables.now.list.items in
      subst (λ (v : OutlineVariable). IsTypeAmong count v.kind) (get_or_from_slice_get vs n variable variable is) (stands.variables_among n variable (slice_get_within vs n variable is))

  variable_gives : (n : ℕ) (kind : CoreType) (found : Option OutlineVariable) → slice_get scope.home.now.variables.now.list.items n ≡ found → FitsIn (spans_of scope) (variable_type found) (Of kind)
      → (from : CoreType) × (slice_get (variable_kinds (slice_get outline scope.home.now.here)) n ≡ Some from) × Fits outline (Some from) kind
  variable_gives n kind None is h = absurd h
  variable_gives n kind (Some variable) is h =
      (variable.kind, kind_found n (Some variable) is variable.kind refl, fits_value variable.kind kind (kind_among n (Some variable) is) h)

  pub variable_is : (n : ℕ) → Means (type_by scope (loaded.Variable n)) (kind_in (slice_get (variables_in (slice_get outline scope.home.now.here)) n))
  variable_is n =
      variable_means scope.home.now.variables.now.list.items (variables_in (slice_get outline scope.home.now.here)) n (stands.variables ∙ variable_kinds_are (slice_get outline scope.home.now.here))

  -- ---- operands
  pub seen : (o : Operand) → IsSeenIn scope.is_global o → IsSeen placed (operand_of o)
  seen loaded.NoneValue h = tt
  seen (loaded.Word name) h = tt
  seen (loaded.Quoted text) h = tt
  seen (loaded.Int number) h = tt
  seen (loaded.Bool truth) h = tt
  seen (loaded.Slot number) h = tt
  seen (loaded.Variable number) h = stands.is_global ∙ h
  seen loaded.Instance h = tt
  seen loaded.State h = tt

  pub type_among : (o : Operand) → IsValueTypeAmong count (type_by scope o)
  type_among loaded.NoneValue = tt
  type_among (loaded.Word name) = tt
  type_among (loaded.Quoted text) = tt
  type_among (loaded.Int number) = tt
  type_among (loaded.Bool truth) = tt
  type_among (loaded.Slot number) = among_at scope.slots.now.list.items number stands.slots_among
  type_among (loaded.Variable number) = kind_among number (slice_get scope.home.now.variables.now.list.items number) refl
  type_among loaded.Instance = stands.here
  type_among loaded.State = tt

  pub gives : (o : Operand) (kind : CoreType) → IsSeenIn scope.is_global o → FitsIn (spans_of scope) (type_by scope o) (Of kind) → Gives placed kind (operand_of o)
  gives loaded.NoneValue kind s h = h
  gives (loaded.Word name) kind s h = absurd h
  gives (loaded.Quoted text) kind s h = sym h
  gives (loaded.Int number) kind s h = sym h
  gives (loaded.Bool truth) kind s h = sym h
  gives (loaded.Slot number) kind s h =
      fits_meant (type_by scope (loaded.Slot number)) (type_of outline scope.home.now.here function (Slot number)) kind (slot_means number) (type_among (loaded.Slot number)) h
  gives (loaded.Variable number) kind s h =
      (stands.is_global ∙ s, variable_gives number kind (slice_get scope.home.now.variables.now.list.items number) refl h)
  gives loaded.Instance kind s h = fits_value (kinds.Script scope.home.now.here) kind stands.here h
  gives loaded.State kind s h = h

  -- ---- places
  takes_meant : (value : ValueType) (kind : Option CoreType) (holds : ValueType → Type 0) (fits : CoreType → Type 0) → (holds Unknown → ⊥) → ((found : CoreType) → holds (Of found) → fits found) → Means value kind → Stored (Some value) holds → Where kind fits
  takes_meant Nothing kind holds fits never each meant h =
      subst (λ (o : Option CoreType). Where o fits) (sym meant) tt
  takes_meant Float kind holds fits never each meant h = absurd meant
  takes_meant Unknown kind holds fits never each meant h = absurd (never h)
  takes_meant (Of found) kind holds fits never each meant h =
      subst (λ (o : Option CoreType). Where o fits) (sym meant) (each found h)

  pub takes : (o : Operand) (holds : ValueType → Type 0) (fits : CoreType → Type 0) → (holds Unknown → ⊥) → ((found : CoreType) → holds (Of found) → fits found) → IsSeenIn scope.is_global o → Stored (stored_by scope o) holds
      → TakesTyped placed (operand_of o) fits
  takes loaded.NoneValue holds fits never each s h = absurd h
  takes (loaded.Word name) holds fits never each s h = absurd h
  takes (loaded.Quoted text) holds fits never each s h = absurd h
  takes (loaded.Int number) holds fits never each s h = absurd h
  takes (loaded.Bool truth) holds fits never each s h = absurd h
  takes (loaded.Slot number) holds fits never each s h =
      (tt, takes_meant (type_by scope (loaded.Slot number)) (type_of outline scope.home.now.here function (Slot number)) holds fits never each (slot_means number) h)
  takes (loaded.Variable number) holds fits never each s h =
      (stands.is_global ∙ s, takes_meant (type_by scope (loaded.Variable number)) (kind_in (slice_get (variables_in (slice_get outline scope.home.now.here)) number)) holds fits never each (variable_is number) h)
  takes loaded.Instance holds fits never each s h = absurd h
  takes loaded.State holds fits never each s h = (tt, each kinds.Text h)

  -- a value of no type fits none
  pub never_fits : (value : ValueType) → FitsIn (spans_of scope) value Unknown → ⊥
  never_fits Nothing h = h
  never_fits Float h = h
  never_fits Unknown h = h
  never_fits (Of kinds.Int) h = h
  never_fits (Of kinds.Bool) h = h
  never_fits (Of kinds.Text) h = h
  never_fits (Of (kinds.Script script)) h = h
  never_fits (Of kinds.IntArray) h = h
  never_fits (Of kinds.BoolArray) h = h
  never_fits (Of kinds.TextArray) h = h
  never_fits (Of (kinds.ScriptArray script)) h = h

  pub never_float : (value : ValueType) → FitsIn (spans_of scope) value Float → ⊥
  never_float Nothing h = h
  never_float Float h = h
  never_float Unknown h = h
  never_float (Of kinds.Int) h = h
  never_float (Of kinds.Bool) h = h
  never_float (Of kinds.Text) h = h
  never_float (Of (kinds.Script script)) h = h
  never_float (Of kinds.IntArray) h = h
  never_float (Of kinds.BoolArray) h = h
  never_float (Of kinds.TextArray) h = h
  never_float (Of (kinds.ScriptArray script)) h = h

  pub stores : (o : Operand) (from : Option CoreType) → IsValueTypeAmong count (of_result from) → IsSeenIn scope.is_global o → Stored (stored_by scope o) (FitsIn (spans_of scope) (of_result from)) → Stores placed (operand_of o) from
  stores o from among s h =
      takes o (FitsIn (spans_of scope) (of_result from)) (Fits outline from) (never_fits (of_result from)) (λ kind fit. fits_given from kind among fit) s h

  pub takes_value : (o value : Operand) → IsSeenIn scope.is_global o → IsSeenIn scope.is_global value → Stored (stored_by scope o) (FitsIn (spans_of scope) (type_by scope value)) → TakesTyped placed (operand_of o) (λ kind. Gives placed kind (operand_of value))
  takes_value o value s v h =
      takes o (FitsIn (spans_of scope) (type_by scope value)) (λ kind. Gives placed kind (operand_of value)) (never_fits (type_by scope value)) (λ kind fit. gives value kind v fit) s h

  -- ---- casts
  pub gives_own : (o : Operand) (kind : CoreType) → IsSeenIn scope.is_global o → type_by scope o ≡ Of kind → Gives placed kind (operand_of o)
  gives_own o kind s same =
      gives o kind s (subst (λ (v : ValueType). FitsIn (spans_of scope) v (Of kind)) (sym same) (fits_itself (spans_of scope) kind))

  pub gives_none : (o : Operand) (kind : CoreType) → IsSeenIn scope.is_global o → type_by scope o ≡ Nothing → holds_none kind ≡ true → Gives placed kind (operand_of o)
  gives_none o kind s same h =
      gives o kind s (subst (λ (v : ValueType). FitsIn (spans_of scope) v (Of kind)) (sym same) h)

  casts_to_int : (o : Operand) (value : ValueType) → type_by scope o ≡ value → IsSeenIn scope.is_global o → CastsIn (spans_of scope) value (Of kinds.Int) → Casts placed (operand_of o) kinds.Int
  casts_to_int o Nothing same s h = absurd (cc)
  casts_to_int o Float same s h = absurd h
  casts_to_int o Unknown same s h = absurd h
  casts_to_int o (Of kinds.Int) same s h = inl (gives_own o kinds.Int s same)
  casts_to_int o (Of kinds.Bool) same s h = inr (inl (gives_own o kinds.Bool s same))
  casts_to_int o (Of kinds.Text) same s h = inr (inr (gives_own o kinds.Text s same))
  casts_to_int o (Of (kinds.Script script)) same s h = absurd (cc)
  casts_to_int o (Of kinds.IntArray) same s h = absurd (cc)
  casts_to_int o (Of kinds.BoolArray) same s h = absurd (cc)
  casts_to_int o (Of kinds.TextArray) same s h = absurd (cc)
  casts_to_int o (Of (kinds.ScriptArray script)) same s h = absurd (cc)

  casts_to_text : (o : Operand) (value : ValueType) → type_by scope o ≡ value → IsSeenIn scope.is_global o → CastsIn (spans_of scope) value (Of kinds.Text) → Casts placed (operand_of o) kinds.Text
  casts_to_text o Nothing same s h = inr (inr (inr (0, gives_none o (kinds.Script 0) s same refl)))
  casts_to_text o Float same s h = absurd h
  casts_to_text o Unknown same s h = absurd h
  casts_to_text o (Of kinds.Int) same s h = inl (gives_own o kinds.Int s same)
  casts_to_text o (Of kinds.Bool) same s h = inr (inl (gives_own o kinds.Bool s same))
  casts_to_text o (Of kinds.Text) same s h = inr (inr (inl (gives_own o kinds.Text s same)))
  casts_to_text o (Of (kinds.Script script)) same s h =
      inr (inr (inr (script, gives_own o (kinds.Script script) s same)))
  casts_to_text o (Of kinds.IntArray) same s h = absurd (cc)
  casts_to_text o (Of kinds.BoolArray) same s h = absurd (cc)
  casts_to_text o (Of kinds.TextArray) same s h = absurd (cc)
  casts_to_text o (Of (kinds.ScriptArray script)) same s h = absurd (cc)

  casts_to_script : (o : Operand) (value : ValueType) (to : ℕ) → type_by scope o ≡ value → IsSeenIn scope.is_global o → CastsIn (spans_of scope) value (Of (kinds.Script to)) → (from : ℕ) × Gives placed (kinds.Script from) (operand_of o)
  casts_to_script o Nothing to same s h = (to, gives_none o (kinds.Script to) s same refl)
  casts_to_script o Float to same s h = absurd h
  casts_to_script o Unknown to same s h = absurd h
  casts_to_script o (Of (kinds.Script from)) to same s h = (from, gives_own o (kinds.Script from) s same)
  casts_to_script o (Of kinds.Int) to same s h = absurd (cc)
  casts_to_script o (Of kinds.Bool) to same s h = absurd (cc)
  casts_to_script o (Of kinds.Text) to same s h = absurd (cc)
  casts_to_script o (Of kinds.IntArray) to same s h = absurd (cc)
  casts_to_script o (Of kinds.BoolArray) to same s h = absurd (cc)
  casts_to_script o (Of kinds.TextArray) to same s h = absurd (cc)
  casts_to_script o (Of (kinds.ScriptArray script)) to same s h = absurd (cc)

  -- what is cast to an array type fits it
  casts_fit : (value : ValueType) (kind : CoreType) → IsSome (element_kind kind) → CastsIn (spans_of scope) value (Of kind) → FitsIn (spans_of scope) value (Of kind)
  casts_fit value kinds.Int array h = absurd (cc)
  casts_fit value kinds.Bool array h = absurd (cc)
  casts_fit value kinds.Text array h = absurd (cc)
  casts_fit value (kinds.Script script) array h = absurd (cc)
  casts_fit Nothing kind array h = h
  casts_fit Float kind array h = h
  casts_fit Unknown kind array h = h
  casts_fit (Of kinds.Int) kind array h = h
  casts_fit (Of kinds.Bool) kind array h = h
  casts_fit (Of kinds.Text) kind array h = h
  casts_fit (Of (kinds.Script script)) kind array h = h
  casts_fit (Of kinds.IntArray) kind array h = h
  casts_fit (Of kinds.BoolArray) kind array h = h
  casts_fit (Of kinds.TextArray) kind array h = h
  casts_fit (Of (kinds.ScriptArray script)) kind array h = h

  casts : (o : Operand) (kind : CoreType) → IsSeenIn scope.is_global o → CastsIn (spans_of scope) (type_by scope o) (Of kind) → Casts placed (operand_of o) kind
  casts o kinds.Int s h = casts_to_int o (type_by scope o) refl s h
  casts o kinds.Bool s h = seen o s
  casts o kinds.Text s h = casts_to_text o (type_by scope o) refl s h
  casts o (kinds.Script script) s h = casts_to_script o (type_by scope o) script refl s h
  casts o kinds.IntArray s h = gives o kinds.IntArray s (casts_fit (type_by scope o) kinds.IntArray refl h)
  casts o kinds.BoolArray s h = gives o kinds.BoolArray s (casts_fit (type_by scope o) kinds.BoolArray refl h)
  casts o kinds.TextArray s h = gives o kinds.TextArray s (casts_fit (type_by scope o) kinds.TextArray refl h)
  casts o (kinds.ScriptArray script) s h =
      gives o (kinds.ScriptArray script) s (casts_fit (type_by scope o) (kinds.ScriptArray script) refl h)

  never_cast : (value : ValueType) → CastsIn (spans_of scope) value Unknown → ⊥
  never_cast Nothing h = h
  never_cast Float h = h
  never_cast Unknown h = h
  never_cast (Of kinds.Int) h = h
  never_cast (Of kinds.Bool) h = h
  never_cast (Of kinds.Text) h = h
  never_cast (Of (kinds.Script script)) h = h
  never_cast (Of kinds.IntArray) h = h
  never_cast (Of kinds.BoolArray) h = h
  never_cast (Of kinds.TextArray) h = h
  never_cast (Of (kinds.ScriptArray script)) h = h

  pub takes_cast : (o value : Operand) → IsSeenIn scope.is_global o → IsSeenIn scope.is_global value → Stored (stored_by scope o) (CastsIn (spans_of scope) (type_by scope value)) → TakesTyped placed (operand_of o) (Casts placed (operand_of value))
  takes_cast o value s v h =
      takes o (CastsIn (spans_of scope) (type_by scope value)) (Casts placed (operand_of value)) (never_cast (type_by scope value)) (λ kind cast. casts value kind v cast) s h

  -- ---- results
  pub only_none : (value : ValueType) → FitsIn (spans_of scope) value Nothing → value ≡ Nothing
  only_none Nothing h = refl
  only_none Float h = absurd h
  only_none Unknown h = absurd h
  only_none (Of kinds.Int) h = absurd h
  only_none (Of kinds.Bool) h = absurd h
  only_none (Of kinds.Text) h = absurd h
  only_none (Of (kinds.Script script)) h = absurd h
  only_none (Of kinds.IntArray) h = absurd h
  only_none (Of kinds.BoolArray) h = absurd h
  only_none (Of kinds.TextArray) h = absurd h
  only_none (Of (kinds.ScriptArray script)) h = absurd h

  no_variable : (found : Option OutlineVariable) → variable_type found ≡ Nothing → ⊥
  no_variable None same = cc
  no_variable (Some variable) same = cc

  gives_nothing : (o : Operand) → type_by scope o ≡ Nothing → GivesResult placed None (operand_of o)
  gives_nothing loaded.NoneValue same = refl
  gives_nothing (loaded.Word name) same = refl
  gives_nothing (loaded.Quoted text) same = absurd (cc)
  gives_nothing (loaded.Int number) same = absurd (cc)
  gives_nothing (loaded.Bool truth) same = absurd (cc)
  gives_nothing (loaded.Slot number) same =
      subst (λ (v : ValueType). Means v (type_of outline scope.home.now.here function (Slot number))) same (slot_means number)
  gives_nothing (loaded.Variable number) same =
      absurd (no_variable (slice_get scope.home.now.variables.now.list.items number) same)
  gives_nothing loaded.Instance same = absurd (cc)
  gives_nothing loaded.State same = absurd (cc)

  pub gives_result : (o : Operand) (result : Option CoreType) → IsSeenIn scope.is_global o → FitsIn (spans_of scope) (type_by scope o) (of_result result) → GivesResult placed result (operand_of o)
  gives_result o None s h = gives_nothing o (only_none (type_by scope o) h)
  gives_result o (Some kind) s h = gives o kind s h
