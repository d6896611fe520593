-- Places of native functions in an empty state have 16 bits: those of a file's state are counted so, and none of the members that
-- are added behind them is native.
use Rattle.std.proofs.Common.{◌≡◌, ℕ, zero, suc, ◌<◌, ◌≤◌, ◌⊎◌, Bool, true, false, cond, List, [], ◌∷◌, ◌++◌, length, map, Option, Some, None, All, refl, sym, ap, subst, ◌∙◌, ⊎_elim, arith}
use Rattle.std.specs.Prelude.{◌==◌, bit_and, option_to_list, slice_get}
use Rattle.std.specs.List.{AllByRecursion, AllZip}
use Rattle.std.specs.Option.{option_map}
use Rattle.std.specs.declared.alloc.Global.{Global}
use Rattle.std.specs.declared.vec.Vec.{Vec}
use Rattle.std.proofs.lemmas.Bool.{cases_lt, false≢true}
use Rattle.std.proofs.lemmas.List.{get_or-map, length-map}
use Rattle.std.proofs.lemmas.Option.{none-some, same_Some, slice_get-map, slice_get_past, slice_get_within}
use Rattle.core_tree.specs.Outlines.{FunctionShape, ScriptShape, script_shape}
use Rattle.papy_base.specs.declared.name.Name.{Name}
use Rattle.pex_meaning.specs.Prelude as meant
use Rattle.pex_set.specs.Names.{number_in}
use Rattle.pex_values.specs.declared.values.Pex.{Pex}
use Rattle.pex_values.specs.declared.values.PexFunction.{PexFunction}
use Rattle.pex_values.specs.declared.values.PexObject.{PexObject}
use Rattle.pex_values.specs.declared.values.PexState.{PexState}
use Rattle.pex_values.specs.Fit.{FitsObject, FitsState}
use Rattle.pex_values.specs.Plain.{PlainFunction, PlainObject, PlainPex, PlainState, plain, plain_named, plain_object, plain_state}
use Rattle.code_meaning.specs.LookUp.{numbered, one_on}
use Rattle.script_meaning.specs.Requests.{functions_in}
use Rattle.pex_verify.specs.declared.judged.JudgedFunction.{JudgedFunction}
use Rattle.pex_verify.specs.declared.sources.SetFile.{SetFile}
use Rattle.pex_verify.specs.Files.{IsFile}
use Rattle.pex_verify.specs.Heads.{Members, Placed, functions_of_state, member_at}
use Rattle.pex_verify.specs.JudgedCode.{function_of, outline_of}
use Rattle.pex_verify.specs.Meanings.{Meanings}
use Rattle.pex_verify.specs.Offering.{HavePlaces}
use Rattle.pex_verify.specs.Outlining.{functions_without_state, loaded_shape}
use Rattle.pex_verify.specs.Sets.{JudgedSet}
use Rattle.pex_verify.specs.Signatures.{Declared, declared_by, has_bit}
use Rattle.pex_verify.specs.Whole.{IsJudgedSet}
use Rattle.pex_verify.proofs.Context.{lacking_declared, members, objects, tables, views}
use Rattle.pex_verify.proofs.EmptyStates.{first_declared, first_functions, is_empty, no_bytes_test}
use Rattle.pex_verify.proofs.Facts.{objects_of_files, outline_count}
use Rattle.pex_verify.proofs.LookUps.{same_test}
use Rattle.pex_verify.proofs.Methods.{item_from_all, item_of_joined, item_of_map}
use Rattle.pex_verify.proofs.Viewed.{IsAt, at_number, at_viewed}
use Rattle.pex_verify.proofs.Views.{Declares, IsViewed, StateView, view_of}
use Rattle.pex_verify.proofs.Written as written

-- ---- counts of files
-- the functions of each state are counted with 16 bits
abbrev StateCounted : PlainState → Type 0
StateCounted state = length state.functions < 65536

abbrev Counted : PlainObject → Type 0
Counted object = AllByRecursion StateCounted object.states

states_counted : (states : List PlainState) → AllByRecursion FitsState states → AllByRecursion StateCounted states
states_counted [] h = tt
states_counted (state ∷ states) h = (h.0.functions, states_counted states h.1)

objects_counted : (objects : List PlainObject) → AllByRecursion FitsObject objects → AllByRecursion Counted objects
objects_counted [] h = tt
objects_counted (object ∷ objects) h = (states_counted object.states h.0.each_state, objects_counted objects h.1)

prelude_counted : AllByRecursion Counted meant.prelude.objects
prelude_counted =
    let one : 1 < 65536 = omega arith in ((one, tt), ((one, tt), ((one, tt), (tt, ((one, tt), ((one, tt), tt))))))

abbrev FewFunctions : PexObject → Type 0
FewFunctions object = (place : ℕ) → length (functions_of_state (slice_get object.states.items place)) < 65536

few_in_states : (states : List PexState) → AllByRecursion StateCounted (map plain_state states) → (place : ℕ) → length (functions_of_state (slice_get states place)) < 65536
few_in_states [] h place = omega arith
few_in_states (state ∷ states) h zero =
    let counted = h.0 in omega (arith, counted, length-map state.functions.items plain_named)
few_in_states (state ∷ states) h (suc place) = few_in_states states h.1 place

few_in_objects : (objects : List PexObject) → AllByRecursion Counted (map plain_object objects) → All FewFunctions objects
few_in_objects [] h k d l = absurd (omega (arith, l))
few_in_objects (object ∷ objects) h zero d l = few_in_states object.states.items h.0
few_in_objects (object ∷ objects) h (suc k) d l = few_in_objects objects h.1 k d (omega (arith, l))

-- ---- members that are added
members_have_no_bits : (k : ℕ) (member : ℕ × PlainFunction) → slice_get meant.members k ≡ Some member → member.1.bits ≡ 0
members_have_no_bits zero member e = ap (λ (m : ℕ × PlainFunction). m.1.bits) (sym (same_Some _ member e))
members_have_no_bits (suc zero) member e = ap (λ (m : ℕ × PlainFunction). m.1.bits) (sym (same_Some _ member e))
members_have_no_bits (suc (suc zero)) member e = ap (λ (m : ℕ × PlainFunction). m.1.bits) (sym (same_Some _ member e))
members_have_no_bits (suc (suc (suc zero))) member e =
    ap (λ (m : ℕ × PlainFunction). m.1.bits) (sym (same_Some _ member e))
members_have_no_bits (suc (suc (suc (suc k)))) member e = absurd (none-some member e)

option_item : {X : Type 0} (o : Option X) (j : ℕ) (x : X) → slice_get (option_to_list o) j ≡ Some x → o ≡ Some x
option_item None j x e = absurd (none-some x e)
option_item (Some y) zero x e = e
option_item (Some y) (suc j) x e = absurd (none-some x e)

lacking_is : (given : Members) (places : List ℕ) (j : ℕ) (declared : Declared) → slice_get (lacking_declared given places) j ≡ Some declared → (place : ℕ) × (member_at given place ≡ Some declared)
lacking_is given [] j declared e = absurd (none-some declared e)
lacking_is given (place ∷ places) j declared e =
    ⊎_elim
    (λ (first : slice_get (option_to_list (member_at given place)) j ≡ Some declared).
    (place, option_item (member_at given place) j declared first))
    (λ (later : (i : ℕ) × (slice_get (lacking_declared given places) i ≡ Some declared)).
    lacking_is given places later.0 declared later.1)
    (item_of_joined (option_to_list (member_at given place)) (lacking_declared given places) j declared e)

some_of_map : {X Y : Type 0} (f : X → Y) (o : Option X) (y : Y) → option_map f o ≡ Some y → (x : X) × (o ≡ Some x) × (f x ≡ y)
some_of_map f None y e = absurd (none-some y e)
some_of_map f (Some x) y e = (x, refl, same_Some (f x) y e)

-- ---- the first empty state
right_at : {X Y : Type 0} (R : X → Y → Type 0) (xs : List X) (ys : List Y) (k : ℕ) (y : Y) → AllZip R xs ys → slice_get ys k ≡ Some y → (x : X) × (slice_get xs k ≡ Some x) × R x y
right_at R [] [] k y h e = absurd (none-some y e)
right_at R [] (b ∷ ys) k y h e = absurd h
right_at R (a ∷ xs) [] k y h e = absurd h
right_at R (a ∷ xs) (b ∷ ys) zero y h e = (a, refl, subst (λ z. R a z) (same_Some b y e) h.0)
right_at R (a ∷ xs) (b ∷ ys) (suc k) y h e = right_at R xs ys k y h.1 e

further_none : {X : Type 0} (o : Option (ℕ × X)) → one_on o ≡ None → o ≡ None
further_none None e = refl
further_none {X} (Some (k, x)) e = absurd (none-some {A = ℕ × X} (suc k, x) (sym e))

module _ (types : Meanings) (names : List (List ℕ)) (outline : List ScriptShape) (empty : number_in names [] ≡ Some 0) where
  none_by : (v : StateView) (seen : List StateView) (own rest : List JudgedFunction) (b : Bool) → (numbered is_empty seen ≡ None → rest ≡ []) → cond b (Some (0, v)) (one_on (numbered is_empty seen)) ≡ None → cond b own rest ≡ []
  none_by v seen own rest true more e = absurd (none-some {A = ℕ × StateView} (0, v) (sym e))
  none_by v seen own rest false more e = more (further_none (numbered is_empty seen) e)

  none_declared : (seen : List StateView) (states : List (Name × Vec JudgedFunction Global)) → AllZip (IsViewed types names) seen (map (written.plain_state outline) states) → numbered is_empty seen ≡ None → functions_without_state states ≡ []
  none_declared [] [] h e = refl
  none_declared [] (state ∷ states) h e = absurd h
  none_declared (v ∷ seen) [] h e = absurd h
  none_declared (v ∷ seen) (state ∷ states) h e =
      let same : (length state.0 == 0) ≡ (v.name == 0) = sym (no_bytes_test state.0) ∙ same_test names state.0 [] v.name 0 h.0.name empty in
      ap (λ b. cond b state.1.items (functions_without_state states)) same
      ∙ none_by v seen state.1.items (functions_without_state states) (v.name == 0) (none_declared seen states h.1) e

-- ---- a set
module _ {set : JudgedSet} (whole : IsJudgedSet set) where
  files_counted : All (λ (file : Pex). AllByRecursion Counted (plain file).objects) (whole.judged.prelude ∷ set.files)
  files_counted zero d l =
      subst (λ (p : PlainPex). AllByRecursion Counted p.objects) (sym whole.judged.is_prelude.file) prelude_counted
  files_counted (suc k) d l =
      let file : IsFile _ = whole.sound.files k d (omega (arith, l)) in objects_counted _ file.fits.each_object

  sources_counted : All (λ (source : SetFile). AllByRecursion Counted (plain source.pex.now).objects) whole.judged.sources
  sources_counted k d l =
      let joined = subst (All (λ (file : Pex). AllByRecursion Counted (plain file).objects)) (sym whole.judged.files_are) files_counted in
      subst (λ (file : Pex). AllByRecursion Counted (plain file).objects) (get_or-map (λ (source : SetFile). source.pex.now) whole.judged.sources k d d.pex.now l) (joined k d.pex.now (omega (arith, l, length-map whole.judged.sources (λ (source : SetFile). source.pex.now))))

  few_functions : All (λ (o : Placed). FewFunctions o.object) (objects whole)
  few_functions =
      objects_of_files (λ placed. FewFunctions placed.object) whole.judged.sources (λ k source h. few_in_objects _ (sources_counted k source h))

  no_native : (k : ℕ) (declared : Declared) → member_at (members whole) k ≡ Some declared → has_bit declared.bits 2 ≡ true → ⊥
  no_native k declared e native =
      let m = some_of_map (declared_by (members whole).numbers) (slice_get whole.judged.members.list.now k) declared e in
      let there : slice_get meant.members k ≡ Some (plain_named m.0) =
      ap (λ l. slice_get l k) (sym whole.judged.is_prelude.list) ∙ slice_get-map plain_named whole.judged.members.list.now k ∙ ap (option_map plain_named) m.1 in
      let none : m.0.1.bits ≡ 0 = members_have_no_bits k (plain_named m.0) there in
      let bits : declared.bits ≡ 0 = ap (λ (d : Declared). d.bits) (sym m.2) ∙ ap (λ b. bit_and b 3) none in
      false≢true (sym (ap (λ b. has_bit b 2) bits) ∙ native)

  module _ (n : ℕ) (at : IsAt whole n) (place : ℕ) where
    abbrev own : ℕ → List (ℕ × PexFunction)
    own k = functions_of_state (slice_get at.object.object.states.items k)

    within_own : (k : ℕ) (declared : Declared) → has_bit declared.bits 2 ≡ true → slice_get (map (declared_by at.object.source.names.now) (own k) ++ lacking_declared (members whole) at.head.lacking.items) place ≡ Some declared → place < 65536
    within_own k declared native e =
        let few : length (own k) < 65536 = item_from_all (λ (o : Placed). FewFunctions o.object) (objects whole) n at.object few_functions at.object_at k in
        ⊎_elim
        (λ (first : slice_get (map (declared_by at.object.source.names.now) (own k)) place ≡ Some declared).
        let less = slice_get_within (map (declared_by at.object.source.names.now) (own k)) place declared first in
        omega (arith, few, less, length-map (own k) (declared_by at.object.source.names.now)))
        (λ (later : (j : ℕ) × (slice_get (lacking_declared (members whole) at.head.lacking.items) j ≡ Some declared)).
        let found = lacking_is (members whole) at.head.lacking.items later.0 declared later.1 in
        absurd (no_native found.0 declared found.1 native))
        (item_of_joined (map (declared_by at.object.source.names.now) (own k)) (lacking_declared (members whole) at.head.lacking.items) place declared e)

    -- a native of the first empty state of the views
    in_view : (loaded : JudgedFunction) → loaded.is_native ≡ true → slice_get (functions_without_state at.script.states.items) place ≡ Some loaded
        → (o : Option (ℕ × StateView)) → numbered is_empty (view_of (views whole) n) ≡ o → place < 65536
    in_view loaded native stands None e =
        let none = none_declared (tables whole).types whole.judged.names (outline_of set) whole.judged.empty (view_of (views whole) n) at.script.states.items (at_viewed whole n at) e in
        absurd (none-some loaded (ap (λ l. slice_get l place) (sym none) ∙ stands))
    in_view loaded native stands (Some (i, view)) e =
        let numbers = at.object.source.names.now in
        let declared = first_declared (tables whole).types whole.judged.names (outline_of set) whole.judged.empty (view_of (views whole) n) at.script.states.items i view (at_viewed whole n at) e in
        let z = right_at (Declares (tables whole).types whole.judged.names) view.functions (map (function_of (outline_of set)) (functions_without_state at.script.states.items)) place (function_of (outline_of set) loaded) declared (slice_get-map (function_of (outline_of set)) (functions_without_state at.script.states.items) place ∙ ap (option_map (function_of (outline_of set))) stands) in
        let all = first_functions (members whole) numbers at.head.lacking.items at.object.object.states.items i view (ap (numbered is_empty) (sym at.viewed) ∙ e) in
        within_own _ z.0 (sym z.2.is_native ∙ native) (ap (λ l. slice_get l place) (sym all) ∙ z.1)

  places_within : (n place : ℕ) (function : FunctionShape) → n < length (objects whole) → slice_get (functions_in (slice_get (outline_of set) n)) place ≡ Some function → function.is_native ≡ true → place < 65536
  places_within n place function within e native =
      let at = at_number whole n within in
      let shape : slice_get (map loaded_shape (functions_without_state at.script.states.items)) place ≡ Some function =
      ap (λ l. slice_get l place) (sym (ap functions_in (slice_get-map script_shape set.outline n ∙ ap (option_map script_shape) at.shape_at) ∙ at.is.object.loaded.shape.functions)) ∙ e in
      let loaded = item_of_map loaded_shape (functions_without_state at.script.states.items) place function shape in
      in_view n at place loaded.0 (ap (λ (f : FunctionShape). f.is_native) loaded.2 ∙ native) loaded.1 (numbered is_empty (view_of (views whole) n)) refl

  pub have_places : HavePlaces (outline_of set)
  have_places n place function e native =
      ⊎_elim (λ within. places_within n place function within e native)
      (λ past.
      absurd (none-some function (ap (λ o. slice_get (functions_in o) place) (sym (slice_get_past (outline_of set) n (omega (arith, past, outline_count whole)))) ∙ e)))
      (cases_lt n (length (objects whole)))
