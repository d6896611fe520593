-- Typed code keeps what fits.
use Rattle.std.proofs.Common.{◌≡◌, ℕ, zero, suc, ◌-◌, Bool, true, false, cond, List, [], ◌∷◌, map, drop, ℤ, pos, Option, Some, None, refl, sym, ap, subst, ◌∙◌}
use Rattle.std.specs.Prelude.{slice_get, slice_index_or, int_lt}
use Rattle.std.specs.Int.RustNames.{unsigned_abs}
use Rattle.std.specs.List.{list_any, AllByRecursion}
use Rattle.std.specs.Option.{option_and_then}
use Rattle.std.proofs.Math.Dec.{eqb}
use Rattle.core_tree.specs.declared.core_type.CoreType.{CoreType}
use Rattle.core_tree.specs.declared.core_type.CoreType.TheVariants as kinds
use Rattle.core_tree.specs.declared.operator.Arith.TheVariants as signs
use Rattle.core_tree.specs.declared.outline.OutlineVariable.{OutlineVariable}
use Rattle.core_tree.specs.declared.value.Value.{Value}
use Rattle.core_tree.specs.declared.value.Value.TheVariants as values
use Rattle.core_tree.specs.Outlines.{ScriptShape}
use Rattle.papy_base.specs.declared.faults.StackFault.{StackFault}
use Rattle.script_meaning.specs.Arrays.{write_fault, with_array, new_array, with_element}
use Rattle.script_meaning.specs.Evaluation.{self_value}
use Rattle.run_laws.specs.Fits.{Known, known, IsOfScript, HasType, IsResult, HaveTypes, typed, Extends, variable_kinds, VariablesFit, ArrayFits, script_at, SightFits, IsReply, BodyHolds, CallFits}
use Rattle.run_laws.specs.Keeps.{IsOn, RequestFits, StopFits}
use Rattle.script_meaning.specs.Requests.{Sight, Setting, Request, ParentMethod, GlobalFunction, GlobalNative, LoopPass, Asks, Answer, Reply, Act, answer}
use Rattle.script_meaning.specs.Stacks.{Way, ByMethod, ByParent, ByGlobal, ByGet, BySet}
use Rattle.script_meaning.specs.Values.{text_of, Result, number_of, instance_of, array_of, is_true, calculated, is_child, lineage}
use Rattle.core_tree.specs.Values.{default_result, element_kind}
use Rattle.script_meaning.specs.World.{ArrayState}
use Rattle.run_laws.proofs.Kept.{SameSight}
use Rattle.run_laws.proofs.Operating.{own_line, self_has, literal_has, calculated_fits, target_is, instance_cast, child_above, ArrayIs, array_is, length_fits, found_fits, found_back_fits, element_fits, Rewritten, element_written, array_made, sight_as, AnswerIs, framed_is, method_is, get_is, set_is, native_is, request_so}
use Rattle.run_laws.proofs.Typing.{by_own, extends_self, extends_on, types_moved, variables_moved, type_set, variable_fits, variable_written, written_scripts, default_fits, default_result_fits, kinds_of}
use Rattle.code_meaning.specs.Code.{Operand, Literal, Slot, Variable, Itself, StateText, Instruction, Function, Script}
use Rattle.code_meaning.specs.Code as op
use Rattle.code_meaning.specs.Execution.{Step, Onward, Stops, settled, cast_where, created, jumped, reply_result, with_reply, asked, arguments_of, static_request, executed, Halt, followed, run_from, resumed, home_of, run_function, run_code}
use Rattle.code_meaning.specs.LookUp.{BodyPlace, Body, script_of, function_at, FoundMethod, first_method, native_at}
use Rattle.code_meaning.specs.Operands.{Home, Inner, worth, slot_kinds, variables_in, kind_in, type_of, default_at, with_value, where_kept, stored, place_of, noted}
use Rattle.run_laws.specs.TypedCode.{MethodMeets, Calls, Scope, CallsOn, Fits, Gives, AllGive, GivesNone, GivesResult, IsPlace, Where, Stores, GivesArray, Casts, IsTyped, IsTypedSet, StoredBy, RepliesTo, Awaits, Holds, code_types}

-- ---- lists
get_slot : (ks : List (Option CoreType)) (n : ℕ) (k : CoreType) → slice_index_or ks n None ≡ Some k → slice_get ks n ≡ Some (Some k)
get_slot [] n k e = absurd (cc)
get_slot (j ∷ ks) zero k e = ap (λ o. Some o) e
get_slot (j ∷ ks) (suc n) k e = get_slot ks n k e

type_or : (now : Known) (ks : List (Option CoreType)) (vs : List Value) (n : ℕ) → HaveTypes now ks vs → IsResult now (slice_index_or ks n None) (slice_index_or vs n values.NoneValue)
type_or now [] [] n h = refl
type_or now [] (v ∷ vs) n h = absurd h
type_or now (k ∷ ks) [] n h = absurd h
type_or now (k ∷ ks) (v ∷ vs) zero h = h.0
type_or now (k ∷ ks) (v ∷ vs) (suc n) h = type_or now ks vs n h.1

kind_in_map : (vs : List OutlineVariable) (n : ℕ) → kind_in (slice_get vs n) ≡ slice_get (map (λ variable. variable.kind) vs) n
kind_in_map [] n = refl
kind_in_map (v ∷ vs) zero = refl
kind_in_map (v ∷ vs) (suc n) = kind_in_map vs n

variable_kind : (o : Option ScriptShape) (n : ℕ) → kind_in (slice_get (variables_in o) n) ≡ slice_get (variable_kinds o) n
variable_kind None n = refl
variable_kind (Some script) n = kind_in_map script.variables n

dropped_head : {X : Type 0} (xs : List X) (n : ℕ) (x : X) (rest : List X) → drop n xs ≡ x ∷ rest → (slice_get xs n ≡ Some x) × (drop (suc n) xs ≡ rest)
dropped_head [] zero x rest e = absurd (cc)
dropped_head [] (suc n) x rest e = absurd (cc)
dropped_head (y ∷ xs) zero x rest e = (let same : y ≡ x = cc in ap (λ z. Some z) same, let same : xs ≡ rest = cc in same)
dropped_head (y ∷ xs) (suc n) x rest e = dropped_head xs n x rest e

all_dropped : {X : Type 0} (P : X → Type 0) (xs : List X) (n : ℕ) → AllByRecursion P xs → AllByRecursion P (drop n xs)
all_dropped P xs zero a = a
all_dropped P [] (suc n) a = tt
all_dropped P (x ∷ xs) (suc n) a = all_dropped P xs n a.1

-- ---- types
where_so : (o : Option CoreType) (A B : CoreType → Type 0) → ((k : CoreType) → A k → B k) → Where o A → Where o B
where_so None A B so w = tt
where_so (Some k) A B so w = so k w

where_default : (now : Known) (o : Option CoreType) → Where o (λ k. HasType now k (default_result o))
where_default now None = tt
where_default now (Some k) = default_fits now k

own_calls : (outline : List ScriptShape) (scripts : List Script) (o : Option ℕ) (script : ℕ) (is_global : Bool) (way : Way) (parameters : List CoreType) (result : Option CoreType) → IsOn outline o script is_global → is_global ≡ false → ((own : ℕ) → is_child outline own script ≡ true → Calls outline scripts (Some own) way parameters result) → Calls outline scripts o way parameters result
own_calls outline scripts None script is_global way parameters result on g calls = absurd (cc)
own_calls outline scripts (Some own) script is_global way parameters result on g calls = calls own on

module _ (scripts : List Script) (setting : Setting) (set : IsTypedSet setting.outline scripts) where
  abbrev outline : List ScriptShape
  outline = setting.outline

  abbrev sees : Sight → Known
  sees sight = known outline setting.instances sight.arrays

  of_above : (child script : ℕ) (o : Option (ℕ × List ℕ)) → is_child outline child script ≡ true → IsOfScript outline child o → IsOfScript outline script o
  of_above child script None e h = absurd h
  of_above child script (Some x) e h = child_above outline set.above x.0 child script h e

  script_fits : (sight : Sight) (child script : ℕ) (v : Value) → is_child outline child script ≡ true → HasType (sees sight) (kinds.Script child) v → HasType (sees sight) (kinds.Script script) v
  script_fits sight child script values.NoneValue e h = refl
  script_fits sight child script (values.Instance n) e h = of_above child script (slice_get setting.instances n) e h
  script_fits sight child script (values.Int n) e h = absurd (cc)
  script_fits sight child script (values.Bool n) e h = absurd (cc)
  script_fits sight child script (values.Text n) e h = absurd (cc)
  script_fits sight child script (values.Array n) e h = absurd h

  fits_has : (sight : Sight) (from : Option CoreType) (kind : CoreType) (v : Value) → Fits outline from kind → IsResult (sees sight) from v → HasType (sees sight) kind v
  fits_has sight None kind v f h = subst (λ x. HasType (sees sight) kind x) (sym h) f
  fits_has sight (Some (kinds.Script child)) (kinds.Script script) v f h = script_fits sight child script v f h
  fits_has sight (Some (kinds.Script child)) kinds.Int v f h = subst (λ k. HasType (sees sight) k v) f h
  fits_has sight (Some (kinds.Script child)) kinds.Bool v f h = subst (λ k. HasType (sees sight) k v) f h
  fits_has sight (Some (kinds.Script child)) kinds.Text v f h = subst (λ k. HasType (sees sight) k v) f h
  fits_has sight (Some (kinds.Script child)) kinds.IntArray v f h = subst (λ k. HasType (sees sight) k v) f h
  fits_has sight (Some (kinds.Script child)) kinds.BoolArray v f h = subst (λ k. HasType (sees sight) k v) f h
  fits_has sight (Some (kinds.Script child)) kinds.TextArray v f h = subst (λ k. HasType (sees sight) k v) f h
  fits_has sight (Some (kinds.Script child)) (kinds.ScriptArray s) v f h = subst (λ k. HasType (sees sight) k v) f h
  fits_has sight (Some kinds.Int) kind v f h = subst (λ k. HasType (sees sight) k v) f h
  fits_has sight (Some kinds.Bool) kind v f h = subst (λ k. HasType (sees sight) k v) f h
  fits_has sight (Some kinds.Text) kind v f h = subst (λ k. HasType (sees sight) k v) f h
  fits_has sight (Some kinds.IntArray) kind v f h = subst (λ k. HasType (sees sight) k v) f h
  fits_has sight (Some kinds.BoolArray) kind v f h = subst (λ k. HasType (sees sight) k v) f h
  fits_has sight (Some kinds.TextArray) kind v f h = subst (λ k. HasType (sees sight) k v) f h
  fits_has sight (Some (kinds.ScriptArray s)) kind v f h = subst (λ k. HasType (sees sight) k v) f h

  module _ (place : BodyPlace) (function : Function) (on : IsOn setting.outline (script_at setting.instances setting.self) (script_of place) function.is_global) (start : Known) where
    abbrev home : Home
    home = home_of scripts setting place function

    abbrev scope : Scope
    scope = record { outline = outline; scripts = scripts; script = script_of place; function = function }

    abbrev kind_at : Operand → Option CoreType
    kind_at operand = type_of outline (script_of place) function operand

    pub record InnerFits (inner : Inner) : Type 0 where
      pub sight : SightFits outline setting inner.sight
      pub slots : HaveTypes (sees inner.sight) (slot_kinds function) inner.slots
      pub grown : Extends start (sees inner.sight)

    abbrev goes_on : ℕ → Option (Option CoreType) → Type 0
    goes_on at awaited = Awaits scope (slice_get function.code at) awaited

    abbrev Comes : ℕ → Inner → Request → Type 0
    Comes at inner request =
        RequestFits (code_types outline scripts) (sees inner.sight) setting.self function.result (goes_on at) request

    abbrev StepFits : Step → Type 0
    StepFits (Onward over inner) = InnerFits inner
    StepFits (Stops request at inner) = InnerFits inner × Comes at inner request

    -- ---- reading
    gives_has : (kind : CoreType) (operand : Operand) (inner : Inner) → Gives scope kind operand → InnerFits inner → HasType (sees inner.sight) kind (worth home inner operand)
    gives_has kind (Literal value) inner g f = literal_has outline (sees inner.sight) kind value g
    gives_has kind (Slot n) inner g f =
        fits_has inner.sight (kind_at (Slot n)) kind (worth home inner (Slot n)) g (type_or (sees inner.sight) (slot_kinds function) inner.slots n f.slots)
    gives_has kind (Variable n) inner g f =
        let sight = f.sight in
        let line : list_any (λ above. eqb above (script_of place)) (map (λ of_script. of_script.0) inner.sight.variables) ≡ true = subst (λ ss. list_any (λ above. eqb above (script_of place)) ss ≡ true) (sym sight.scripts) (own_line outline (script_at setting.instances setting.self) (script_of place) function.is_global on g.0) in
        fits_has inner.sight (Some (g.1).0) kind (worth home inner (Variable n)) (g.1).2 (variable_fits (sees inner.sight) inner.sight.variables (script_of place) n (g.1).0 line (g.1).1 sight.variables)
    gives_has kind Itself inner g f =
        let sight = f.sight in
        fits_has inner.sight (Some (kinds.Script (script_of place))) kind (self_value setting.self) g (self_has outline setting.instances inner.sight.arrays setting.self (script_of place) function.is_global sight.own on)
    gives_has kind StateText inner g f = fits_has inner.sight (Some kinds.Text) kind (values.Text inner.sight.state) g refl

    none_has : (operand : Operand) (inner : Inner) → GivesNone scope operand → InnerFits inner → worth home inner operand ≡ values.NoneValue
    none_has (Literal value) inner g f = g
    none_has (Slot n) inner g f =
        subst (λ o. IsResult (sees inner.sight) o (worth home inner (Slot n))) g (type_or (sees inner.sight) (slot_kinds function) inner.slots n f.slots)
    none_has (Variable n) inner g f = absurd g
    none_has Itself inner g f = absurd g
    none_has StateText inner g f = absurd g

    result_has : (o : Option CoreType) (operand : Operand) (inner : Inner) → GivesResult scope o operand → InnerFits inner → IsResult (sees inner.sight) o (worth home inner operand)
    result_has None operand inner g f = none_has operand inner g f
    result_has (Some kind) operand inner g f = gives_has kind operand inner g f

    all_have : (ks : List CoreType) (more : List Operand) (inner : Inner) → AllGive scope ks more → InnerFits inner → HaveTypes (sees inner.sight) (typed ks) (arguments_of home inner more)
    all_have [] [] inner g f = tt
    all_have (k ∷ ks) (first ∷ rest) inner g f = (gives_has k first inner g.0 f, all_have ks rest inner g.1 f)
    all_have [] (first ∷ rest) inner g f = absurd g
    all_have (k ∷ ks) [] inner g f = absurd g

    -- ---- writing
    kept_by : (o : Option CoreType) (kept dropped : Inner) (A : CoreType → Type 0) → Where o A → ((k : CoreType) → o ≡ Some k → A k → InnerFits kept) → InnerFits dropped → InnerFits (where_kept o kept dropped)
    kept_by None kept dropped A w f d = d
    kept_by (Some k) kept dropped A w f d = f k refl w

    abbrev Taken : Operand → Inner → Value → Type 0
    Taken result inner value = Where (kind_at result) (λ k. HasType (sees inner.sight) k value)

    stored_fits : (result : Operand) (value : Value) (inner : Inner) → IsPlace scope result → Taken result inner value → InnerFits inner → InnerFits (stored home result value inner)
    stored_fits (Literal v) value inner p w f = absurd p
    stored_fits Itself value inner p w f = absurd p
    stored_fits (Slot n) value inner p w f =
        kept_by (kind_at (Slot n)) (with_value home (Slot n) value inner) inner (λ k. HasType (sees inner.sight) k value) w (λ k e h. record { sight = f.sight; slots = type_set (sees inner.sight) (slot_kinds function) n (Some k) value inner.slots (get_slot (slot_kinds function) n k e) h f.slots; grown = f.grown }) f
    stored_fits (Variable n) value inner p w f =
        let s = f.sight in
        let script = script_of place in
        kept_by (kind_at (Variable n)) (with_value home (Variable n) value inner) inner (λ k. HasType (sees inner.sight) k value) w (λ k e h. record { sight = record { of_set = s.of_set; natives = s.natives; own = s.own; scripts = written_scripts inner.sight.variables script n value ∙ s.scripts; variables = variable_written (sees inner.sight) inner.sight.variables script n k value (sym (variable_kind (slice_get outline script) n) ∙ e) h s.variables; arrays = s.arrays }; slots = f.slots; grown = f.grown }) f
    stored_fits StateText value inner p w f =
        let s = f.sight in
        by_own (λ (x : Sight). InnerFits (record inner { sight = x })) home.setting.self (text_of value) inner.sight f (record { sight = record { of_set = s.of_set; natives = s.natives; own = s.own; scripts = s.scripts; variables = s.variables; arrays = s.arrays }; slots = f.slots; grown = f.grown })

    noted_fits : (at : ℕ) (fault : Option StackFault) (inner : Inner) → InnerFits inner → InnerFits (noted home at fault inner)
    noted_fits at None inner f = f
    noted_fits at (Some fault) inner f =
        let s = f.sight in
        record { sight = record { of_set = s.of_set; natives = s.natives; own = s.own; scripts = s.scripts; variables = s.variables; arrays = s.arrays }; slots = f.slots; grown = f.grown }

    settled_fits : (at : ℕ) (result : Operand) (value : Value) (fault : Option StackFault) (inner : Inner) → IsPlace scope result → Taken result inner value → InnerFits inner → InnerFits (stored home result value (noted home at fault inner))
    settled_fits at result value None inner p w f = stored_fits result value inner p w f
    settled_fits at result value (Some fault) inner p w f =
        stored_fits result value (noted home at (Some fault) inner) p w (noted_fits at (Some fault) inner f)

    -- a value of a type that the result takes
    taken : (result : Operand) (from : Option CoreType) (value : Value) (inner : Inner) → Stores scope result from → IsResult (sees inner.sight) from value → Taken result inner value
    taken result from value inner s h =
        where_so (kind_at result) (Fits outline from) (λ k. HasType (sees inner.sight) k value) (λ k g. fits_has inner.sight from k value g h) s.1

    gave : (result : Operand) (from : CoreType) (value : Value) (inner : Inner) → Stores scope result (Some from) → HasType (sees inner.sight) from value → InnerFits inner → InnerFits (stored home result value inner)
    gave result from value inner s h f = stored_fits result value inner s.0 (taken result (Some from) value inner s h) f

    settled_gave : (at : ℕ) (result : Operand) (from : CoreType) (of : Result) (inner : Inner) → Stores scope result (Some from) → HasType (sees inner.sight) from of.0 → InnerFits inner → StepFits (settled home at result of inner)
    settled_gave at result from of inner s h f =
        settled_fits at result of.0 of.1 inner s.0 (taken result (Some from) of.0 inner s h) f

    -- ---- arrays
    rewritten_fits : (inner : Inner) (after : List ArrayState) → kinds_of after ≡ kinds_of inner.sight.arrays → AllByRecursion (ArrayFits (sees inner.sight)) after → InnerFits inner → InnerFits (record inner { sight = record inner.sight { arrays = after } })
    rewritten_fits inner after e a f =
        let s = f.sight in
        let of : List CoreType → Known = λ ks. record { outline = outline; instances = setting.instances; arrays = ks } in
        record { sight = record { of_set = s.of_set; natives = s.natives; own = s.own; scripts = s.scripts; variables = subst (λ ks. AllByRecursion (VariablesFit (record { outline = outline; instances = setting.instances; arrays = ks })) inner.sight.variables) (sym e) s.variables; arrays = subst (λ ks. AllByRecursion (ArrayFits (record { outline = outline; instances = setting.instances; arrays = ks })) after) (sym e) a }; slots = subst (λ ks. HaveTypes (record { outline = outline; instances = setting.instances; arrays = ks }) (slot_kinds function) inner.slots) (sym e) f.slots; grown = subst (λ ks. Extends start (record { outline = outline; instances = setting.instances; arrays = ks })) (sym e) f.grown }

    grown_fits : (inner : Inner) (after : List ArrayState) → Extends (sees inner.sight) (known outline setting.instances after) → AllByRecursion (ArrayFits (known outline setting.instances after)) after → InnerFits inner → InnerFits (record inner { sight = record inner.sight { arrays = after } })
    grown_fits inner after x a f =
        let s = f.sight in
        record { sight = record { of_set = s.of_set; natives = s.natives; own = s.own; scripts = s.scripts; variables = variables_moved (sees inner.sight) (known outline setting.instances after) x inner.sight.variables s.variables; arrays = a }; slots = types_moved (sees inner.sight) (known outline setting.instances after) x (slot_kinds function) inner.slots f.slots; grown = extends_on start (sees inner.sight) (known outline setting.instances after) f.grown x }

    gives_array : (array : Operand) (element : CoreType) (inner : Inner) → GivesArray scope array element → InnerFits inner → ArrayIs (sees inner.sight) element (array_of (worth home inner array))
    gives_array array element inner g f =
        array_is (sees inner.sight) g.0 element (worth home inner array) g.1 (gives_has g.0 array inner g.2 f)

    made_fits : (at : ℕ) (result : Operand) (size : ℕ) (kind element : CoreType) (inner : Inner) → IsPlace scope result → kind_at result ≡ Some kind → element_kind kind ≡ Some element → InnerFits inner → StepFits (created home at result size (Some element) inner)
    made_fits at result size kind element inner p k e f =
        let s = f.sight in
        let made = array_made outline setting.instances inner.sight.arrays s.arrays element kind size e in
        let after : Inner = record inner { sight = record inner.sight { arrays = with_array inner.sight.arrays element size } } in
        settled_fits at result (new_array inner.sight.arrays).0 (new_array inner.sight.arrays).1 after p (subst (λ o. Where o (λ j. HasType (sees after.sight) j (new_array inner.sight.arrays).0)) (sym k) made.2) (grown_fits inner (with_array inner.sight.arrays element size) made.0 made.1 f)

    -- ---- casts
    cast_by : (o : Option CoreType) (value : Operand) (inner : Inner) → Where o (Casts scope value) → InnerFits inner → Where o (λ k. HasType (sees inner.sight) k (cast_where home o (worth home inner value)))
    cast_by None value inner w f = tt
    cast_by (Some kinds.Int) value inner w f = refl
    cast_by (Some kinds.Bool) value inner w f = refl
    cast_by (Some kinds.Text) value inner w f = refl
    cast_by (Some (kinds.Script script)) value inner w f =
        instance_cast (sees inner.sight) w.0 script (worth home inner value) (gives_has (kinds.Script w.0) value inner w.1 f)
    cast_by (Some kinds.IntArray) value inner w f = gives_has kinds.IntArray value inner w f
    cast_by (Some kinds.BoolArray) value inner w f = gives_has kinds.BoolArray value inner w f
    cast_by (Some kinds.TextArray) value inner w f = gives_has kinds.TextArray value inner w f
    cast_by (Some (kinds.ScriptArray script)) value inner w f = gives_has (kinds.ScriptArray script) value inner w f

    -- ---- jumps
    either_step : (here : Bool) (a b : Step) → StepFits a → StepFits b → StepFits (cond here a b)
    either_step true a b h g = h
    either_step false a b h g = g

    jumped_fits : (at : ℕ) (offset : ℤ) (inner : Inner) → InnerFits inner → StepFits (jumped at offset inner)
    jumped_fits at offset inner f =
        either_step (int_lt (pos 0) offset) (Onward (unsigned_abs offset - 1) inner) (Stops LoopPass (at - unsigned_abs offset) inner) f (f, tt)

    -- ---- questions
    same_inner : (inner : Inner) (after : Sight) → SameSight after inner.sight → InnerFits inner → InnerFits (record inner { sight = after })
    same_inner inner after same f = record {
      sight = sight_as outline setting inner.sight after same f.sight;
      slots = subst (λ arrays. HaveTypes (known outline setting.instances arrays) (slot_kinds function) inner.slots) (sym same.2) f.slots;
      grown = subst (λ arrays. Extends start (known outline setting.instances arrays)) (sym same.2) f.grown;
    }

    asked_some : (at : ℕ) (result : Operand) (inner : Inner) (a : Answer) → IsPlace scope result → InnerFits inner → AnswerIs setting (place_of home at) inner.sight (Comes at inner) (Taken result inner) a → StepFits (asked home at (Some result) inner a)
    asked_some at result inner (Reply value after) p f a =
        stored_fits result value (record inner { sight = after }) p (subst (λ arrays. Where (kind_at result) (λ k. HasType (known outline setting.instances arrays) k value)) (sym (a.0).2) a.1) (same_inner inner after a.0 f)
    asked_some at result inner (Act request) p f a = (f, a)

    asked_none : (at : ℕ) (inner : Inner) (a : Answer) → InnerFits inner → AnswerIs setting (place_of home at) inner.sight (Comes at inner) (λ v. Unit {0}) a → StepFits (asked home at None inner a)
    asked_none at inner (Reply value after) f a = same_inner inner after a.0 f
    asked_none at inner (Act request) f a = (f, a)

    default_taken : (result : Operand) (inner : Inner) → Taken result inner (default_at home result)
    default_taken result inner = where_default (sees inner.sight) (kind_at result)

    -- a call on the instance that an operand gives
    target_call : (script : ℕ) (object : Operand) (way : Way) (parameters : List CoreType) (given : Option CoreType) (arguments : List Value) (inner : Inner) → Gives scope (kinds.Script script) object → CallsOn scope script way parameters given → HaveTypes (sees inner.sight) (typed parameters) arguments → InnerFits inner → (target : ℕ) → instance_of (worth home inner object) ≡ Some target → CallFits (code_types outline scripts) (sees inner.sight) (Some target) way arguments given
    target_call script object way parameters given arguments inner g calls h f target e =
        let i = target_is (sees inner.sight) script (worth home inner object) target (gives_has (kinds.Script script) object inner g f) e in
        record { there = i.3; parameters = parameters; called = subst (λ o. Calls outline scripts o way parameters given) (sym i.1) (calls i.0 i.2); values = h }

    static_by : (at script : ℕ) (name : List ℕ) (result : Operand) (arguments : List Value) (parameters : List CoreType) (given : Option CoreType) (method : FoundMethod) (native : Bool) (inner : Inner) → method.function.is_native ≡ native → MethodMeets outline true parameters given (Some method) → CallFits (code_types outline scripts) (sees inner.sight) None (ByGlobal script name) arguments given → goes_on at (Some given) → Stores scope result given → InnerFits inner → AnswerIs setting (place_of home at) inner.sight (Comes at inner) (Taken result inner) (answer setting (place_of home at) (Asks (cond native (GlobalNative (native_at method) arguments) (GlobalFunction script name arguments (default_at home result)))) inner.sight)
    static_by at script name result arguments parameters given method false inner e m c w s f =
        framed_is setting (place_of home at) inner.sight (Comes at inner) (Taken result inner) (GlobalFunction script name arguments (default_at home result)) (default_at home result) (given, c, w) (default_taken result inner)
    static_by at script name result arguments parameters given method true inner e m c w s f =
        let there = m.3 e in
        let sight = f.sight in
        native_is setting (place_of home at) inner.sight (Comes at inner) (Taken result inner) outline (native_at method) arguments refl sight.natives there.0 (there.0, subst (λ r. goes_on at (Some r)) (sym there.1) w) (sees inner.sight) (λ v h. taken result given v inner s (subst (λ r. IsResult (sees inner.sight) r v) there.1 h))

    static_fits : (at script : ℕ) (name : List ℕ) (result : Operand) (arguments : List Value) (parameters : List CoreType) (given : Option CoreType) (o : Option FoundMethod) (inner : Inner) → MethodMeets outline true parameters given o → CallFits (code_types outline scripts) (sees inner.sight) None (ByGlobal script name) arguments given → goes_on at (Some given) → Stores scope result given → InnerFits inner → AnswerIs setting (place_of home at) inner.sight (Comes at inner) (Taken result inner) (answer setting (place_of home at) (Asks (static_request script name arguments (default_at home result) o)) inner.sight)
    static_fits at script name result arguments parameters given None inner m c w s f = absurd m
    static_fits at script name result arguments parameters given (Some method) inner m c w s f =
        static_by at script name result arguments parameters given method method.function.is_native inner refl m c w s f

    -- ---- instructions
    replies_to : (at : ℕ) (given : Option CoreType) (instruction : Instruction) → slice_get function.code at ≡ Some instruction → StoredBy scope given (reply_result instruction) → goes_on at (Some given)
    replies_to at given instruction e s = subst (λ o. RepliesTo scope given o) (sym e) s

    executed_fits : (at : ℕ) (instruction : Instruction) (inner : Inner) → slice_get function.code at ≡ Some instruction → IsTyped scope instruction → InnerFits inner → StepFits (executed home at instruction inner)
    executed_fits at op.Nop inner e t f = f
    executed_fits at (op.IAdd result left right) inner e t f =
        settled_gave at result kinds.Int (calculated signs.Add (worth home inner left) (worth home inner right)) inner t.0 refl f
    executed_fits at (op.ISub result left right) inner e t f =
        settled_gave at result kinds.Int (calculated signs.Sub (worth home inner left) (worth home inner right)) inner t.0 refl f
    executed_fits at (op.IMul result left right) inner e t f =
        settled_gave at result kinds.Int (calculated signs.Mul (worth home inner left) (worth home inner right)) inner t.0 refl f
    executed_fits at (op.IDiv result left right) inner e t f =
        settled_gave at result kinds.Int (calculated signs.Div (worth home inner left) (worth home inner right)) inner t.0 (calculated_fits (sees inner.sight) signs.Div (worth home inner left) (worth home inner right)) f
    executed_fits at (op.IMod result left right) inner e t f =
        settled_gave at result kinds.Int (calculated signs.Rem (worth home inner left) (worth home inner right)) inner t.0 (calculated_fits (sees inner.sight) signs.Rem (worth home inner left) (worth home inner right)) f
    executed_fits at (op.Not result value) inner e t f = gave result kinds.Bool _ inner t.0 refl f
    executed_fits at (op.INeg result value) inner e t f = gave result kinds.Int _ inner t.0 refl f
    executed_fits at (op.Assign result value) inner e t f =
        stored_fits result (worth home inner value) inner (t.0).0 (where_so (kind_at result) (λ k. Gives scope k value) (λ k. HasType (sees inner.sight) k (worth home inner value)) (λ k g. gives_has k value inner g f) (t.0).1) f
    executed_fits at (op.Cast result value) inner e t f =
        stored_fits result (cast_where home (kind_at result) (worth home inner value)) inner (t.0).0 (cast_by (kind_at result) value inner (t.0).1 f) f
    executed_fits at (op.CmpEq result left right) inner e t f = gave result kinds.Bool _ inner t.0 refl f
    executed_fits at (op.CmpLt result left right) inner e t f = gave result kinds.Bool _ inner t.0 refl f
    executed_fits at (op.CmpLe result left right) inner e t f = gave result kinds.Bool _ inner t.0 refl f
    executed_fits at (op.CmpGt result left right) inner e t f = gave result kinds.Bool _ inner t.0 refl f
    executed_fits at (op.CmpGe result left right) inner e t f = gave result kinds.Bool _ inner t.0 refl f
    executed_fits at (op.Jmp offset) inner e t f = jumped_fits at offset inner f
    executed_fits at (op.JmpT condition offset) inner e t f =
        either_step (is_true (worth home inner condition)) (jumped at offset inner) (Onward 0 inner) (jumped_fits at offset inner f) f
    executed_fits at (op.JmpF condition offset) inner e t f =
        either_step (is_true (worth home inner condition)) (Onward 0 inner) (jumped at offset inner) f (jumped_fits at offset inner f)
    executed_fits at (op.CallMethod name object result more) inner e t f =
        let arguments : List Value = arguments_of home inner more in
        asked_some at result inner _ (t.5).0 f (method_is setting (place_of home at) inner.sight (Comes at inner) (Taken result inner) (instance_of (worth home inner object)) name arguments (default_at home result) (λ target i. (t.2, target_call t.0 object (ByMethod name) t.1 t.2 arguments inner t.3 t.6 (all_have t.1 more inner t.4 f) f target i, replies_to at t.2 (op.CallMethod name object result more) e t.5)) (default_taken result inner))
    executed_fits at (op.CallParent name result more) inner e t f =
        let arguments : List Value = arguments_of home inner more in
        let sight = f.sight in
        let call : CallFits (code_types outline scripts) (sees inner.sight) setting.self (ByParent (script_of place) name) arguments t.1 = record { there = sight.own; parameters = t.0; called = own_calls outline scripts (script_at setting.instances setting.self) (script_of place) function.is_global (ByParent (script_of place) name) t.0 t.1 on t.4 t.5; values = all_have t.0 more inner t.2 f } in
        asked_some at result inner _ (t.3).0 f (framed_is setting (place_of home at) inner.sight (Comes at inner) (Taken result inner) (ParentMethod (script_of place) name arguments (default_at home result)) (default_at home result) (t.1, call, replies_to at t.1 (op.CallParent name result more) e t.3) (default_taken result inner))
    executed_fits at (op.CallStatic script name result more) inner e t f =
        let arguments : List Value = arguments_of home inner more in
        let call : CallFits (code_types outline scripts) (sees inner.sight) None (ByGlobal script name) arguments t.1 = record { there = tt; parameters = t.0; called = t.4; values = all_have t.0 more inner t.2 f } in
        asked_some at result inner _ (t.3).0 f (static_fits at script name result arguments t.0 t.1 (first_method scripts (lineage outline (Some script)) [] name) inner (t.4).1 call (replies_to at t.1 (op.CallStatic script name result more) e t.3) t.3 f)
    executed_fits at (op.Return value) inner e t f = (f, result_has function.result value inner t f)
    executed_fits at (op.StrCat result left right) inner e t f =
        settled_gave at result kinds.Text (calculated signs.Join (worth home inner left) (worth home inner right)) inner t.0 (calculated_fits (sees inner.sight) signs.Join (worth home inner left) (worth home inner right)) f
    executed_fits at (op.PropGet name object result) inner e t f =
        asked_some at result inner _ (t.3).0 f (get_is setting (place_of home at) inner.sight (Comes at inner) (Taken result inner) (instance_of (worth home inner object)) name (default_at home result) (λ target i. (Some t.1, target_call t.0 object (ByGet name) [] (Some t.1) [] inner t.2 t.4 tt f target i, replies_to at (Some t.1) (op.PropGet name object result) e t.3)) (default_taken result inner))
    executed_fits at (op.PropSet name object value) inner e t f =
        asked_none at inner _ f (set_is setting (place_of home at) inner.sight (Comes at inner) (λ v. Unit {0}) (instance_of (worth home inner object)) name (worth home inner value) (λ target i. (target_call t.0 object (BySet name) (t.1 ∷ []) None (worth home inner value ∷ []) inner t.2 t.4 (gives_has t.1 value inner t.3 f, tt) f target i, replies_to at None (op.PropSet name object value) e tt)) tt)
    executed_fits at (op.ArrayCreate result size) inner e t f =
        let kind : CoreType = (t.2).0 in
        let element : CoreType = (t.2).1 in
        let is : option_and_then element_kind (kind_at result) ≡ Some element = ap (λ o. option_and_then element_kind o) (t.2).2 ∙ (t.2).3 in
        subst (λ o. StepFits (created home at result size o inner)) (sym is) (made_fits at result size kind element inner t.1 (t.2).2 (t.2).3 f)
    executed_fits at (op.ArrayLength result array) inner e t f =
        settled_gave at result kinds.Int _ inner t.0 (length_fits (sees inner.sight) inner.sight.arrays (array_of (worth home inner array))) f
    executed_fits at (op.ArrayGetElement result array index) inner e t f =
        let sight = f.sight in
        settled_fits at result _ _ inner (t.2).0 (element_fits outline setting.instances inner.sight.arrays sight.arrays t.0 (Taken result inner) (array_of (worth home inner array)) (number_of (worth home inner index)) (default_at home result) (λ v h. taken result (Some t.0) v inner t.2 h) (default_taken result inner) (gives_array array t.0 inner t.1 f)) f
    executed_fits at (op.ArraySetElement array index value) inner e t f =
        let sight = f.sight in
        let o : Option ℕ = array_of (worth home inner array) in
        let i : ℤ = number_of (worth home inner index) in
        let after : List ArrayState = with_element inner.sight.arrays o i (worth home inner value) in
        let r : Rewritten outline setting.instances inner.sight.arrays sight.arrays t.0 after = element_written outline setting.instances inner.sight.arrays sight.arrays t.0 o i (worth home inner value) (gives_array array t.0 inner t.1 f) (gives_has t.0 value inner t.3 f) in
        noted_fits at (write_fault inner.sight.arrays o i) (record inner { sight = record inner.sight { arrays = after } }) (rewritten_fits inner after r.0 r.1 f)
    executed_fits at (op.ArrayFindElement array result value start) inner e t f =
        settled_gave at result kinds.Int _ inner t.0 (found_fits (sees inner.sight) inner.sight.arrays (array_of (worth home inner array)) (worth home inner value) (number_of (worth home inner start))) f
    executed_fits at (op.ArrayRFindElement array result value start) inner e t f =
        settled_gave at result kinds.Int _ inner t.0 (found_back_fits (sees inner.sight) inner.sight.arrays (array_of (worth home inner array)) (worth home inner value) (number_of (worth home inner start))) f

    -- ---- one instruction after another
    record HaltFits (halt : Halt) : Type 0 where
      stands : InnerFits halt.inner
      comes : Comes halt.at halt.inner halt.request

    followed_fits : (go : ℕ → Inner → Halt) → ((over : ℕ) (inner : Inner) → InnerFits inner → HaltFits (go over inner)) → (step : Step) → StepFits step → HaltFits (followed go step)
    followed_fits go fits (Onward over inner) f = fits over inner f
    followed_fits go fits (Stops request at inner) f = record { stands = f.0; comes = f.1 }

    run_fits : (at : ℕ) (code : List Instruction) (over : ℕ) (inner : Inner) → drop at function.code ≡ code → AllByRecursion (IsTyped scope) code → InnerFits inner → HaltFits (run_from home at code over inner)
    run_fits at [] over inner e t f =
        record { stands = f; comes = default_result_fits (sees inner.sight) function.result }
    run_fits at (first ∷ rest) zero inner e t f =
        let d = dropped_head function.code at first rest e in
        followed_fits (run_from home (suc at) rest) (λ over after g. run_fits (suc at) rest over after d.1 t.1 g) (executed home at first inner) (executed_fits at first inner d.0 t.0 f)
    run_fits at (first ∷ rest) (suc over) inner e t f =
        let d = dropped_head function.code at first rest e in run_fits (suc at) rest over inner d.1 t.1 f

    module _ (placed : function_at scripts place ≡ Some function) where
      dropped_fits : (at : ℕ) (inner : Inner) → InnerFits inner → HaltFits (run_from home at (drop at function.code) 0 inner)
      dropped_fits at inner f =
          run_fits at (drop at function.code) 0 inner refl (all_dropped (IsTyped scope) function.code at (set.functions place function placed)) f

      stored_by : (o : Option Operand) (given : Option CoreType) (value : Value) (inner : Inner) → StoredBy scope given o → IsResult (sees inner.sight) given value → InnerFits inner → InnerFits (with_reply home o value inner)
      stored_by None given value inner s h f = f
      stored_by (Some result) given value inner s h f =
          stored_fits result value inner s.0 (taken result given value inner s h) f

      replied_fits : (o : Option Instruction) (given : Option CoreType) (value : Value) (inner : Inner) → RepliesTo scope given o → IsResult (sees inner.sight) given value → InnerFits inner → InnerFits (with_reply home (option_and_then reply_result o) value inner)
      replied_fits None given value inner s h f = f
      replied_fits (Some instruction) given value inner s h f = stored_by (reply_result instruction) given value inner s h f

      resumed_fits : (at : ℕ) (awaited : Option (Option CoreType)) (reply : Option Value) (inner : Inner) → goes_on at awaited → IsReply (sees inner.sight) awaited reply → InnerFits inner → HaltFits (resumed home at reply inner)
      resumed_fits at None None inner g h f = dropped_fits at inner f
      resumed_fits at (Some given) (Some value) inner g h f =
          dropped_fits (suc at) (with_reply home (option_and_then reply_result (slice_get function.code at)) value inner) (replied_fits (slice_get function.code at) given value inner g h f)
      resumed_fits at None (Some value) inner g h f = absurd h
      resumed_fits at (Some given) None inner g h f = absurd h

  -- ---- a body
  ran_fits : (sight : Sight) (place : BodyPlace) (at : ℕ) (slots : List Value) (awaited : Option (Option CoreType)) (result : Option CoreType) (given : Option Value) → SightFits outline setting sight → (h : Holds outline scripts (sees sight) (script_at setting.instances setting.self) (record { place = place; instruction = at; slots = slots }) awaited result) → IsReply (sees sight) awaited given → StopFits (code_types outline scripts) setting sight h.function.result (run_function scripts setting (record { place = place; instruction = at; slots = slots }) given sight (Some h.function))
  ran_fits sight place at slots awaited result given s h r =
      let function : Function = h.function in
      let inner : Inner = record { slots = slots; sight = sight } in
      let halt : Halt = resumed (home_of scripts setting place function) at given inner in
      let f : InnerFits place function h.on (sees sight) inner = record { sight = s; slots = h.slots; grown = extends_self (sees sight) } in
      let after : HaltFits place function h.on (sees sight) halt = resumed_fits place function h.on (sees sight) h.placed at awaited given inner h.waits r f in
      let stands : InnerFits place function h.on (sees sight) halt.inner = after.stands in
      record { sight = stands.sight; grown = stands.grown; request = request_so (code_types outline scripts) (sees halt.inner.sight) setting.self function.result (λ waits. Awaits (record { outline = outline; scripts = scripts; script = script_of place; function = function }) (slice_get function.code halt.at) waits) (λ waits. BodyHolds (code_types outline scripts) (sees halt.inner.sight) setting.self (record { place = place; instruction = halt.at; slots = halt.inner.slots }) waits function.result) (λ waits g. record { function = function; placed = h.placed; on = h.on; gives = refl; slots = stands.slots; waits = g }) halt.request after.comes }

  pub run_code_fits : (sight : Sight) (body : Body) (awaited : Option (Option CoreType)) (result : Option CoreType) (given : Option Value) → SightFits outline setting sight → BodyHolds (code_types outline scripts) (sees sight) setting.self body awaited result → IsReply (sees sight) awaited given → StopFits (code_types outline scripts) setting sight result (run_code scripts setting body given sight)
  run_code_fits sight body awaited result given s h r =
      let ran : StopFits (code_types outline scripts) setting sight h.function.result (run_function scripts setting body given sight (Some h.function)) = ran_fits sight body.place body.instruction body.slots awaited result given s h r in
      subst (λ o. StopFits (code_types outline scripts) setting sight result (run_function scripts setting body given sight o)) (sym h.placed) (subst (λ k. StopFits (code_types outline scripts) setting sight k (run_function scripts setting body given sight (Some h.function))) h.gives ran)
