-- Typed trees keep what fits.
use Rattle.std.proofs.Common.{◌≡◌, ℕ, Bool, true, false, cond, List, [], ◌∷◌, ◌++◌, map, length, drop, Option, Some, None, refl, sym, ap, subst, ◌∙◌, append_assoc, ℤ, not, neg_ℤ}
use Rattle.std.specs.Prelude.{slice_get, position}
use Rattle.std.specs.Int.{w32, int_wrap}
use Rattle.std.specs.List.{list_any, range_with_len, AllByRecursion}
use Rattle.std.proofs.lemmas.List.{append-nil}
use Rattle.std.proofs.Math.Dec.{eqb}
use Rattle.core_tree.specs.declared.core_type.CoreType.{CoreType}
use Rattle.core_tree.specs.declared.core_type.CoreType.TheVariants as kinds
use Rattle.core_tree.specs.declared.expression.FunctionPlace.{FunctionPlace}
use Rattle.core_tree.specs.declared.operator.Arith.{Arith}
use Rattle.core_tree.specs.declared.value.Value.{Value}
use Rattle.core_tree.specs.declared.value.Value.TheVariants as values
use Rattle.core_tree.specs.Outlines.{ScriptShape}
use Rattle.core_tree.specs.Set.{Script}
use Rattle.core_tree.specs.Tree.{Operation, Calculate, Negate, Not, Join, Equal, Compare, Cast, CallMethod, CallParent, CallGlobal, CallNative, GetProperty, NewArray, Length, Element, Find, FindBack, Expression, Literal, Local, Field, SelfValue, StateText, And, Or, Apply, Expressions, NoExpression, MoreExpressions, Effect, StoreLocal, StoreField, StoreState, StoreProperty, StoreElement, Drop, GiveBack, Statement, Do, ChangeProperty, ChangeElement, If, While, Block, NoStatement, MoreStatements, Branches, NoBranch, MoreBranches}
use Rattle.papy_base.specs.declared.faults.StackFault.{StackFault}
use Rattle.script_meaning.specs.Arrays.{write_fault, with_array, new_array, length_of, element_of, with_element, found, found_back}
use Rattle.script_meaning.specs.Evaluation.{nothing, Home, Inner, Pending, Operand, EffectOperand, AndThen, OrElse, PropertyTarget, PropertyOld, PropertyRight, ElementArray, ElementIndex, ElementRight, Test, LoopTest, LoopBody, Loop, Statements, Outcome, Gives, Stops, then_do, place_of, asked, ask, noted, settled, at_line, taken_at, place_or_zero, by_parameter, name_at, applied, evaluated, with_operands, with_stored, self_value, effected, with_effect, property_right, property_old, property_target, element_right, element_index, element_array, passed, tested, looped, done, all_done, chosen, given, onward, resumed}
use Rattle.run_laws.specs.Fits.{Known, known, HasType, IsResult, HaveTypes, typed, Extends, VariablesFit, ArrayFits, script_at, is_native_at, SightFits, IsReply, BodyHolds, CallFits}
use Rattle.run_laws.specs.Keeps.{seen, IsVariable, IsOn, RequestFits, StopFits}
use Rattle.script_meaning.specs.Requests.{Sight, Setting, Request, GlobalFunction, GlobalNative, ParentMethod, Asks, get_of, set_of, Answer, Reply, Act, result_of}
use Rattle.script_meaning.specs.Source.{Body, reply_or_none, stop_at, run_body}
use Rattle.script_meaning.specs.Stacks.{Way, ByMethod, ByParent, ByGlobal, ByGet, BySet}
use Rattle.run_laws.specs.TypedTrees.{Calls, Scope, CallsOn, ArePlaced, CanCast, IsArrayOf, Operates, HasKind, HaveKinds, returned_kinds, Affects, ChangesProperty, IsTyped, BlockTyped, BranchesTyped, PendingFits, AllPendingFits, awaited_kind, source_types}
use Rattle.script_meaning.specs.Values.{Result, number_of, text_of, instance_of, array_of, is_true, cast_to, equal, in_order, calculated, joined, arith_kind}
use Rattle.core_tree.specs.Values.{default_of, default_result}
use Rattle.script_meaning.specs.World.{ArrayState, variable_of}
use Rattle.run_laws.proofs.Kept.{SameSight}
use Rattle.run_laws.proofs.Operating.{own_line, self_has, literal_fits, calculated_fits, joined_fits, target_is, instance_cast, array_is, length_fits, found_fits, found_back_fits, element_fits, Rewritten, element_written, array_made, sight_as, AnswerIs, framed_is, method_is, get_is, set_is, native_is, request_so}
use Rattle.run_laws.proofs.Typing.{by_own, extends_self, extends_on, has_moved, result_moved, types_moved, variables_moved, type_at, type_set, types_joined, typed_at, variable_fits, variable_written, written_scripts, default_fits, default_result_fits, kinds_of}

-- ---- lists of values
tail_types : (now : Known) (k : Option CoreType) (ks : List (Option CoreType)) (vs : List Value) → HaveTypes now (k ∷ ks) vs → HaveTypes now ks (drop 1 vs)
tail_types now k ks [] h = absurd h
tail_types now k ks (v ∷ vs) h = h.1

placed_by : (now : Known) (ns : List ℕ) (place : ℕ → ℕ) (written parameters : List CoreType) (vs : List Value) → map (λ n. slice_get written (place n)) ns ≡ map (λ k. Some k) parameters → HaveTypes now (typed written) vs → HaveTypes now (typed parameters) (map (λ n. taken_at vs (place n)) ns)
placed_by now [] place written [] vs e h = tt
placed_by now [] place written (k ∷ ks) vs e h = absurd (cc)
placed_by now (n ∷ ns) place written [] vs e h = absurd (cc)
placed_by now (n ∷ ns) place written (k ∷ ks) vs e h =
    let first : slice_get written (place n) ≡ Some k = cc in
    let rest : map (λ n. slice_get written (place n)) ns ≡ map (λ k. Some k) ks = cc in
    (type_at now (typed written) (place n) (Some k) vs (typed_at written (place n) k first) h, placed_by now ns place written ks vs rest h)

placed_fits : (now : Known) (places : List ℕ) (written parameters : List CoreType) (vs : List Value) → ArePlaced places written parameters → HaveTypes now (typed written) vs → HaveTypes now (typed parameters) (by_parameter places vs)
placed_fits now places written parameters vs e h =
    placed_by now (range_with_len 0 (length places)) (λ number. place_or_zero (position (λ place. eqb place number) places)) written parameters vs e h

-- a value in its place
one_at : (now : Known) (kinds ks : List (Option CoreType)) (n : ℕ) (k : Option CoreType) (vs : List Value) → kinds ≡ ks → slice_get ks n ≡ Some k → HaveTypes now kinds vs → IsResult now k (taken_at vs n)
one_at now kinds ks n k vs e p h = type_at now ks n k vs p (subst (λ js. HaveTypes now js vs) e h)

returned_fits : (now : Known) (result : Option CoreType) (kinds : List (Option CoreType)) (vs : List Value) → kinds ≡ returned_kinds result → HaveTypes now kinds vs → IsResult now result (taken_at vs 0)
returned_fits now None kinds [] e h = refl
returned_fits now None kinds (v ∷ vs) e h = absurd (subst (λ ks. HaveTypes now ks (v ∷ vs)) e h)
returned_fits now (Some k) kinds vs e h = one_at now kinds (Some k ∷ []) 0 (Some k) vs e refl h

cast_script : (now : Known) (script : ℕ) (from : CoreType) (v : Value) → CanCast (kinds.Script script) from → HasType now from v → HasType now (kinds.Script script) (cast_to now.outline now.instances (kinds.Script script) v)
cast_script now script (kinds.Script of) v c h = instance_cast now of script v h
cast_script now script kinds.Int v c h = absurd (cc)
cast_script now script kinds.Bool v c h = absurd (cc)
cast_script now script kinds.Text v c h = absurd (cc)
cast_script now script kinds.IntArray v c h = absurd (cc)
cast_script now script kinds.BoolArray v c h = absurd (cc)
cast_script now script kinds.TextArray v c h = absurd (cc)
cast_script now script (kinds.ScriptArray s) v c h = absurd (cc)

cast_fits : (now : Known) (to from : CoreType) (v : Value) → CanCast to from → HasType now from v → HasType now to (cast_to now.outline now.instances to v)
cast_fits now kinds.Int from v c h = refl
cast_fits now kinds.Bool from v c h = refl
cast_fits now kinds.Text from v c h = refl
cast_fits now (kinds.Script script) from v c h = cast_script now script from v c h
cast_fits now kinds.IntArray from v c h = subst (λ k. HasType now k v) c h
cast_fits now kinds.BoolArray from v c h = subst (λ k. HasType now k v) c h
cast_fits now kinds.TextArray from v c h = subst (λ k. HasType now k v) c h
cast_fits now (kinds.ScriptArray s) from v c h = subst (λ k. HasType now k v) c h

-- ---- what is pending
pub pending_moved : (scope : Scope) (now then : Known) → Extends now then → (p : Pending) (inside outside : Option CoreType) → PendingFits scope now p inside outside → PendingFits scope then p inside outside
pending_moved scope now then e (Operand operation taken rest) inside outside p =
    (p.0, p.1, types_moved now then e p.0 taken p.2, p.3, p.4)
pending_moved scope now then e (EffectOperand effect taken rest) inside outside p =
    (p.0, p.1, types_moved now then e p.0 taken p.2, p.3, p.4, p.5)
pending_moved scope now then e (AndThen right) inside outside p = p
pending_moved scope now then e (OrElse right) inside outside p = p
pending_moved scope now then e (PropertyTarget name kind operation right) inside outside p = p
pending_moved scope now then e (PropertyOld target name operation right) inside outside p =
    (p.0, has_moved now then e (kinds.Script p.0) target p.1, p.2, p.3, p.4, p.5)
pending_moved scope now then e (PropertyRight target name operation old) inside outside p =
    (p.0, has_moved now then e (kinds.Script p.0) target p.1, has_moved now then e (arith_kind operation) old p.2, p.3, p.4, p.5)
pending_moved scope now then e (ElementArray index kind operation right) inside outside p = p
pending_moved scope now then e (ElementIndex array kind operation right) inside outside p =
    (p.0, has_moved now then e p.0 array p.1, p.2, p.3, p.4, p.5, p.6)
pending_moved scope now then e (ElementRight array index operation old) inside outside p =
    (p.0, has_moved now then e p.0 array p.1, has_moved now then e kinds.Int index p.2, has_moved now then e (arith_kind operation) old p.3, p.4, p.5, p.6)
pending_moved scope now then e (Test body rest otherwise) inside outside p = p
pending_moved scope now then e (LoopTest line test body) inside outside p = p
pending_moved scope now then e (LoopBody line test body) inside outside p = p
pending_moved scope now then e (Loop line test body) inside outside p = p
pending_moved scope now then e (Statements rest) inside outside p = p

pub all_pending_moved : (scope : Scope) (now then : Known) → Extends now then → (ps : List Pending) (inside outside : Option CoreType) → AllPendingFits scope now ps inside outside → AllPendingFits scope then ps inside outside
all_pending_moved scope now then e [] inside outside p = p
all_pending_moved scope now then e (first ∷ rest) inside outside p =
    (p.0, pending_moved scope now then e first inside p.0 p.1, all_pending_moved scope now then e rest p.0 outside p.2)

all_joined : (scope : Scope) (now : Known) (ps qs : List Pending) (inside between outside : Option CoreType) → AllPendingFits scope now ps inside between → AllPendingFits scope now qs between outside → AllPendingFits scope now (ps ++ qs) inside outside
all_joined scope now [] qs inside between outside p q = subst (λ k. AllPendingFits scope now qs k outside) (sym p) q
all_joined scope now (first ∷ rest) qs inside between outside p q =
    (p.0, p.1, all_joined scope now rest qs p.0 between outside p.2 q)

module _ (scripts : List Script) (setting : Setting) (script : ℕ) (name : List ℕ) (is_global : Bool) (locals : List CoreType) (result : Option CoreType) (on : IsOn setting.outline (script_at setting.instances setting.self) script is_global) where
  abbrev outline : List ScriptShape
  outline = setting.outline

  abbrev sees : Sight → Known
  sees sight = known outline setting.instances sight.arrays

  abbrev home : Home
  home = record { setting = setting; scripts = scripts; script = script; function = name }

  abbrev scope : Scope
  scope = record { outline = outline; scripts = scripts; script = script; is_global = is_global; locals = locals; result = result }

  pub record InnerFits (inner : Inner) : Type 0 where
    pub sight : SightFits outline setting inner.sight
    pub held : HaveTypes (sees inner.sight) (typed locals) inner.locals

  abbrev Comes : List Pending → Inner → Option CoreType → Request → Type 0
  Comes pending inner outside request =
      RequestFits (source_types outline scripts) (sees inner.sight) setting.self result (λ awaited. AllPendingFits scope (sees inner.sight) pending (awaited_kind awaited) outside) request

  -- an outcome after what was known at the start
  abbrev OutcomeFits : Known → Option CoreType → Outcome → Type 0
  OutcomeFits start outside (Gives value inner) =
      InnerFits inner × Extends start (sees inner.sight) × IsResult (sees inner.sight) outside value
  OutcomeFits start outside (Stops request pending inner) =
      InnerFits inner × Extends start (sees inner.sight) × Comes pending inner outside request

  from_before : (before start : Known) (outside : Option CoreType) → Extends before start → (o : Outcome) → OutcomeFits start outside o → OutcomeFits before outside o
  from_before before start outside e (Gives value inner) h = (h.0, extends_on before start (sees inner.sight) e h.1, h.2)
  from_before before start outside e (Stops request pending inner) h =
      (h.0, extends_on before start (sees inner.sight) e h.1, h.2)

  then_fits : (start : Known) (between outside : Option CoreType) (o : Outcome) (go : Value → Inner → Outcome) (waiting : Pending) → OutcomeFits start between o → ((value : Value) (after : Inner) → InnerFits after → Extends start (sees after.sight) → IsResult (sees after.sight) between value → OutcomeFits (sees after.sight) outside (go value after)) → PendingFits scope start waiting between outside → OutcomeFits start outside (then_do o go waiting)
  then_fits start between outside (Gives value inner) go waiting h next w =
      from_before start (sees inner.sight) outside h.1 (go value inner) (next value inner h.0 h.1 h.2)
  then_fits start between outside (Stops request pending inner) go waiting h next w =
      (h.0, h.1, request_so (source_types outline scripts) (sees inner.sight) setting.self result (λ awaited. AllPendingFits scope (sees inner.sight) pending (awaited_kind awaited) between) (λ awaited. AllPendingFits scope (sees inner.sight) (pending ++ waiting ∷ []) (awaited_kind awaited) outside) (λ awaited p. all_joined scope (sees inner.sight) pending (waiting ∷ []) (awaited_kind awaited) between outside p (outside, pending_moved scope start (sees inner.sight) h.1 waiting between outside w, refl)) request h.2)

  either_fits : (start : Known) (outside : Option CoreType) (here : Bool) (a b : Outcome) → OutcomeFits start outside a → OutcomeFits start outside b → OutcomeFits start outside (cond here a b)
  either_fits start outside true a b h g = h
  either_fits start outside false a b h g = g

  -- ---- parts
  with_line_fits : (line : ℕ) (inner : Inner) → InnerFits inner → InnerFits (at_line line inner)
  with_line_fits line inner f = record { sight = f.sight; held = f.held }

  same_inner : (inner : Inner) (after : Sight) → SameSight after inner.sight → InnerFits inner → InnerFits (record inner { sight = after })
  same_inner inner after same f = record {
    sight = sight_as outline setting inner.sight after same f.sight;
    held = subst (λ arrays. HaveTypes (known outline setting.instances arrays) (typed locals) inner.locals) (sym same.2) f.held;
  }

  same_known : (inner : Inner) (after : Sight) → SameSight after inner.sight → sees after ≡ sees inner.sight
  same_known inner after same = ap (λ arrays. known outline setting.instances arrays) same.2

  lined_fits : (fault : StackFault) (inner : Inner) → InnerFits inner → InnerFits (noted home (Some fault) inner)
  lined_fits fault inner f =
      let s = f.sight in
      record { sight = record { of_set = s.of_set; natives = s.natives; own = s.own; scripts = s.scripts; variables = s.variables; arrays = s.arrays }; held = f.held }

  settled_by : (outside : Option CoreType) (value : Value) (fault : Option StackFault) (inner : Inner) → IsResult (sees inner.sight) outside value → InnerFits inner → OutcomeFits (sees inner.sight) outside (Gives value (noted home fault inner))
  settled_by outside value None inner h f = (f, extends_self (sees inner.sight), h)
  settled_by outside value (Some fault) inner h f = (lined_fits fault inner f, extends_self (sees inner.sight), h)

  settled_fits : (outside : Option CoreType) (of : Result) (inner : Inner) → IsResult (sees inner.sight) outside of.0 → InnerFits inner → OutcomeFits (sees inner.sight) outside (settled home of inner)
  settled_fits outside of inner h f = settled_by outside of.0 of.1 inner h f

  gives_fits : (outside : Option CoreType) (value : Value) (inner : Inner) → IsResult (sees inner.sight) outside value → InnerFits inner → OutcomeFits (sees inner.sight) outside (Gives value inner)
  gives_fits outside value inner h f = (f, extends_self (sees inner.sight), h)

  asked_fits : (outside : Option CoreType) (inner : Inner) (a : Answer) → InnerFits inner → AnswerIs setting (place_of home inner.line) inner.sight (Comes [] inner outside) (IsResult (sees inner.sight) outside) a → OutcomeFits (sees inner.sight) outside (asked inner a)
  asked_fits outside inner (Reply value after) f a =
      let e : sees inner.sight ≡ sees after = sym (same_known inner after a.0) in
      (same_inner inner after a.0 f, subst (λ then. Extends (sees inner.sight) then) e (extends_self (sees inner.sight)), subst (λ then. IsResult then outside value) e a.1)
  asked_fits outside inner (Act request) f a = (f, extends_self (sees inner.sight), a)

  target_call : (of : ℕ) (target : Value) (way : Way) (parameters : List CoreType) (gives : Option CoreType) (arguments : List Value) (inner : Inner) → HasType (sees inner.sight) (kinds.Script of) target → CallsOn scope of way parameters gives → HaveTypes (sees inner.sight) (typed parameters) arguments → (number : ℕ) → instance_of target ≡ Some number → CallFits (source_types outline scripts) (sees inner.sight) (Some number) way arguments gives
  target_call of target way parameters gives arguments inner t calls h number e =
      let i = target_is (sees inner.sight) of target number t e in
      record { there = i.3; parameters = parameters; called = subst (λ o. Calls outline scripts o way parameters gives) (sym i.1) (calls i.0 i.2); values = h }

  own_calls : (o : Option ℕ) (way : Way) (parameters : List CoreType) (gives : Option CoreType) → IsOn outline o script is_global → is_global ≡ false → CallsOn scope script way parameters gives → Calls outline scripts o way parameters gives
  own_calls None way parameters gives h g calls = absurd (cc)
  own_calls (Some own) way parameters gives h g calls = calls own h

  -- ---- arrays
  rewritten_fits : (inner : Inner) (after : List ArrayState) → kinds_of after ≡ kinds_of inner.sight.arrays → AllByRecursion (ArrayFits (sees inner.sight)) after → InnerFits inner → InnerFits (record inner { sight = record inner.sight { arrays = after } }) × Extends (sees inner.sight) (known outline setting.instances after)
  rewritten_fits inner after e a f =
      let s = f.sight in
      (record { sight = record { of_set = s.of_set; natives = s.natives; own = s.own; scripts = s.scripts; variables = subst (λ ks. AllByRecursion (VariablesFit (record { outline = outline; instances = setting.instances; arrays = ks })) inner.sight.variables) (sym e) s.variables; arrays = subst (λ ks. AllByRecursion (ArrayFits (record { outline = outline; instances = setting.instances; arrays = ks })) after) (sym e) a }; held = subst (λ ks. HaveTypes (record { outline = outline; instances = setting.instances; arrays = ks }) (typed locals) inner.locals) (sym e) f.held }, subst (λ ks. Extends (sees inner.sight) (record { outline = outline; instances = setting.instances; arrays = ks })) (sym e) (extends_self (sees inner.sight)))

  grown_fits : (inner : Inner) (after : List ArrayState) → Extends (sees inner.sight) (known outline setting.instances after) → AllByRecursion (ArrayFits (known outline setting.instances after)) after → InnerFits inner → InnerFits (record inner { sight = record inner.sight { arrays = after } })
  grown_fits inner after x a f =
      let s = f.sight in
      record { sight = record { of_set = s.of_set; natives = s.natives; own = s.own; scripts = s.scripts; variables = variables_moved (sees inner.sight) (known outline setting.instances after) x inner.sight.variables s.variables; arrays = a }; held = types_moved (sees inner.sight) (known outline setting.instances after) x (typed locals) inner.locals f.held }

  -- an element is written, unless that faults
  written_by : (fault : Option StackFault) (inner : Inner) (after : List ArrayState) → kinds_of after ≡ kinds_of inner.sight.arrays → AllByRecursion (ArrayFits (sees inner.sight)) after → InnerFits inner → OutcomeFits (sees inner.sight) None (Gives values.NoneValue (noted home fault (record inner { sight = record inner.sight { arrays = after } })))
  written_by None inner after e a f = let r = rewritten_fits inner after e a f in (r.0, r.1, refl)
  written_by (Some fault) inner after e a f =
      let r = rewritten_fits inner after e a f in
      (lined_fits fault (record inner { sight = record inner.sight { arrays = after } }) r.0, r.1, refl)

  written_fits : (of element : CoreType) (array index value : Value) (inner : Inner) → IsArrayOf of element → HasType (sees inner.sight) of array → HasType (sees inner.sight) element value → InnerFits inner → OutcomeFits (sees inner.sight) None (Gives values.NoneValue (with_stored home array index value inner))
  written_fits of element array index value inner e a v f =
      let s = f.sight in
      let after : List ArrayState = with_element inner.sight.arrays (array_of array) (number_of index) value in
      let r : Rewritten outline setting.instances inner.sight.arrays s.arrays element after = element_written outline setting.instances inner.sight.arrays s.arrays element (array_of array) (number_of index) value (array_is (sees inner.sight) of element array e a) v in
      written_by (write_fault inner.sight.arrays (array_of array) (number_of index)) inner after r.0 r.1 f

  -- a value is given to a property
  set_fits : (of : ℕ) (target : Value) (name : List ℕ) (kind : CoreType) (value : Value) (inner : Inner) → HasType (sees inner.sight) (kinds.Script of) target → HasType (sees inner.sight) kind value → CallsOn scope of (BySet name) (kind ∷ []) None → InnerFits inner → OutcomeFits (sees inner.sight) None (ask home (set_of (instance_of target) name value) inner)
  set_fits of target name kind value inner t v calls f =
      asked_fits None inner _ f (set_is setting (place_of home inner.line) inner.sight (Comes [] inner None) (IsResult (sees inner.sight) None) (instance_of target) name value (λ number i. (target_call of target (BySet name) (kind ∷ []) None (value ∷ []) inner t calls (v, tt) number i, refl)) refl)

  none_after : (outside : Option CoreType) (start : Known) (o : Outcome) → outside ≡ None → OutcomeFits start None o → OutcomeFits start outside o
  none_after outside start o e h = subst (λ k. OutcomeFits start k o) (sym e) h

  -- ---- operations
  native_answer : (at : FunctionPlace) (arguments : List Value) (gives outside : Option CoreType) (inner : Inner) → is_native_at outline at ≡ true → result_of outline at ≡ gives → outside ≡ gives → InnerFits inner → OutcomeFits (sees inner.sight) outside (ask home (Asks (GlobalNative at arguments)) inner)
  native_answer at arguments gives outside inner native r e f =
      let s = f.sight in
      let same : result_of outline at ≡ outside = r ∙ sym e in
      asked_fits outside inner _ f (native_is setting (place_of home inner.line) inner.sight (Comes [] inner outside) (IsResult (sees inner.sight) outside) outline at arguments refl s.natives native (native, same) (sees inner.sight) (λ v h. subst (λ k. IsResult (sees inner.sight) k v) same h))

  int_fits : (number : ℤ) (outside : Option CoreType) (inner : Inner) → outside ≡ Some kinds.Int → InnerFits inner → OutcomeFits (sees inner.sight) outside (Gives (values.Int number) inner)
  int_fits number outside inner e f =
      gives_fits outside (values.Int number) inner (subst (λ k. IsResult (sees inner.sight) k (values.Int number)) (sym e) refl) f

  bool_fits : (truth : Bool) (outside : Option CoreType) (inner : Inner) → outside ≡ Some kinds.Bool → InnerFits inner → OutcomeFits (sees inner.sight) outside (Gives (values.Bool truth) inner)
  bool_fits truth outside inner e f =
      gives_fits outside (values.Bool truth) inner (subst (λ k. IsResult (sees inner.sight) k (values.Bool truth)) (sym e) refl) f

  settled_int : (of : Result) (outside : Option CoreType) (inner : Inner) → outside ≡ Some kinds.Int → HasType (sees inner.sight) kinds.Int of.0 → InnerFits inner → OutcomeFits (sees inner.sight) outside (settled home of inner)
  settled_int of outside inner e h f = settled_fits outside of inner (subst (λ k. IsResult (sees inner.sight) k of.0) (sym e) h) f

  default_given : (now : Known) (gives outside : Option CoreType) → outside ≡ gives → IsResult now outside (default_result gives)
  default_given now gives outside e = subst (λ k. IsResult now k (default_result gives)) (sym e) (default_result_fits now gives)

  applied_fits : (operation : Operation) (vs : List Value) (ks : List (Option CoreType)) (outside : Option CoreType) (inner : Inner) → HaveTypes (sees inner.sight) ks vs → Operates scope operation ks outside → InnerFits inner → OutcomeFits (sees inner.sight) outside (applied home operation vs inner)
  applied_fits (Calculate operation) vs ks outside inner h o f =
      settled_fits outside (calculated operation (taken_at vs 0) (taken_at vs 1)) inner (subst (λ k. IsResult (sees inner.sight) k (calculated operation (taken_at vs 0) (taken_at vs 1)).0) (sym o.1) (calculated_fits (sees inner.sight) operation (taken_at vs 0) (taken_at vs 1))) f
  applied_fits Negate vs ks outside inner h o f = int_fits (int_wrap w32 (neg_ℤ (number_of (taken_at vs 0)))) outside inner o.1 f
  applied_fits Not vs ks outside inner h o f = bool_fits (not (is_true (taken_at vs 0))) outside inner o.1 f
  applied_fits Join vs ks outside inner h o f =
      settled_fits outside (joined (text_of (taken_at vs 0)) (text_of (taken_at vs 1))) inner (subst (λ k. IsResult (sees inner.sight) k (joined (text_of (taken_at vs 0)) (text_of (taken_at vs 1))).0) (sym o.1) (joined_fits (sees inner.sight) (text_of (taken_at vs 0)) (text_of (taken_at vs 1)))) f
  applied_fits Equal vs ks outside inner h o f = bool_fits (equal (taken_at vs 0) (taken_at vs 1)) outside inner o.2 f
  applied_fits (Compare order) vs ks outside inner h o f =
      bool_fits (in_order order (number_of (taken_at vs 0)) (number_of (taken_at vs 1))) outside inner o.1 f
  applied_fits (Cast to) vs ks outside inner h o f =
      gives_fits outside (cast_to outline setting.instances to (taken_at vs 0)) inner (subst (λ k. IsResult (sees inner.sight) k (cast_to outline setting.instances to (taken_at vs 0))) (sym o.3) (cast_fits (sees inner.sight) to o.0 (taken_at vs 0) o.2 (one_at (sees inner.sight) ks (typed (o.0 ∷ [])) 0 (Some o.0) vs o.1 refl h))) f
  applied_fits (CallMethod name places gives) vs ks outside inner h o f =
      let all : HaveTypes (sees inner.sight) (typed (kinds.Script o.0 ∷ o.1)) vs = subst (λ js. HaveTypes (sees inner.sight) js vs) o.3 h in
      let arguments : List Value = by_parameter places (drop 1 vs) in
      let fit : HaveTypes (sees inner.sight) (typed o.2) arguments = placed_fits (sees inner.sight) places o.1 o.2 (drop 1 vs) o.4 (tail_types (sees inner.sight) (Some (kinds.Script o.0)) (typed o.1) vs all) in
      let target : HasType (sees inner.sight) (kinds.Script o.0) (taken_at vs 0) = type_at (sees inner.sight) (typed (kinds.Script o.0 ∷ o.1)) 0 (Some (kinds.Script o.0)) vs refl all in
      asked_fits outside inner _ f (method_is setting (place_of home inner.line) inner.sight (Comes [] inner outside) (IsResult (sees inner.sight) outside) (instance_of (taken_at vs 0)) name arguments (default_result gives) (λ number i. (gives, target_call o.0 (taken_at vs 0) (ByMethod name) o.2 gives arguments inner target o.5 fit number i, sym o.6)) (default_given (sees inner.sight) gives outside o.6))
  applied_fits (CallParent name places gives) vs ks outside inner h o f =
      let s = f.sight in
      let arguments : List Value = by_parameter places vs in
      let fit : HaveTypes (sees inner.sight) (typed o.1) arguments = placed_fits (sees inner.sight) places o.0 o.1 vs o.3 (subst (λ js. HaveTypes (sees inner.sight) js vs) o.2 h) in
      let call : CallFits (source_types outline scripts) (sees inner.sight) setting.self (ByParent script name) arguments gives = record { there = s.own; parameters = o.1; called = own_calls (script_at setting.instances setting.self) (ByParent script name) o.1 gives on o.4 o.5; values = fit } in
      asked_fits outside inner _ f (framed_is setting (place_of home inner.line) inner.sight (Comes [] inner outside) (IsResult (sees inner.sight) outside) (ParentMethod script name arguments (default_result gives)) (default_result gives) (gives, call, sym o.6) (default_given (sees inner.sight) gives outside o.6))
  applied_fits (CallGlobal at places gives) vs ks outside inner h o f =
      let arguments : List Value = by_parameter places vs in
      let fit : HaveTypes (sees inner.sight) (typed o.1) arguments = placed_fits (sees inner.sight) places o.0 o.1 vs o.3 (subst (λ js. HaveTypes (sees inner.sight) js vs) o.2 h) in
      let called : List ℕ = name_at scripts at.script at.place in
      let call : CallFits (source_types outline scripts) (sees inner.sight) None (ByGlobal at.script called) arguments gives = record { there = tt; parameters = o.1; called = o.4; values = fit } in
      asked_fits outside inner _ f (framed_is setting (place_of home inner.line) inner.sight (Comes [] inner outside) (IsResult (sees inner.sight) outside) (GlobalFunction at.script called arguments (default_result gives)) (default_result gives) (gives, call, sym o.5) (default_given (sees inner.sight) gives outside o.5))
  applied_fits (CallNative at places gives) vs ks outside inner h o f =
      native_answer at (by_parameter places vs) gives outside inner o.3 o.4 o.5 f
  applied_fits (GetProperty name kind) vs ks outside inner h o f =
      let target : HasType (sees inner.sight) (kinds.Script o.0) (taken_at vs 0) = one_at (sees inner.sight) ks (typed (kinds.Script o.0 ∷ [])) 0 (Some (kinds.Script o.0)) vs o.1 refl h in
      asked_fits outside inner _ f (get_is setting (place_of home inner.line) inner.sight (Comes [] inner outside) (IsResult (sees inner.sight) outside) (instance_of (taken_at vs 0)) name (default_of kind) (λ number i. (Some kind, target_call o.0 (taken_at vs 0) (ByGet name) [] (Some kind) [] inner target o.2 tt number i, sym o.3)) (subst (λ k. IsResult (sees inner.sight) k (default_of kind)) (sym o.3) (default_fits (sees inner.sight) kind)))
  applied_fits (NewArray kind count) vs ks outside inner h o f =
      let s = f.sight in
      let made = array_made outline setting.instances inner.sight.arrays s.arrays kind o.0 count o.3 in
      let after : Inner = record inner { sight = record inner.sight { arrays = with_array inner.sight.arrays kind count } } in
      from_before (sees inner.sight) (sees after.sight) outside made.0 (settled home (new_array inner.sight.arrays) after) (settled_fits outside (new_array inner.sight.arrays) after (subst (λ k. IsResult (sees after.sight) k (new_array inner.sight.arrays).0) (sym o.4) made.2) (grown_fits inner (with_array inner.sight.arrays kind count) made.0 made.1 f))
  applied_fits Length vs ks outside inner h o f =
      settled_int (length_of inner.sight.arrays (array_of (taken_at vs 0))) outside inner o.4 (length_fits (sees inner.sight) inner.sight.arrays (array_of (taken_at vs 0))) f
  applied_fits (Element kind) vs ks outside inner h o f =
      let s = f.sight in
      let array : HasType (sees inner.sight) o.0 (taken_at vs 0) = one_at (sees inner.sight) ks (typed (o.0 ∷ kinds.Int ∷ [])) 0 (Some o.0) vs o.1 refl h in
      settled_fits outside (element_of inner.sight.arrays (array_of (taken_at vs 0)) (number_of (taken_at vs 1)) (default_of kind)) inner (element_fits outline setting.instances inner.sight.arrays s.arrays kind (IsResult (sees inner.sight) outside) (array_of (taken_at vs 0)) (number_of (taken_at vs 1)) (default_of kind) (λ v g. subst (λ k. IsResult (sees inner.sight) k v) (sym o.3) g) (subst (λ k. IsResult (sees inner.sight) k (default_of kind)) (sym o.3) (default_fits (sees inner.sight) kind)) (array_is (sees inner.sight) o.0 kind (taken_at vs 0) o.2 array)) f
  applied_fits Find vs ks outside inner h o f =
      settled_int (found inner.sight.arrays (array_of (taken_at vs 0)) (taken_at vs 1) (number_of (taken_at vs 2))) outside inner o.4 (found_fits (sees inner.sight) inner.sight.arrays (array_of (taken_at vs 0)) (taken_at vs 1) (number_of (taken_at vs 2))) f
  applied_fits FindBack vs ks outside inner h o f =
      settled_int (found_back inner.sight.arrays (array_of (taken_at vs 0)) (taken_at vs 1) (number_of (taken_at vs 2))) outside inner o.4 (found_back_fits (sees inner.sight) inner.sight.arrays (array_of (taken_at vs 0)) (taken_at vs 1) (number_of (taken_at vs 2))) f

  -- ---- expressions
  kinds_end : (before after kinds : List (Option CoreType)) → after ≡ [] → before ++ after ≡ kinds → before ≡ kinds
  kinds_end before after kinds e s = sym (append-nil before) ∙ (ap (λ ks. before ++ ks) (sym e) ∙ s)

  field_fits : (number : ℕ) (of : CoreType) (inner : Inner) → is_global ≡ false → IsVariable outline script number of → InnerFits inner → HasType (sees inner.sight) of (variable_of inner.sight.variables script number)
  field_fits number of inner g v f =
      let s = f.sight in
      variable_fits (sees inner.sight) inner.sight.variables script number of (subst (λ ss. list_any (λ above. eqb above script) ss ≡ true) (sym s.scripts) (own_line outline (script_at setting.instances setting.self) script is_global on g)) v s.variables

  mutual
    evaluated_fits : (e : Expression) (kind : Option CoreType) (inner : Inner) → HasKind scope e kind → InnerFits inner → OutcomeFits (sees inner.sight) kind (evaluated home e inner)
    evaluated_fits (Literal value) kind inner k f = gives_fits kind value inner (literal_fits outline (sees inner.sight) kind value k) f
    evaluated_fits (Local number) kind inner k f =
        gives_fits kind _ inner (type_at (sees inner.sight) (typed locals) number kind inner.locals k f.held) f
    evaluated_fits (Field number) kind inner k f =
        gives_fits kind (variable_of inner.sight.variables script number) inner (subst (λ o. IsResult (sees inner.sight) o (variable_of inner.sight.variables script number)) (sym (k.1).1) (field_fits number (k.1).0 inner k.0 (k.1).2 f)) f
    evaluated_fits SelfValue kind inner k f =
        let s = f.sight in
        gives_fits kind (self_value setting.self) inner (subst (λ o. IsResult (sees inner.sight) o (self_value setting.self)) (sym k) (self_has outline setting.instances inner.sight.arrays setting.self script is_global s.own on)) f
    evaluated_fits StateText kind inner k f =
        gives_fits kind (values.Text inner.sight.state) inner (subst (λ o. IsResult (sees inner.sight) o (values.Text inner.sight.state)) (sym k) refl) f
    evaluated_fits (And left right) kind inner k f =
        then_fits (sees inner.sight) (Some kinds.Bool) kind (evaluated home left inner) _ (AndThen right) (evaluated_fits left (Some kinds.Bool) inner k.1 f) (λ value after g x v. either_fits (sees after.sight) kind (is_true value) _ _ (subst (λ o. OutcomeFits (sees after.sight) o (evaluated home right after)) (sym k.0) (evaluated_fits right (Some kinds.Bool) after k.2 g)) (gives_fits kind value after (subst (λ o. IsResult (sees after.sight) o value) (sym k.0) v) g)) (refl, k.0, k.2)
    evaluated_fits (Or left right) kind inner k f =
        then_fits (sees inner.sight) (Some kinds.Bool) kind (evaluated home left inner) _ (OrElse right) (evaluated_fits left (Some kinds.Bool) inner k.1 f) (λ value after g x v. either_fits (sees after.sight) kind (is_true value) _ _ (gives_fits kind value after (subst (λ o. IsResult (sees after.sight) o value) (sym k.0) v) g) (subst (λ o. OutcomeFits (sees after.sight) o (evaluated home right after)) (sym k.0) (evaluated_fits right (Some kinds.Bool) after k.2 g))) (refl, k.0, k.2)
    evaluated_fits (Apply operation operands) kind inner k f =
        operands_fit operands operation [] [] k.0 k.0 kind inner tt k.1 refl k.2 f

    operands_fit : (operands : Expressions) (operation : Operation) (vs : List Value) (before after kinds : List (Option CoreType)) (outside : Option CoreType) (inner : Inner) → HaveTypes (sees inner.sight) before vs → HaveKinds scope operands after → before ++ after ≡ kinds → Operates scope operation kinds outside → InnerFits inner → OutcomeFits (sees inner.sight) outside (with_operands home operation vs operands inner)
    operands_fit NoExpression operation vs before after kinds outside inner h k s o f =
        applied_fits operation vs kinds outside inner (subst (λ ks. HaveTypes (sees inner.sight) ks vs) (kinds_end before after kinds k s) h) o f
    operands_fit (MoreExpressions first rest) operation vs before [] kinds outside inner h k s o f = absurd k
    operands_fit (MoreExpressions first rest) operation vs before (kind ∷ after) kinds outside inner h k s o f =
        then_fits (sees inner.sight) kind outside (evaluated home first inner) _ (Operand operation vs rest) (evaluated_fits first kind inner k.0 f) (λ value then g x v. operands_fit rest operation (vs ++ value ∷ []) (before ++ kind ∷ []) after kinds outside then (types_joined (sees then.sight) before (kind ∷ []) vs (value ∷ []) (types_moved (sees inner.sight) (sees then.sight) x before vs h) (v, tt)) k.1 (append_assoc before (kind ∷ []) after ∙ s) o g) (before, after, h, k.1, subst (λ ks. Operates scope operation ks outside) (sym s) o)

  -- ---- effects
  effected_fits : (effect : Effect) (vs : List Value) (ks : List (Option CoreType)) (inner : Inner) → HaveTypes (sees inner.sight) ks vs → Affects scope effect ks → InnerFits inner → OutcomeFits (sees inner.sight) None (effected home effect vs inner)
  effected_fits (StoreLocal number) vs ks inner h a f =
      (record { sight = f.sight; held = type_set (sees inner.sight) (typed locals) number (Some a.0) (taken_at vs 0) inner.locals a.2 (one_at (sees inner.sight) ks (typed (a.0 ∷ [])) 0 (Some a.0) vs a.1 refl h) f.held }, extends_self (sees inner.sight), refl)
  effected_fits (StoreField number) vs ks inner h a f =
      let s = f.sight in
      let v : HasType (sees inner.sight) a.0 (taken_at vs 0) = one_at (sees inner.sight) ks (typed (a.0 ∷ [])) 0 (Some a.0) vs a.1 refl h in
      (record { sight = record { of_set = s.of_set; natives = s.natives; own = s.own; scripts = written_scripts inner.sight.variables script number (taken_at vs 0) ∙ s.scripts; variables = variable_written (sees inner.sight) inner.sight.variables script number a.0 (taken_at vs 0) a.3 v s.variables; arrays = s.arrays }; held = f.held }, extends_self (sees inner.sight), refl)
  effected_fits StoreState vs ks inner h a f =
      let s = f.sight in
      by_own (λ (x : Sight). OutcomeFits (sees inner.sight) None (nothing (record inner { sight = x }))) home.setting.self (text_of (taken_at vs 0)) inner.sight (f, extends_self (sees inner.sight), refl) (record { sight = record { of_set = s.of_set; natives = s.natives; own = s.own; scripts = s.scripts; variables = s.variables; arrays = s.arrays }; held = f.held }, extends_self (sees inner.sight), refl)
  effected_fits (StoreProperty name) vs ks inner h a f =
      set_fits a.0 (taken_at vs 0) name a.1 (taken_at vs 1) inner (one_at (sees inner.sight) ks (typed (kinds.Script a.0 ∷ a.1 ∷ [])) 0 (Some (kinds.Script a.0)) vs a.2 refl h) (one_at (sees inner.sight) ks (typed (kinds.Script a.0 ∷ a.1 ∷ [])) 1 (Some a.1) vs a.2 refl h) a.3 f
  effected_fits StoreElement vs ks inner h a f =
      written_fits a.0 a.1 (taken_at vs 0) (taken_at vs 1) (taken_at vs 2) inner a.3 (one_at (sees inner.sight) ks (typed (a.0 ∷ kinds.Int ∷ a.1 ∷ [])) 0 (Some a.0) vs a.2 refl h) (one_at (sees inner.sight) ks (typed (a.0 ∷ kinds.Int ∷ a.1 ∷ [])) 2 (Some a.1) vs a.2 refl h) f
  effected_fits Drop vs ks inner h a f = (f, extends_self (sees inner.sight), refl)
  effected_fits GiveBack vs ks inner h a f =
      (f, extends_self (sees inner.sight), returned_fits (sees inner.sight) result ks vs a h)

  effects_fit : (operands : Expressions) (effect : Effect) (vs : List Value) (before after kinds : List (Option CoreType)) (inner : Inner) → HaveTypes (sees inner.sight) before vs → HaveKinds scope operands after → before ++ after ≡ kinds → Affects scope effect kinds → InnerFits inner → OutcomeFits (sees inner.sight) None (with_effect home effect vs operands inner)
  effects_fit NoExpression effect vs before after kinds inner h k s a f =
      effected_fits effect vs kinds inner (subst (λ ks. HaveTypes (sees inner.sight) ks vs) (kinds_end before after kinds k s) h) a f
  effects_fit (MoreExpressions first rest) effect vs before [] kinds inner h k s a f = absurd k
  effects_fit (MoreExpressions first rest) effect vs before (kind ∷ after) kinds inner h k s a f =
      then_fits (sees inner.sight) kind None (evaluated home first inner) _ (EffectOperand effect vs rest) (evaluated_fits first kind inner k.0 f) (λ value then g x v. effects_fit rest effect (vs ++ value ∷ []) (before ++ kind ∷ []) after kinds then (types_joined (sees then.sight) before (kind ∷ []) vs (value ∷ []) (types_moved (sees inner.sight) (sees then.sight) x before vs h) (v, tt)) k.1 (append_assoc before (kind ∷ []) after ∙ s) a g) (before, after, h, k.1, subst (λ ks. Affects scope effect ks) (sym s) a, refl)

  -- ---- compound assignments
  right_by : (of : ℕ) (target : Value) (name : List ℕ) (kind : CoreType) (value : Value) (fault : Option StackFault) (inner : Inner) → HasType (sees inner.sight) (kinds.Script of) target → HasType (sees inner.sight) kind value → CallsOn scope of (BySet name) (kind ∷ []) None → InnerFits inner → OutcomeFits (sees inner.sight) None (ask home (set_of (instance_of target) name value) (noted home fault inner))
  right_by of target name kind value None inner t v calls f = set_fits of target name kind value inner t v calls f
  right_by of target name kind value (Some fault) inner t v calls f =
      set_fits of target name kind value (noted home (Some fault) inner) t v calls (lined_fits fault inner f)

  property_right_fits : (of : ℕ) (target : Value) (name : List ℕ) (operation : Arith) (old right : Value) (inner : Inner) → HasType (sees inner.sight) (kinds.Script of) target → CallsOn scope of (BySet name) (arith_kind operation ∷ []) None → InnerFits inner → OutcomeFits (sees inner.sight) None (property_right home target name operation old right inner)
  property_right_fits of target name operation old right inner t calls f =
      right_by of target name (arith_kind operation) (calculated operation old right).0 (calculated operation old right).1 inner t (calculated_fits (sees inner.sight) operation old right) calls f

  property_old_fits : (of : ℕ) (target : Value) (name : List ℕ) (operation : Arith) (right : Expression) (old : Value) (inner : Inner) → HasType (sees inner.sight) (kinds.Script of) target → HasType (sees inner.sight) (arith_kind operation) old → CallsOn scope of (BySet name) (arith_kind operation ∷ []) None → HasKind scope right (Some (arith_kind operation)) → InnerFits inner → OutcomeFits (sees inner.sight) None (property_old home target name operation right old inner)
  property_old_fits of target name operation right old inner t h calls k f =
      then_fits (sees inner.sight) (Some (arith_kind operation)) None (evaluated home right inner) (property_right home target name operation old) (PropertyRight target name operation old) (evaluated_fits right (Some (arith_kind operation)) inner k f) (λ value after g x v. property_right_fits of target name operation old value after (has_moved (sees inner.sight) (sees after.sight) x (kinds.Script of) target t) calls g) (of, t, h, refl, calls, refl)

  property_target_fits : (of : ℕ) (name : List ℕ) (kind : CoreType) (operation : Arith) (right : Expression) (target : Value) (inner : Inner) → HasType (sees inner.sight) (kinds.Script of) target → ChangesProperty scope of name kind operation right → InnerFits inner → OutcomeFits (sees inner.sight) None (property_target home name kind operation right target inner)
  property_target_fits of name kind operation right target inner t c f =
      let got : OutcomeFits (sees inner.sight) (Some kind) (ask home (get_of (instance_of target) name (default_of kind)) inner) = asked_fits (Some kind) inner _ f (get_is setting (place_of home inner.line) inner.sight (Comes [] inner (Some kind)) (IsResult (sees inner.sight) (Some kind)) (instance_of target) name (default_of kind) (λ number i. (Some kind, target_call of target (ByGet name) [] (Some kind) [] inner t c.1 tt number i, refl)) (default_fits (sees inner.sight) kind)) in
      then_fits (sees inner.sight) (Some kind) None (ask home (get_of (instance_of target) name (default_of kind)) inner) (property_old home target name operation right) (PropertyOld target name operation right) got (λ old after g x v. property_old_fits of target name operation right old after (has_moved (sees inner.sight) (sees after.sight) x (kinds.Script of) target t) (subst (λ k. HasType (sees after.sight) k old) c.0 v) c.2 c.3 g) (of, t, ap (λ k. Some k) c.0, c.2, c.3, refl)

  element_right_by : (of element : CoreType) (array index value : Value) (fault : Option StackFault) (inner : Inner) → IsArrayOf of element → HasType (sees inner.sight) of array → HasType (sees inner.sight) element value → InnerFits inner → OutcomeFits (sees inner.sight) None (Gives values.NoneValue (with_stored home array index value (noted home fault inner)))
  element_right_by of element array index value None inner e a v f = written_fits of element array index value inner e a v f
  element_right_by of element array index value (Some fault) inner e a v f =
      written_fits of element array index value (noted home (Some fault) inner) e a v (lined_fits fault inner f)

  element_right_fits : (of : CoreType) (array index : Value) (operation : Arith) (old right : Value) (inner : Inner) → IsArrayOf of (arith_kind operation) → HasType (sees inner.sight) of array → InnerFits inner → OutcomeFits (sees inner.sight) None (element_right home array index operation old right inner)
  element_right_fits of array index operation old right inner e a f =
      element_right_by of (arith_kind operation) array index (calculated operation old right).0 (calculated operation old right).1 inner e a (calculated_fits (sees inner.sight) operation old right) f

  element_old : (of : CoreType) (array index : Value) (operation : Arith) (right : Expression) (old : Value) (inner : Inner) → IsArrayOf of (arith_kind operation) → HasType (sees inner.sight) of array → HasType (sees inner.sight) kinds.Int index → HasType (sees inner.sight) (arith_kind operation) old → HasKind scope right (Some (arith_kind operation)) → InnerFits inner → OutcomeFits (sees inner.sight) None (then_do (evaluated home right inner) (element_right home array index operation old) (ElementRight array index operation old))
  element_old of array index operation right old inner e a i o k f =
      then_fits (sees inner.sight) (Some (arith_kind operation)) None (evaluated home right inner) (element_right home array index operation old) (ElementRight array index operation old) (evaluated_fits right (Some (arith_kind operation)) inner k f) (λ value after g x v. element_right_fits of array index operation old value after e (has_moved (sees inner.sight) (sees after.sight) x of array a) g) (of, a, i, o, refl, e, refl)

  element_index_by : (of : CoreType) (array index : Value) (operation : Arith) (right : Expression) (old : Value) (fault : Option StackFault) (inner : Inner) → IsArrayOf of (arith_kind operation) → HasType (sees inner.sight) of array → HasType (sees inner.sight) kinds.Int index → HasType (sees inner.sight) (arith_kind operation) old → HasKind scope right (Some (arith_kind operation)) → InnerFits inner → OutcomeFits (sees inner.sight) None (then_do (evaluated home right (noted home fault inner)) (element_right home array index operation old) (ElementRight array index operation old))
  element_index_by of array index operation right old None inner e a i o k f =
      element_old of array index operation right old inner e a i o k f
  element_index_by of array index operation right old (Some fault) inner e a i o k f =
      element_old of array index operation right old (noted home (Some fault) inner) e a i o k (lined_fits fault inner f)

  element_index_fits : (of : CoreType) (array : Value) (kind : CoreType) (operation : Arith) (right : Expression) (index : Value) (inner : Inner) → HasType (sees inner.sight) of array → IsArrayOf of kind → kind ≡ arith_kind operation → HasType (sees inner.sight) kinds.Int index → HasKind scope right (Some (arith_kind operation)) → InnerFits inner → OutcomeFits (sees inner.sight) None (element_index home array kind operation right index inner)
  element_index_fits of array kind operation right index inner a e same i k f =
      let s = f.sight in
      let old : Result = element_of inner.sight.arrays (array_of array) (number_of index) (default_of kind) in
      let o : HasType (sees inner.sight) kind old.0 = element_fits outline setting.instances inner.sight.arrays s.arrays kind (HasType (sees inner.sight) kind) (array_of array) (number_of index) (default_of kind) (λ v g. g) (default_fits (sees inner.sight) kind) (array_is (sees inner.sight) of kind array e a) in
      element_index_by of array index operation right old.0 old.1 inner (subst (λ j. IsArrayOf of j) same e) a i (subst (λ j. HasType (sees inner.sight) j old.0) same o) k f

  element_array_fits : (of : CoreType) (index : Expression) (kind : CoreType) (operation : Arith) (right : Expression) (array : Value) (inner : Inner) → HasType (sees inner.sight) of array → IsArrayOf of kind → kind ≡ arith_kind operation → HasKind scope index (Some kinds.Int) → HasKind scope right (Some (arith_kind operation)) → InnerFits inner → OutcomeFits (sees inner.sight) None (element_array home index kind operation right array inner)
  element_array_fits of index kind operation right array inner a e same i k f =
      then_fits (sees inner.sight) (Some kinds.Int) None (evaluated home index inner) (element_index home array kind operation right) (ElementIndex array kind operation right) (evaluated_fits index (Some kinds.Int) inner i f) (λ value after g x v. element_index_fits of array kind operation right value after (has_moved (sees inner.sight) (sees after.sight) x of array a) e same v k g) (of, a, refl, e, same, k, refl)

  -- ---- statements
  nothing_fits : (inner : Inner) → InnerFits inner → OutcomeFits (sees inner.sight) None (Gives values.NoneValue inner)
  nothing_fits inner f = (f, extends_self (sees inner.sight), refl)

  passed_fits : (line : ℕ) (test : Expression) (body : Block) (inner : Inner) → HasKind scope test (Some kinds.Bool) → BlockTyped scope body → InnerFits inner → OutcomeFits (sees inner.sight) None (passed home line test body inner)
  passed_fits line test body inner k b f = (f, extends_self (sees inner.sight), (None, (refl, k, b, refl), refl))

  tested_fits : (line : ℕ) (test : Expression) (body : Block) (run : Inner → Outcome) (value : Value) (inner : Inner) → HasKind scope test (Some kinds.Bool) → BlockTyped scope body → ((after : Inner) → InnerFits after → OutcomeFits (sees after.sight) None (run after)) → InnerFits inner → OutcomeFits (sees inner.sight) None (tested home line test body run value inner)
  tested_fits line test body run value inner k b runs f =
      either_fits (sees inner.sight) None (is_true value) _ _ (then_fits (sees inner.sight) None None (run inner) _ (LoopBody line test body) (runs inner f) (λ done after g x v. passed_fits line test body after k b g) (refl, k, b, refl)) (nothing_fits inner f)

  looped_fits : (line : ℕ) (test : Expression) (body : Block) (run : Inner → Outcome) (inner : Inner) → HasKind scope test (Some kinds.Bool) → BlockTyped scope body → ((after : Inner) → InnerFits after → OutcomeFits (sees after.sight) None (run after)) → InnerFits inner → OutcomeFits (sees inner.sight) None (looped home line test body run inner)
  looped_fits line test body run inner k b runs f =
      then_fits (sees inner.sight) (Some kinds.Bool) None (evaluated home test (at_line line inner)) (tested home line test body run) (LoopTest line test body) (evaluated_fits test (Some kinds.Bool) (at_line line inner) k (with_line_fits line inner f)) (λ value after g x v. tested_fits line test body run value after k b runs g) (refl, k, b, refl)

  mutual
    done_fits : (line : ℕ) (statement : Statement) (inner : Inner) → IsTyped scope statement → InnerFits inner → OutcomeFits (sees inner.sight) None (done home line statement inner)
    done_fits line (Do effect operands) inner t f = effects_fit operands effect [] [] t.0 t.0 inner tt t.1 refl t.2 f
    done_fits line (ChangeProperty of name kind operation right) inner t f =
        then_fits (sees inner.sight) (Some (kinds.Script t.0)) None (evaluated home of inner) (property_target home name kind operation right) (PropertyTarget name kind operation right) (evaluated_fits of (Some (kinds.Script t.0)) inner t.1 f) (λ value after g x v. property_target_fits t.0 name kind operation right value after v t.2 g) (t.0, refl, t.2, refl)
    done_fits line (ChangeElement array index kind operation right) inner t f =
        then_fits (sees inner.sight) (Some t.0) None (evaluated home array inner) (element_array home index kind operation right) (ElementArray index kind operation right) (evaluated_fits array (Some t.0) inner t.1 f) (λ value after g x v. element_array_fits t.0 index kind operation right value after v t.2 t.3 t.4 t.5 g) (t.0, refl, t.2, t.3, t.4, t.5, refl)
    done_fits line (If branches otherwise) inner t f =
        chosen_fits branches otherwise (all_done home otherwise) inner t.0 t.1 (λ after g. block_fits otherwise after t.1 g) f
    done_fits line (While test body end_line) inner t f =
        looped_fits line test body (all_done home body) inner t.0 t.1 (λ after g. block_fits body after t.1 g) f

    block_fits : (block : Block) (inner : Inner) → BlockTyped scope block → InnerFits inner → OutcomeFits (sees inner.sight) None (all_done home block inner)
    block_fits NoStatement inner t f = nothing_fits inner f
    block_fits (MoreStatements line first rest) inner t f =
        then_fits (sees inner.sight) None None (done home line first (at_line line inner)) _ (Statements rest) (done_fits line first (at_line line inner) t.0 (with_line_fits line inner f)) (λ value after g x v. block_fits rest after t.1 g) (refl, t.1, refl)

    chosen_fits : (branches : Branches) (otherwise : Block) (run : Inner → Outcome) (inner : Inner) → BranchesTyped scope branches → BlockTyped scope otherwise → ((after : Inner) → InnerFits after → OutcomeFits (sees after.sight) None (run after)) → InnerFits inner → OutcomeFits (sees inner.sight) None (chosen home otherwise run branches inner)
    chosen_fits NoBranch otherwise run inner t o runs f = runs inner f
    chosen_fits (MoreBranches line test body rest) otherwise run inner t o runs f =
        then_fits (sees inner.sight) (Some kinds.Bool) None (evaluated home test (at_line line inner)) _ (Test body rest otherwise) (evaluated_fits test (Some kinds.Bool) (at_line line inner) t.0 (with_line_fits line inner f)) (λ value after g x v. either_fits (sees after.sight) None (is_true value) _ _ (block_fits body after t.1 g) (chosen_fits rest otherwise run after t.2 o runs g)) (refl, t.1, t.2, o, refl)

  -- ---- going on
  given_fits : (p : Pending) (inside outside : Option CoreType) (value : Value) (inner : Inner) → PendingFits scope (sees inner.sight) p inside outside → IsResult (sees inner.sight) inside value → InnerFits inner → OutcomeFits (sees inner.sight) outside (given home p value inner)
  given_fits (Operand operation taken rest) inside outside value inner p v f =
      operands_fit rest operation (taken ++ value ∷ []) (p.0 ++ inside ∷ []) p.1 (p.0 ++ inside ∷ p.1) outside inner (types_joined (sees inner.sight) p.0 (inside ∷ []) taken (value ∷ []) p.2 (v, tt)) p.3 (append_assoc p.0 (inside ∷ []) p.1) p.4 f
  given_fits (EffectOperand effect taken rest) inside outside value inner p v f =
      none_after outside (sees inner.sight) _ p.5 (effects_fit rest effect (taken ++ value ∷ []) (p.0 ++ inside ∷ []) p.1 (p.0 ++ inside ∷ p.1) inner (types_joined (sees inner.sight) p.0 (inside ∷ []) taken (value ∷ []) p.2 (v, tt)) p.3 (append_assoc p.0 (inside ∷ []) p.1) p.4 f)
  given_fits (AndThen right) inside outside value inner p v f =
      either_fits (sees inner.sight) outside (is_true value) _ _ (subst (λ o. OutcomeFits (sees inner.sight) o (evaluated home right inner)) (sym p.1) (evaluated_fits right (Some kinds.Bool) inner p.2 f)) (gives_fits outside value inner (subst (λ o. IsResult (sees inner.sight) o value) (p.0 ∙ sym p.1) v) f)
  given_fits (OrElse right) inside outside value inner p v f =
      either_fits (sees inner.sight) outside (is_true value) _ _ (gives_fits outside value inner (subst (λ o. IsResult (sees inner.sight) o value) (p.0 ∙ sym p.1) v) f) (subst (λ o. OutcomeFits (sees inner.sight) o (evaluated home right inner)) (sym p.1) (evaluated_fits right (Some kinds.Bool) inner p.2 f))
  given_fits (PropertyTarget name kind operation right) inside outside value inner p v f =
      none_after outside (sees inner.sight) _ p.3 (property_target_fits p.0 name kind operation right value inner (subst (λ o. IsResult (sees inner.sight) o value) p.1 v) p.2 f)
  given_fits (PropertyOld target name operation right) inside outside value inner p v f =
      none_after outside (sees inner.sight) _ p.5 (property_old_fits p.0 target name operation right value inner p.1 (subst (λ o. IsResult (sees inner.sight) o value) p.2 v) p.3 p.4 f)
  given_fits (PropertyRight target name operation old) inside outside value inner p v f =
      none_after outside (sees inner.sight) _ p.5 (property_right_fits p.0 target name operation old value inner p.1 p.4 f)
  given_fits (ElementArray index kind operation right) inside outside value inner p v f =
      none_after outside (sees inner.sight) _ p.6 (element_array_fits p.0 index kind operation right value inner (subst (λ o. IsResult (sees inner.sight) o value) p.1 v) p.2 p.3 p.4 p.5 f)
  given_fits (ElementIndex array kind operation right) inside outside value inner p v f =
      none_after outside (sees inner.sight) _ p.6 (element_index_fits p.0 array kind operation right value inner p.1 p.3 p.4 (subst (λ o. IsResult (sees inner.sight) o value) p.2 v) p.5 f)
  given_fits (ElementRight array index operation old) inside outside value inner p v f =
      none_after outside (sees inner.sight) (element_right home array index operation old value inner) p.6 (element_right_fits p.0 array index operation old value inner p.5 p.1 f)
  given_fits (Test body rest otherwise) inside outside value inner p v f =
      none_after outside (sees inner.sight) _ p.4 (either_fits (sees inner.sight) None (is_true value) _ _ (block_fits body inner p.1 f) (chosen_fits rest otherwise (all_done home otherwise) inner p.2 p.3 (λ after g. block_fits otherwise after p.3 g) f))
  given_fits (LoopTest line test body) inside outside value inner p v f =
      none_after outside (sees inner.sight) _ p.3 (tested_fits line test body (all_done home body) value inner p.1 p.2 (λ after g. block_fits body after p.2 g) f)
  given_fits (LoopBody line test body) inside outside value inner p v f =
      none_after outside (sees inner.sight) (passed home line test body inner) p.3 (passed_fits line test body inner p.1 p.2 f)
  given_fits (Loop line test body) inside outside value inner p v f =
      none_after outside (sees inner.sight) _ p.3 (looped_fits line test body (all_done home body) inner p.1 p.2 (λ after g. block_fits body after p.2 g) f)
  given_fits (Statements rest) inside outside value inner p v f = none_after outside (sees inner.sight) _ p.2 (block_fits rest inner p.1 f)

  onward_fits : (start : Known) (between outside : Option CoreType) (o : Outcome) (go : Value → Inner → Outcome) (rest : List Pending) → OutcomeFits start between o → ((value : Value) (after : Inner) → InnerFits after → Extends start (sees after.sight) → IsResult (sees after.sight) between value → OutcomeFits (sees after.sight) outside (go value after)) → AllPendingFits scope start rest between outside → OutcomeFits start outside (onward o go rest)
  onward_fits start between outside (Gives value inner) go rest h next w =
      from_before start (sees inner.sight) outside h.1 (go value inner) (next value inner h.0 h.1 h.2)
  onward_fits start between outside (Stops request pending inner) go rest h next w =
      (h.0, h.1, request_so (source_types outline scripts) (sees inner.sight) setting.self result (λ awaited. AllPendingFits scope (sees inner.sight) pending (awaited_kind awaited) between) (λ awaited. AllPendingFits scope (sees inner.sight) (pending ++ rest) (awaited_kind awaited) outside) (λ awaited p. all_joined scope (sees inner.sight) pending rest (awaited_kind awaited) between outside p (all_pending_moved scope start (sees inner.sight) h.1 rest between outside w)) request h.2)

  resumed_fits : (ps : List Pending) (inside outside : Option CoreType) (value : Value) (inner : Inner) → AllPendingFits scope (sees inner.sight) ps inside outside → IsResult (sees inner.sight) inside value → InnerFits inner → OutcomeFits (sees inner.sight) outside (resumed home ps value inner)
  resumed_fits [] inside outside value inner p v f =
      gives_fits outside value inner (subst (λ o. IsResult (sees inner.sight) o value) p v) f
  resumed_fits (first ∷ rest) inside outside value inner p v f =
      onward_fits (sees inner.sight) p.0 outside (given home first value inner) _ rest (given_fits first inside p.0 value inner p.1 v f) (λ next after g x w. resumed_fits rest p.0 outside next after (all_pending_moved scope (sees inner.sight) (sees after.sight) x rest p.0 outside p.2) w g) p.2

  -- ---- a body
  stopped_fits : (body : Body) (sight : Sight) (o : Outcome) → body.script ≡ script → IsResult (sees sight) result body.ending → OutcomeFits (sees sight) None o → StopFits (source_types outline scripts) setting sight result (stop_at body o)
  stopped_fits body sight (Gives value inner) e end h =
      record { sight = (h.0).sight; grown = h.1; request = result_moved (sees sight) (sees inner.sight) h.1 result body.ending end }
  stopped_fits body sight (Stops request pending inner) e end h =
      record { sight = (h.0).sight; grown = h.1; request = request_so (source_types outline scripts) (sees inner.sight) setting.self result (λ awaited. AllPendingFits scope (sees inner.sight) pending (awaited_kind awaited) None) (λ awaited. BodyHolds (source_types outline scripts) (sees inner.sight) setting.self (record body { locals = inner.locals; line = inner.line; pending = pending }) awaited result) (λ awaited p. record { is_global = is_global; locals = locals; on = subst (λ s. IsOn outline (script_at setting.instances setting.self) s is_global) (sym e) on; values = (h.0).held; ending = result_moved (sees sight) (sees inner.sight) h.1 result body.ending end; pending = subst (λ s. AllPendingFits (record { outline = outline; scripts = scripts; script = s; is_global = is_global; locals = locals; result = result }) (sees inner.sight) pending (awaited_kind awaited) None) (sym e) p }) request h.2 }

reply_fits : (now : Known) (awaited : Option (Option CoreType)) (given : Option Value) → IsReply now awaited given → IsResult now (awaited_kind awaited) (reply_or_none given)
reply_fits now None None h = refl
reply_fits now (Some kind) (Some value) h = h
reply_fits now None (Some value) h = absurd h
reply_fits now (Some kind) None h = absurd h

pub run_body_fits : (scripts : List Script) (setting : Setting) (sight : Sight) (body : Body) (awaited : Option (Option CoreType)) (result : Option CoreType) (reply : Option Value) → SightFits setting.outline setting sight → BodyHolds (source_types setting.outline scripts) (seen setting.outline setting sight) setting.self body awaited result → IsReply (seen setting.outline setting sight) awaited reply → StopFits (source_types setting.outline scripts) setting sight result (run_body scripts setting body reply sight)
run_body_fits scripts setting sight body awaited result reply s b r =
    let inner : Inner = record { locals = body.locals; line = body.line; sight = sight } in
    stopped_fits scripts setting body.script body.function b.is_global b.locals result b.on body sight _ refl b.ending (resumed_fits scripts setting body.script body.function b.is_global b.locals result b.on body.pending (awaited_kind awaited) None (reply_or_none reply) inner b.pending (reply_fits (seen setting.outline setting sight) awaited reply r) (record { sight = s; held = b.values }))
