-- Operations give values of their types, and questions are answered by what fits.
use Rattle.std.proofs.Common.{◌≡◌, ℕ, zero, suc, ◌<◌, Bool, true, false, cond, List, [], ◌∷◌, ◌++◌, map, length, ℤ, pos, Option, Some, None, refl, sym, ap, subst, ◌∙◌, arith, replicate, ◌||◌, ◌+◌}
use Rattle.std.specs.Prelude.{slice_get, slice_index_or, slice_set, int_div, int_rem, nat_lt}
use Rattle.std.specs.Int.RustNames.{unsigned_abs}
use Rattle.std.specs.List.{list_any, AllByRecursion}
use Rattle.std.specs.Ordering.{int_eq}
use Rattle.std.proofs.lemmas.Bool.{eqb-true}
use Rattle.std.proofs.lemmas.List.{map-append}
use Rattle.std.proofs.Math.Dec.{eqb}
use Rattle.core_tree.specs.declared.core_type.CoreType.{CoreType}
use Rattle.core_tree.specs.declared.core_type.CoreType.TheVariants as kinds
use Rattle.core_tree.specs.declared.expression.FunctionPlace.{FunctionPlace}
use Rattle.core_tree.specs.declared.operator.Arith.{Arith}
use Rattle.core_tree.specs.declared.operator.Arith.TheVariants as signs
use Rattle.core_tree.specs.declared.value.Value.{Value}
use Rattle.core_tree.specs.declared.value.Value.TheVariants as values
use Rattle.core_tree.specs.Outlines.{ScriptShape}
use Rattle.papy_base.specs.declared.faults.StackFault.{StackFault}
use Rattle.papy_base.specs.declared.faults.StackFault.TheVariants as faults
use Rattle.script_meaning.specs.Arrays.{array_limit, items_of, is_index, with_array, new_array, length_of, element_of, with_items, with_element, found, found_back}
use Rattle.script_meaning.specs.Evaluation.{self_value}
use Rattle.run_laws.specs.Fits.{Known, known, IsOfScript, IsInstanceOf, HoldsElements, HasType, IsResult, Extends, VariablesFit, ArrayFits, script_in, script_at, IsThere, is_native_at, NativesFit, SightFits, Types}
use Rattle.core_tree.specs.Values.{holds_none}
use Rattle.run_laws.specs.Keeps.{IsOn, RequestFits}
use Rattle.script_meaning.specs.Requests.{Sight, Setting, Request, Method, ParentMethod, GlobalFunction, GlobalNative, Get, Set, LoopPass, Return, binding_in, result_of, is_prompt, performed_at, method_of, get_of, set_of, Answer, Reply, Act, framed, request_answer, answer, replied, faulted}
use Rattle.script_meaning.specs.Values.{Result, number_of, text_of, instance_of, array_of, upward, lineage, parent_in, is_child, is_of_script, instance_as, divided, joined, text_limit, calculated, arith_kind}
use Rattle.core_tree.specs.Values.{default_of, element_kind}
use Rattle.script_meaning.specs.World.{Place, ArrayState}
use Rattle.run_laws.proofs.Kept.{SameSight, performed_same, performed_fits}
use Rattle.run_laws.proofs.Typing.{all_at, all_written, all_repeated, all_more, get_more, arrays_moved, kinds_of, items_fit, same_kinds, arrays_written, default_fits, index_within}

-- ---- literals
no_elements : (o : Option CoreType) → HoldsElements o None → ⊥
no_elements None h = h
no_elements (Some k) h = h

no_instance_of : (outline : List ScriptShape) (kind : CoreType) (n : ℕ) → IsInstanceOf (known outline [] []) kind n → ⊥
no_instance_of outline (kinds.Script s) n h = h
no_instance_of outline kinds.Int n h = h
no_instance_of outline kinds.Bool n h = h
no_instance_of outline kinds.Text n h = h
no_instance_of outline kinds.IntArray n h = h
no_instance_of outline kinds.BoolArray n h = h
no_instance_of outline kinds.TextArray n h = h
no_instance_of outline (kinds.ScriptArray s) n h = h

pub literal_has : (outline : List ScriptShape) (now : Known) (kind : CoreType) (value : Value) → HasType (known outline [] []) kind value → HasType now kind value
literal_has outline now kind values.NoneValue h = h
literal_has outline now kind (values.Int n) h = h
literal_has outline now kind (values.Bool b) h = h
literal_has outline now kind (values.Text t) h = h
literal_has outline now kind (values.Instance n) h = absurd (no_instance_of outline kind n h)
literal_has outline now kind (values.Array n) h = absurd (no_elements (element_kind kind) h)

pub literal_fits : (outline : List ScriptShape) (now : Known) (kind : Option CoreType) (value : Value) → IsResult (known outline [] []) kind value → IsResult now kind value
literal_fits outline now None value h = h
literal_fits outline now (Some kind) value h = literal_has outline now kind value h

-- ---- arithmetic
-- of two results
pub either_fits : (now : Known) (kind : CoreType) (here : Bool) (a b : Value × Option StackFault) → HasType now kind a.0 → HasType now kind b.0 → HasType now kind (cond here a b).0
either_fits now kind true a b h g = h
either_fits now kind false a b h g = g

divided_fits : (now : Known) (divisor n : ℤ) → HasType now kinds.Int (divided divisor n).0
divided_fits now divisor n = either_fits now kinds.Int (int_eq divisor (pos 0)) _ _ refl refl

pub joined_fits : (now : Known) (a b : List ℕ) → HasType now kinds.Text (joined a b).0
joined_fits now a b = either_fits now kinds.Text (nat_lt text_limit (length a + length b)) _ _ refl refl

pub calculated_fits : (now : Known) (operation : Arith) (a b : Value) → HasType now (arith_kind operation) (calculated operation a b).0
calculated_fits now signs.Add a b = refl
calculated_fits now signs.Sub a b = refl
calculated_fits now signs.Mul a b = refl
calculated_fits now signs.Div a b = divided_fits now (number_of b) (int_div (number_of a) (number_of b))
calculated_fits now signs.Rem a b = divided_fits now (number_of b) (int_rem (number_of a) (number_of b))
calculated_fits now signs.Join a b = joined_fits now (text_of a) (text_of b)

-- ---- instances
-- the value of an instance is one that is there
pub is_there : (outline : List ScriptShape) (script : ℕ) (instances : List (ℕ × List ℕ)) (n : ℕ) → IsOfScript outline script (slice_get instances n) → (own : ℕ) × (script_at instances (Some n) ≡ Some own) × (is_child outline own script ≡ true) × (n < length instances)
is_there outline script [] n h = absurd h
is_there outline script (x ∷ xs) zero h = (x.0, refl, h, omega arith)
is_there outline script (x ∷ xs) (suc n) h =
    let more = is_there outline script xs n h in (more.0, more.1, more.2, let below = more.3 in omega (arith, below))

pub target_is : (now : Known) (script : ℕ) (value : Value) (target : ℕ) → HasType now (kinds.Script script) value → instance_of value ≡ Some target → (own : ℕ) × (script_at now.instances (Some target) ≡ Some own) × (is_child now.outline own script ≡ true) × (target < length now.instances)
target_is now script (values.Instance n) target h e =
    let same : n ≡ target = cc in is_there now.outline script now.instances target (subst (λ m. IsOfScript now.outline script (slice_get now.instances m)) same h)
target_is now script values.NoneValue target h e = absurd (cc)
target_is now script (values.Int n) target h e = absurd (cc)
target_is now script (values.Bool n) target h e = absurd (cc)
target_is now script (values.Text n) target h e = absurd (cc)
target_is now script (values.Array n) target h e = absurd (cc)

of_script : (outline : List ScriptShape) (script : ℕ) (instance : Option (ℕ × List ℕ)) → is_of_script outline script instance ≡ true → IsOfScript outline script instance
of_script outline script None e = absurd (cc)
of_script outline script (Some instance) e = e

cast_by : (now : Known) (script n : ℕ) (here : Bool) → is_of_script now.outline script (slice_get now.instances n) ≡ here → HasType now (kinds.Script script) (cond here (values.Instance n) values.NoneValue)
cast_by now script n true e = of_script now.outline script (slice_get now.instances n) e
cast_by now script n false e = refl

pub instance_cast : (now : Known) (from script : ℕ) (value : Value) → HasType now (kinds.Script from) value → HasType now (kinds.Script script) (instance_as now.outline now.instances script value)
instance_cast now from script values.NoneValue h = refl
instance_cast now from script (values.Int n) h = absurd (cc)
instance_cast now from script (values.Bool n) h = absurd (cc)
instance_cast now from script (values.Text n) h = absurd (cc)
instance_cast now from script (values.Array n) h = absurd h
instance_cast now from script (values.Instance n) h =
    cast_by now script n (is_of_script now.outline script (slice_get now.instances n)) refl

-- ---- scripts above scripts
or_true : (a b : Bool) → b ≡ true → a || b ≡ true
or_true true b e = refl
or_true false b e = e

pub nothing_up : (left : ℕ) (outline : List ScriptShape) (script : ℕ) → list_any (λ s. eqb s script) (upward left outline None) ≡ true → ⊥
nothing_up zero outline script h = cc
nothing_up (suc left) outline script h = cc

module _ (outline : List ScriptShape) (above : (script : ℕ) (shape : ScriptShape) → slice_get outline script ≡ Some shape → lineage outline (Some script) ≡ script ∷ lineage outline shape.parent) where
  abbrev Has : ℕ → List ℕ → Type 0
  Has script scripts = list_any (λ s. eqb s script) scripts ≡ true

  has_more : (script first : ℕ) (scripts : List ℕ) → Has script scripts → Has script (first ∷ scripts)
  has_more script first scripts h = or_true (eqb first script) (list_any (λ s. eqb s script) scripts) h

  up_by : (left : ℕ) (o : Option ScriptShape) (script middle : ℕ) → slice_get outline script ≡ o → ((next : Option ℕ) → Has middle (upward left outline next) → (top : ℕ) → Has top (lineage outline (Some middle)) → Has top (lineage outline next)) → Has middle (upward left outline (parent_in o)) → (top : ℕ) → Has top (lineage outline (Some middle)) → Has top (lineage outline (Some script))
  up_by left None script middle e more h top t = absurd (nothing_up left outline middle h)
  up_by left (Some shape) script middle e more h top t =
      subst (λ ss. Has top ss) (sym (above script shape e)) (has_more top script (lineage outline shape.parent) (more shape.parent h top t))

  up_here : (here : Bool) (left : ℕ) (script middle : ℕ) → eqb script middle ≡ here → ((next : Option ℕ) → Has middle (upward left outline next) → (top : ℕ) → Has top (lineage outline (Some middle)) → Has top (lineage outline next)) → here || list_any (λ s. eqb s middle) (upward left outline (parent_in (slice_get outline script))) ≡ true → (top : ℕ) → Has top (lineage outline (Some middle)) → Has top (lineage outline (Some script))
  up_here true left script middle e more h top t =
      subst (λ s. Has top (lineage outline (Some s))) (sym (eqb-true script middle e)) t
  up_here false left script middle e more h top t = up_by left (slice_get outline script) script middle refl more h top t

  up : (left : ℕ) (next : Option ℕ) (middle : ℕ) → Has middle (upward left outline next) → (top : ℕ) → Has top (lineage outline (Some middle)) → Has top (lineage outline next)
  up zero next middle h top t = absurd (cc)
  up (suc left) None middle h top t = absurd (cc)
  up (suc left) (Some script) middle h top t =
      up_here (eqb script middle) left script middle refl (λ next. up left next middle) h top t

  -- what is above a script of a line stands in it
  pub has_above : (next : Option ℕ) (middle top : ℕ) → Has middle (lineage outline next) → Has top (lineage outline (Some middle)) → Has top (lineage outline next)
  has_above next middle top h t = up (length outline) next middle h top t

  pub child_above : (child middle top : ℕ) → is_child outline child middle ≡ true → is_child outline middle top ≡ true → is_child outline child top ≡ true
  child_above child middle top a b = has_above (Some child) middle top a b

  parent_by : (o : Option ScriptShape) (script top : ℕ) → slice_get outline script ≡ o → Has top (lineage outline (parent_in o)) → Has top (lineage outline (Some script))
  parent_by None script top e h = absurd (nothing_up (length outline) outline top h)
  parent_by (Some shape) script top e h =
      subst (λ ss. Has top ss) (sym (above script shape e)) (has_more top script (lineage outline shape.parent) h)

  -- so is what is above its parent
  pub parent_above : (script top : ℕ) → Has top (lineage outline (parent_in (slice_get outline script))) → is_child outline script top ≡ true
  parent_above script top h = parent_by (slice_get outline script) script top refl h

-- ---- the own instance
pub own_line : (outline : List ScriptShape) (o : Option ℕ) (script : ℕ) (is_global : Bool) → IsOn outline o script is_global → is_global ≡ false → list_any (λ above. eqb above script) (lineage outline o) ≡ true
own_line outline None script is_global on g = absurd (cc)
own_line outline (Some own) script is_global on g = on

self_by : (outline : List ScriptShape) (instances : List (ℕ × List ℕ)) (i script : ℕ) (is_global : Bool) → i < length instances → IsOn outline (script_in (slice_get instances i)) script is_global → IsOfScript outline script (slice_get instances i)
self_by outline [] i script is_global h on = absurd (omega arith)
self_by outline (x ∷ xs) zero script is_global h on = on
self_by outline (x ∷ xs) (suc i) script is_global h on =
    let below : i < length xs = omega arith in self_by outline xs i script is_global below on

pub self_has : (outline : List ScriptShape) (instances : List (ℕ × List ℕ)) (arrays : List ArrayState) (o : Option ℕ) (script : ℕ) (is_global : Bool) → IsThere instances o → IsOn outline (script_at instances o) script is_global → HasType (known outline instances arrays) (kinds.Script script) (self_value o)
self_has outline instances arrays None script is_global h on = refl
self_has outline instances arrays (Some i) script is_global h on = self_by outline instances i script is_global h on

-- ---- arrays
last_kind : (arrays : List ArrayState) (one : ArrayState) → slice_get (kinds_of (arrays ++ one ∷ [])) (length arrays) ≡ Some one.kind
last_kind [] one = refl
last_kind (first ∷ rest) one = last_kind rest one

abbrev pub ArrayIs : Known → CoreType → Option ℕ → Type 0
ArrayIs now element None = Unit {0}
ArrayIs now element (Some n) = HoldsElements (Some element) (slice_get now.arrays n)

pub array_is : (now : Known) (kind element : CoreType) (value : Value) → element_kind kind ≡ Some element → HasType now kind value → ArrayIs now element (array_of value)
array_is now kind element values.NoneValue e h = tt
array_is now kind element (values.Int n) e h = tt
array_is now kind element (values.Bool n) e h = tt
array_is now kind element (values.Text n) e h = tt
array_is now kind element (values.Instance n) e h = tt
array_is now kind element (values.Array n) e h = subst (λ o. HoldsElements o (slice_get now.arrays n)) e h

pub none_held : (kind element : CoreType) → element_kind kind ≡ Some element → holds_none kind ≡ true
none_held kinds.IntArray element e = refl
none_held kinds.BoolArray element e = refl
none_held kinds.TextArray element e = refl
none_held (kinds.ScriptArray s) element e = refl
none_held (kinds.Script s) element e = refl
none_held kinds.Int element e = absurd (cc)
none_held kinds.Bool element e = absurd (cc)
none_held kinds.Text element e = absurd (cc)

pub length_fits : (now : Known) (arrays : List ArrayState) (o : Option ℕ) → HasType now kinds.Int (length_of arrays o).0
length_fits now arrays None = refl
length_fits now arrays (Some n) = refl

pub found_fits : (now : Known) (arrays : List ArrayState) (o : Option ℕ) (value : Value) (start : ℤ) → HasType now kinds.Int (found arrays o value start).0
found_fits now arrays None value start = refl
found_fits now arrays (Some n) value start = refl

pub found_back_fits : (now : Known) (arrays : List ArrayState) (o : Option ℕ) (value : Value) (start : ℤ) → HasType now kinds.Int (found_back arrays o value start).0
found_back_fits now arrays None value start = refl
found_back_fits now arrays (Some n) value start = refl

module _ (outline : List ScriptShape) (instances : List (ℕ × List ℕ)) (arrays : List ArrayState) (fit : AllByRecursion (ArrayFits (known outline instances arrays)) arrays) (element : CoreType) where
  abbrev here : Known
  here = known outline instances arrays

  element_by : (P : Value → Type 0) (n : ℕ) (index : ℤ) (otherwise : Value) (inside : Bool) → is_index (items_of arrays n) index ≡ inside → ((v : Value) → HasType here element v → P v) → P otherwise → HoldsElements (Some element) (slice_get (kinds_of arrays) n) → P (cond {A = Result} inside (slice_index_or (items_of arrays n) (unsigned_abs index) values.NoneValue, None) (otherwise, Some faults.IndexRange)).0
  element_by P n index otherwise true e so p a =
      so (slice_index_or (items_of arrays n) (unsigned_abs index) values.NoneValue) (all_at (HasType here element) (items_of arrays n) (unsigned_abs index) values.NoneValue (index_within (items_of arrays n) index e) (items_fit here arrays n element a fit))
  element_by P n index otherwise false e so p a = p

  pub element_fits : (P : Value → Type 0) (o : Option ℕ) (index : ℤ) (otherwise : Value) → ((v : Value) → HasType here element v → P v) → P otherwise → ArrayIs here element o → P (element_of arrays o index otherwise).0
  element_fits P None index otherwise so p a = p
  element_fits P (Some n) index otherwise so p a =
      element_by P n index otherwise (is_index (items_of arrays n) index) refl so p a

  -- arrays of the same types, whose elements fit
  abbrev pub Rewritten : List ArrayState → Type 0
  Rewritten after = (kinds_of after ≡ kinds_of arrays) × AllByRecursion (ArrayFits here) after

  rewritten_by : (inside : Bool) (after : List ArrayState) → Rewritten after → Rewritten (cond inside after arrays)
  rewritten_by true after r = r
  rewritten_by false after r = (refl, fit)

  pub element_written : (o : Option ℕ) (index : ℤ) (value : Value) → ArrayIs here element o → HasType here element value → Rewritten (with_element arrays o index value)
  element_written None index value a v = (refl, fit)
  element_written (Some n) index value a v =
      let items : List Value = slice_set (items_of arrays n) (unsigned_abs index) value in
      rewritten_by (is_index (items_of arrays n) index) (with_items arrays n items) (same_kinds arrays n items, arrays_written here arrays n element items a (all_written (HasType here element) (items_of arrays n) (unsigned_abs index) value v (items_fit here arrays n element a fit)) fit)

  -- with one more array, or none where there are too many
  abbrev pub Grown : CoreType → List ArrayState → Value → Type 0
  Grown kind after value =
      Extends here (known outline instances after) × AllByRecursion (ArrayFits (known outline instances after)) after × HasType (known outline instances after) kind value

  grown_by : (room : Bool) (kind : CoreType) (count : ℕ) → element_kind kind ≡ Some element → Grown kind (cond room (arrays ++ record { kind = element; items = replicate count (default_of element) } ∷ []) arrays) (cond {A = Result} room (values.Array (length arrays), None) (values.NoneValue, Some faults.ArrayLimit)).0
  grown_by false kind count e =
      (record { outline = refl; instances = refl; arrays = λ n k g. g }, fit, none_held kind element e)
  grown_by true kind count e =
      let one : ArrayState = record { kind = element; items = replicate count (default_of element) } in
      let after : List ArrayState = arrays ++ one ∷ [] in
      let then : Known = known outline instances after in
      let kinds_after : kinds_of after ≡ kinds_of arrays ++ element ∷ [] = map-append (λ (array : ArrayState). array.kind) arrays (one ∷ []) in
      let more : Extends here then = record { outline = refl; instances = refl; arrays = λ n k g. subst (λ ks. slice_get ks n ≡ Some k) (sym kinds_after) (get_more (kinds_of arrays) (element ∷ []) n k g) } in
      let last : slice_get (kinds_of after) (length arrays) ≡ Some element = last_kind arrays one in
      (more, all_more (ArrayFits then) arrays one (arrays_moved here then more arrays fit) (all_repeated (HasType then element) count (default_of element) (default_fits then element)), subst (λ o. HoldsElements o (slice_get (kinds_of after) (length arrays))) (sym e) (subst (λ o. HoldsElements (Some element) o) (sym last) refl))

  pub array_made : (kind : CoreType) (count : ℕ) → element_kind kind ≡ Some element → Grown kind (with_array arrays element count) (new_array arrays).0
  array_made kind count e = grown_by (nat_lt (length arrays) array_limit) kind count e

-- ---- questions
-- what changed lines and devices alone
pub sight_as : (outline : List ScriptShape) (setting : Setting) (before after : Sight) → SameSight after before → SightFits outline setting before → SightFits outline setting after
sight_as outline setting before after same s = record {
  of_set = s.of_set;
  natives = s.natives;
  own = s.own;
  scripts = ap (λ vs. map (λ (of_script : ℕ × List Value). of_script.0) vs) same.0 ∙ s.scripts;
  variables = subst (λ vs. AllByRecursion (VariablesFit (known outline setting.instances after.arrays)) vs) (sym same.0) (subst (λ arrays. AllByRecursion (VariablesFit (known outline setting.instances arrays)) before.variables) (sym same.2) s.variables);
  arrays = subst (λ arrays. AllByRecursion (ArrayFits (known outline setting.instances arrays)) arrays) (sym same.2) s.arrays;
}

module _ (setting : Setting) (at : Place) (sight : Sight) (acts : Request → Type 0) (replies : Value → Type 0) where
  abbrev pub AnswerIs : Answer → Type 0
  AnswerIs (Reply value after) = SameSight after sight × replies value
  AnswerIs (Act request) = acts request

  framed_by : (room : Bool) (request : Request) (otherwise : Value) → acts request → replies otherwise → AnswerIs (cond room (Act request) (Reply otherwise (faulted setting at faults.FrameLimit sight)))
  framed_by true request otherwise a r = a
  framed_by false request otherwise a r = ((refl, refl, refl), r)

  pub framed_is : (request : Request) (otherwise : Value) → acts request → replies otherwise → AnswerIs (framed setting at request otherwise sight)
  framed_is request otherwise a r = framed_by setting.has_room request otherwise a r

  pub method_is : (o : Option ℕ) (name : List ℕ) (arguments : List Value) (otherwise : Value) → ((target : ℕ) → o ≡ Some target → acts (Method target name arguments otherwise)) → replies otherwise → AnswerIs (answer setting at (method_of o name arguments otherwise) sight)
  method_is None name arguments otherwise a r = ((refl, refl, refl), r)
  method_is (Some target) name arguments otherwise a r = framed_is (Method target name arguments otherwise) otherwise (a target refl) r

  pub get_is : (o : Option ℕ) (name : List ℕ) (otherwise : Value) → ((target : ℕ) → o ≡ Some target → acts (Get target name otherwise)) → replies otherwise → AnswerIs (answer setting at (get_of o name otherwise) sight)
  get_is None name otherwise a r = ((refl, refl, refl), r)
  get_is (Some target) name otherwise a r = framed_is (Get target name otherwise) otherwise (a target refl) r

  pub set_is : (o : Option ℕ) (name : List ℕ) (value : Value) → ((target : ℕ) → o ≡ Some target → acts (Set target name value)) → replies values.NoneValue → AnswerIs (answer setting at (set_of o name value) sight)
  set_is None name value a r = ((refl, refl, refl), r)
  set_is (Some target) name value a r = framed_is (Set target name value) values.NoneValue (a target refl) r

  native_at_by : (outline : List ScriptShape) (native : FunctionPlace) (arguments : List Value) (prompt : Bool) → setting.outline ≡ outline → NativesFit outline setting.natives → is_native_at outline native ≡ true → acts (GlobalNative native arguments) → (now : Known) → ((v : Value) → IsResult now (result_of outline native) v → replies v) → AnswerIs (cond prompt (replied (performed_at setting native arguments sight)) (Act (GlobalNative native arguments)))
  native_at_by outline native arguments true o n h a now r =
      (performed_same setting (binding_in setting.natives native) (result_of setting.outline native) arguments sight, r (performed_at setting native arguments sight).0 (performed_fits now outline setting native arguments sight o n h))
  native_at_by outline native arguments false o n h a now r = a

  pub native_is : (outline : List ScriptShape) (native : FunctionPlace) (arguments : List Value) → setting.outline ≡ outline → NativesFit outline setting.natives → is_native_at outline native ≡ true → acts (GlobalNative native arguments) → (now : Known) → ((v : Value) → IsResult now (result_of outline native) v → replies v) → AnswerIs (request_answer setting at (GlobalNative native arguments) sight)
  native_is outline native arguments o n h a now r =
      native_at_by outline native arguments (is_prompt (binding_in setting.natives native)) o n h a now r

-- a request fits whatever holds of the body that goes on
pub request_so : {Body : Type 0} (types : Types Body) (now : Known) (self : Option ℕ) (result : Option CoreType) (G H : Option (Option CoreType) → Type 0) → ((awaited : Option (Option CoreType)) → G awaited → H awaited) → (request : Request) → RequestFits types now self result G request → RequestFits types now self result H request
request_so types now self result G H so (Method target name arguments otherwise) r = (r.0, r.1, so (Some r.0) r.2)
request_so types now self result G H so (ParentMethod script name arguments otherwise) r = (r.0, r.1, so (Some r.0) r.2)
request_so types now self result G H so (GlobalFunction script name arguments otherwise) r = (r.0, r.1, so (Some r.0) r.2)
request_so types now self result G H so (GlobalNative at arguments) r = (r.0, so (Some (result_of types.outline at)) r.1)
request_so types now self result G H so (Get target name otherwise) r = (r.0, r.1, so (Some r.0) r.2)
request_so types now self result G H so (Set target name value) r = (r.0, so (Some None) r.1)
request_so types now self result G H so LoopPass r = so None r
request_so types now self result G H so (Return value) r = r
