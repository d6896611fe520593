-- What calls of typed trees find takes their arguments.
use Rattle.std.proofs.Common.{◌≡◌, ℕ, zero, suc, Bool, true, false, cond, ◌||◌, List, [], ◌∷◌, ◌++◌, map, length, Option, Some, None, refl, sym, ap, subst}
use Rattle.std.specs.Prelude.{slice_get}
use Rattle.std.specs.List.{find, list_any, AllByRecursion}
use Rattle.std.specs.Str.{str_eq_ignore_ascii_case}
use Rattle.std.proofs.Math.Dec.{eqb}
use Rattle.std.proofs.lemmas.Bool.{eq-eqb}
use Rattle.std.proofs.lemmas.List.{map-append}
use Rattle.core_tree.specs.declared.core_type.CoreType.{CoreType}
use Rattle.core_tree.specs.declared.value.Value.{Value}
use Rattle.core_tree.specs.Outlines.{ScriptShape}
use Rattle.core_tree.specs.Set.{Script, Function, State as ScriptState, Property, Access, Auto, Full, empty_functions_of}
use Rattle.script_meaning.specs.Evaluation.{functions_at}
use Rattle.run_laws.specs.Fits.{Known, known, HaveTypes, typed, Extends, script_at, SightFits, IsReply, BodyHolds, CallFits}
use Rattle.run_laws.specs.Keeps.{seen, IsVariable, IsOfOwn, IsOn, StopFits, FoundFits, KeepsFit}
use Rattle.script_meaning.specs.Requests.{Sight, Setting}
use Rattle.script_meaning.specs.Source.{Body, body_of, opened, named, functions_of_state, state_functions, with_script, or_else_found, first_function, first_empty, method_in, native_there, function_entered, properties_of, first_property, accessor_entered, get_entered, set_entered, get_found, set_found, enter_body, source_engine}
use Rattle.script_meaning.specs.Stacks.{Way, ByMethod, ByParent, ByGlobal, ByGet, BySet, Entered, Opened, NativeThere, WriteThere, NothingThere}
use Rattle.run_laws.specs.TypedTrees.{FunctionMeets, AccessorMeets, GetMeets, SetMeets, WhereFound, IsTypedFunction, IsTypedAccessor, IsTypedAccess, IsTypedSet, awaited_kind, Holds, source_types}
use Rattle.script_meaning.specs.Values.{lineage, parent_in}
use Rattle.core_tree.specs.Values.{default_of}
use Rattle.run_laws.proofs.Operating.{nothing_up, has_above, parent_above}
use Rattle.run_laws.proofs.TreesKeep.{all_pending_moved, run_body_fits}
use Rattle.run_laws.proofs.Typing.{result_moved, types_moved, types_joined, defaults_fit, default_result_fits}

or_first : (a b : Bool) → a || false ≡ true → a || b ≡ true
or_first true b e = refl
or_first false b e = absurd (cc)

or_rest : (a b : Bool) → b ≡ true → a || b ≡ true
or_rest true b e = refl
or_rest false b e = e

itself : (script : ℕ) → list_any (λ s. eqb s script) (script ∷ []) ≡ true
itself script = ap (λ b. b || false) (eq-eqb script script refl)

same_count : (now : Known) (ks : List CoreType) (vs : List Value) → HaveTypes now (typed ks) vs → length vs ≡ length ks
same_count now [] [] h = refl
same_count now (k ∷ ks) (v ∷ vs) h = ap (λ n. suc n) (same_count now ks vs h.1)
same_count now [] (v ∷ vs) h = absurd h
same_count now (k ∷ ks) [] h = absurd h

pub same_length : (now : Known) (ks : List CoreType) (vs : List Value) → HaveTypes now (typed ks) vs → eqb (length vs) (length ks) ≡ true
same_length now ks vs h = eq-eqb (length vs) (length ks) (same_count now ks vs h)

no_arguments : (now : Known) (parameters : List CoreType) (vs : List Value) → parameters ≡ [] → HaveTypes now (typed parameters) vs → vs ≡ []
no_arguments now [] [] e h = refl
no_arguments now [] (v ∷ vs) e h = absurd h
no_arguments now (k ∷ ks) vs e h = absurd (cc)

module _ (outline : List ScriptShape) (scripts : List Script) (set : IsTypedSet outline scripts) where
  abbrev Is : ℕ → Function → Type 0
  Is script function = IsTypedFunction outline scripts script function

  -- ---- functions
  abbrev MaybeIs : ℕ → Option Function → Type 0
  MaybeIs script None = Unit {0}
  MaybeIs script (Some function) = Is script function

  abbrev FoundIs : List ℕ → Option (ℕ × Function) → Type 0
  FoundIs line None = Unit {0}
  FoundIs line (Some (script, function)) = Is script function × (list_any (λ s. eqb s script) line ≡ true)

  find_step : (script : ℕ) (here : Bool) (f : Function) (rest : Option Function) → Is script f → MaybeIs script rest → MaybeIs script (cond here (Some f) rest)
  find_step script true f rest w r = w
  find_step script false f rest w r = r

  find_is : (script : ℕ) (test : Function → Bool) (fs : List Function) → AllByRecursion (Is script) fs → MaybeIs script (find test fs)
  find_is script test [] a = tt
  find_is script test (f ∷ fs) a = find_step script (test f) f (find test fs) a.0 (find_is script test fs a.1)

  with_is : (script : ℕ) (o : Option Function) → MaybeIs script o → FoundIs (script ∷ []) (with_script script o)
  with_is script None w = tt
  with_is script (Some f) w = (w, itself script)

  either_is : (script : ℕ) (above : List ℕ) (a b : Option (ℕ × Function)) → FoundIs (script ∷ []) a → FoundIs above b → FoundIs (script ∷ above) (or_else_found a b)
  either_is script above None None h r = tt
  either_is script above None (Some (at, f)) h r = (r.0, or_rest (eqb script at) (list_any (λ s. eqb s at) above) r.1)
  either_is script above (Some (at, f)) b h r = (h.0, or_first (eqb script at) (list_any (λ s. eqb s at) above) h.1)

  first_is : (functions : ℕ → List Function) → ((n : ℕ) → AllByRecursion (Is n) (functions n)) → (line : List ℕ) (name : List ℕ) → FoundIs line (first_function functions line name)
  first_is functions a [] name = tt
  first_is functions a (script ∷ above) name =
      either_is script above (with_script script (find (named name) (functions script))) (first_function functions above name) (with_is script (find (named name) (functions script)) (find_is script (named name) (functions script) (a script))) (first_is functions a above name)

  or_is : (line : List ℕ) (a b : Option (ℕ × Function)) → FoundIs line a → FoundIs line b → FoundIs line (or_else_found a b)
  or_is line None b h r = r
  or_is line (Some f) b h r = h

  state_step : (script : ℕ) (here : Bool) (fs gs : List Function) → AllByRecursion (Is script) fs → AllByRecursion (Is script) gs → AllByRecursion (Is script) (cond here fs gs)
  state_step script true fs gs v w = v
  state_step script false fs gs v w = w

  states_are : (script : ℕ) (states : List ScriptState) (name : List ℕ) → AllByRecursion (λ state. AllByRecursion (Is script) state.functions) states → AllByRecursion (Is script) (functions_of_state states name)
  states_are script [] name a = tt
  states_are script (s ∷ states) name a =
      state_step script (str_eq_ignore_ascii_case s.name name) s.functions (functions_of_state states name) a.0 (states_are script states name a.1)

  state_is_by : (script : ℕ) (o : Option Script) (name : List ℕ) → slice_get scripts script ≡ o → AllByRecursion (Is script) (state_functions o name)
  state_is_by script None name e = tt
  state_is_by script (Some s) name e = let each = set.each script s e in states_are script s.states name each.functions

  empty_of : (script : ℕ) (states : List ScriptState) → AllByRecursion (λ state. AllByRecursion (Is script) state.functions) states → AllByRecursion (Is script) (empty_functions_of states)
  empty_of script [] a = tt
  empty_of script (s ∷ states) a = a.0

  empty_by : (script : ℕ) (some : List Script) (n : ℕ) → ((s : Script) → slice_get some n ≡ Some s → AllByRecursion (λ state. AllByRecursion (Is script) state.functions) s.states) → AllByRecursion (Is script) (functions_at some n)
  empty_by script [] n a = tt
  empty_by script (s ∷ some) zero a = empty_of script s.states (a s refl)
  empty_by script (s ∷ some) (suc n) a = empty_by script some n a

  empty_is : (script : ℕ) → AllByRecursion (Is script) (functions_at scripts script)
  empty_is script = empty_by script scripts script (λ s e. let each = set.each script s e in each.functions)

  empty_found : (line : List ℕ) (name : List ℕ) → FoundIs line (first_empty scripts line name)
  empty_found line name = first_is (functions_at scripts) empty_is line name

  method_found : (line : List ℕ) (state name : List ℕ) → FoundIs line (method_in scripts line state name)
  method_found line state name =
      or_is line (first_function (λ script. state_functions (slice_get scripts script) state) line name) (first_empty scripts line name) (first_is (λ script. state_functions (slice_get scripts script) state) (λ n. state_is_by n (slice_get scripts n) state refl) line name) (empty_found line name)

  -- ---- properties
  abbrev MaybeAccess : ℕ → Option Property → Type 0
  MaybeAccess script None = Unit {0}
  MaybeAccess script (Some property) = IsTypedAccess outline scripts script property.access

  abbrev PropertyIs : List ℕ → Option (ℕ × Property) → Type 0
  PropertyIs line None = Unit {0}
  PropertyIs line (Some (script, property)) =
      IsTypedAccess outline scripts script property.access × (list_any (λ s. eqb s script) line ≡ true)

  property_step : (script : ℕ) (here : Bool) (p : Property) (rest : Option Property) → IsTypedAccess outline scripts script p.access → MaybeAccess script rest → MaybeAccess script (cond here (Some p) rest)
  property_step script true p rest w r = w
  property_step script false p rest w r = r

  find_property : (script : ℕ) (test : Property → Bool) (ps : List Property) → AllByRecursion (λ property. IsTypedAccess outline scripts script property.access) ps → MaybeAccess script (find test ps)
  find_property script test [] a = tt
  find_property script test (p ∷ ps) a = property_step script (test p) p (find test ps) a.0 (find_property script test ps a.1)

  properties_by : (script : ℕ) (o : Option Script) → slice_get scripts script ≡ o → AllByRecursion (λ property. IsTypedAccess outline scripts script property.access) (properties_of o)
  properties_by script None e = tt
  properties_by script (Some s) e = let each = set.each script s e in each.accessors

  with_property : (script : ℕ) (o : Option Property) → MaybeAccess script o → PropertyIs (script ∷ []) (with_script script o)
  with_property script None w = tt
  with_property script (Some p) w = (w, itself script)

  either_property : (script : ℕ) (above : List ℕ) (a b : Option (ℕ × Property)) → PropertyIs (script ∷ []) a → PropertyIs above b → PropertyIs (script ∷ above) (or_else_found a b)
  either_property script above None None h r = tt
  either_property script above None (Some (at, p)) h r = (r.0, or_rest (eqb script at) (list_any (λ s. eqb s at) above) r.1)
  either_property script above (Some (at, p)) b h r = (h.0, or_first (eqb script at) (list_any (λ s. eqb s at) above) h.1)

  property_found : (line : List ℕ) (name : List ℕ) → PropertyIs line (first_property scripts line name)
  property_found [] name = tt
  property_found (script ∷ above) name =
      either_property script above (with_script script (find (λ property. str_eq_ignore_ascii_case property.name name) (properties_of (slice_get scripts script)))) (first_property scripts above name) (with_property script (find (λ property. str_eq_ignore_ascii_case property.name name) (properties_of (slice_get scripts script))) (find_property script (λ property. str_eq_ignore_ascii_case property.name name) (properties_of (slice_get scripts script)) (properties_by script (slice_get scripts script) refl))) (property_found above name)

  -- ---- bodies
  module _ (setting : Setting) (sight : Sight) where
    abbrev now : Known
    now = known outline setting.instances sight.arrays

    abbrev own : Option ℕ
    own = script_at setting.instances setting.self

    abbrev Finds : List Value → Option CoreType → Entered Body → Type 0
    Finds arguments result found = FoundFits (source_types outline scripts) now setting.self arguments result found

    opened_by : (matched : Bool) (script : ℕ) (name : List ℕ) (function : Function) (arguments : List Value) (result : Option CoreType) → matched ≡ true → Holds outline scripts now own (body_of script name function arguments) None result → Finds arguments result (cond matched (Opened (body_of script name function arguments)) NothingThere)
    opened_by true script name function arguments result e h = h
    opened_by false script name function arguments result e h = absurd (cc)

    begins : (script : ℕ) (name : List ℕ) (function : Function) (arguments : List Value) → Is script function → IsOn outline own script function.is_global → HaveTypes now (typed function.parameters) arguments → Holds outline scripts now own (body_of script name function arguments) None function.result
    begins script name function arguments is on h = record {
      is_global = function.is_global;
      locals = function.parameters ++ function.locals;
      on = on;
      values = subst (λ ks. HaveTypes now ks (arguments ++ map default_of function.locals)) (sym (map-append (λ (k : CoreType). Some k) function.parameters function.locals)) (types_joined now (typed function.parameters) (typed function.locals) arguments (map default_of function.locals) h (defaults_fit now function.locals));
      ending = default_result_fits now function.result;
      pending = (None, (refl, is, refl), refl);
    }

    opened_fits : (script : ℕ) (name : List ℕ) (function : Function) (arguments : List Value) (parameters : List CoreType) (result : Option CoreType) → Is script function → IsOn outline own script function.is_global → function.parameters ≡ parameters → function.result ≡ result → HaveTypes now (typed parameters) arguments → Finds arguments result (opened script name function arguments)
    opened_fits script name function arguments parameters result is on takes gives h =
        let fit : HaveTypes now (typed function.parameters) arguments = subst (λ ks. HaveTypes now (typed ks) arguments) (sym takes) h in
        opened_by (eqb (length arguments) (length function.parameters)) script name function arguments result (same_length now function.parameters arguments fit) (subst (λ r. Holds outline scripts now own (body_of script name function arguments) None r) gives (begins script name function arguments is on fit))

    is_on : (line : Option ℕ) (script : ℕ) (is_global : Bool) → line ≡ own → list_any (λ s. eqb s script) (lineage outline line) ≡ true → IsOn outline own script is_global
    is_on None script is_global e h = absurd (nothing_up (length outline) outline script h)
    is_on (Some c) script is_global e h = subst (λ o. IsOn outline o script is_global) e h

    function_by : (native : Bool) (script : ℕ) (function : Function) (arguments : List Value) (is_global : Bool) (parameters : List CoreType) (result : Option CoreType) → function.is_native ≡ native → Is script function → IsOn outline own script function.is_global → FunctionMeets outline scripts is_global parameters result (Some (script, function)) → HaveTypes now (typed parameters) arguments → Finds arguments result (cond native (NativeThere (native_there scripts script function.name)) (opened script function.name function arguments))
    function_by true script function arguments is_global parameters result e is on m h = m.3 e
    function_by false script function arguments is_global parameters result e is on m h =
        opened_fits script function.name function arguments parameters result is on m.0 m.1 h

    function_fits : (o : Option (ℕ × Function)) (line : List ℕ) (arguments : List Value) (is_global : Bool) (parameters : List CoreType) (result : Option CoreType) → FoundIs line o → ((script : ℕ) → list_any (λ s. eqb s script) line ≡ true → IsOn outline own script is_global) → FunctionMeets outline scripts is_global parameters result o → HaveTypes now (typed parameters) arguments → Finds arguments result (function_entered scripts arguments o)
    function_fits None line arguments is_global parameters result p on m h = absurd m
    function_fits (Some (script, function)) line arguments is_global parameters result p on m h =
        function_by function.is_native script function arguments is_global parameters result refl p.0 (subst (λ g. IsOn outline own script g) (sym m.2) (on script p.1)) m h

    of_parent : (o : Option ℕ) (script top : ℕ) → IsOn outline o script false → list_any (λ s. eqb s top) (lineage outline (parent_in (slice_get outline script))) ≡ true → IsOn outline o top false
    of_parent None script top on h = on
    of_parent (Some c) script top on h =
        has_above outline set.above (Some c) script top on (parent_above outline set.above script top h)

    accessor_fits : (script : ℕ) (name : List ℕ) (o : Option Function) (arguments : List Value) (parameters : List CoreType) (result : Option CoreType) → IsTypedAccessor outline scripts script o → IsOn outline own script false → AccessorMeets parameters result o → HaveTypes now (typed parameters) arguments → Finds arguments result (accessor_entered script name o arguments)
    accessor_fits script name None arguments parameters result is on m h = absurd m
    accessor_fits script name (Some function) arguments parameters result is on m h =
        opened_fits script name function arguments parameters result is (subst (λ g. IsOn outline own script g) (sym m.2) on) m.0 m.1 h

    get_fits : (script : ℕ) (name : List ℕ) (access : Access) (result : Option CoreType) → IsTypedAccess outline scripts script access → list_any (λ s. eqb s script) (lineage outline own) ≡ true → GetMeets outline result script access → Finds [] result (get_entered script name access)
    get_fits script name (Auto variable) result is i m = (m.0, i, m.2, m.1)
    get_fits script name (Full read write) result is i m = accessor_fits script name read [] [] result is.0 (is_on own script false refl i) m tt

    got_fits : (o : Option (ℕ × Property)) (result : Option CoreType) → PropertyIs (lineage outline own) o → WhereFound o (GetMeets outline result) → Finds [] result (get_found o)
    got_fits None result p m = absurd m
    got_fits (Some (script, property)) result p m = get_fits script property.name property.access result p.0 p.1 m

    write_fits : (script variable : ℕ) (kind : CoreType) (arguments : List Value) (result : Option CoreType) → IsOfOwn now setting.self script → result ≡ None → IsVariable outline script variable kind → HaveTypes now (typed (kind ∷ [])) arguments → Finds arguments result (WriteThere script variable)
    write_fits script variable kind [] result i e v h = absurd h
    write_fits script variable kind (value ∷ more) result i e v h = (kind, i, v, h.0, e)

    set_fits : (script : ℕ) (name : List ℕ) (access : Access) (arguments : List Value) (parameters : List CoreType) (result : Option CoreType) → IsTypedAccess outline scripts script access → list_any (λ s. eqb s script) (lineage outline own) ≡ true → SetMeets outline parameters result script access → HaveTypes now (typed parameters) arguments → Finds arguments result (set_entered script name access arguments)
    set_fits script name (Auto variable) arguments parameters result is i m h =
        write_fits script variable (m.1).0 arguments result i m.0 (m.1).2 (subst (λ ks. HaveTypes now (typed ks) arguments) (m.1).1 h)
    set_fits script name (Full read write) arguments parameters result is i m h =
        accessor_fits script name write arguments parameters result is.1 (is_on own script false refl i) m h

    written_fits : (o : Option (ℕ × Property)) (arguments : List Value) (parameters : List CoreType) (result : Option CoreType) → PropertyIs (lineage outline own) o → WhereFound o (SetMeets outline parameters result) → HaveTypes now (typed parameters) arguments → Finds arguments result (set_found arguments o)
    written_fits None arguments parameters result p m h = absurd m
    written_fits (Some (script, property)) arguments parameters result p m h =
        set_fits script property.name property.access arguments parameters result p.0 p.1 m h

    pub enter_fits : (way : Way) (arguments : List Value) (result : Option CoreType) → CallFits (source_types outline scripts) now setting.self way arguments result → Finds arguments result (enter_body outline scripts own sight.state way arguments)
    enter_fits (ByMethod name) arguments result c =
        function_fits (method_in scripts (lineage outline own) sight.state name) (lineage outline own) arguments false c.parameters result (method_found (lineage outline own) sight.state name) (λ script h. is_on own script false refl h) (c.called sight.state) c.values
    enter_fits (ByParent script name) arguments result c =
        let line : List ℕ = lineage outline (parent_in (slice_get outline script)) in
        let called = c.called in
        function_fits (method_in scripts line sight.state name) line arguments false c.parameters result (method_found line sight.state name) (λ top h. of_parent own script top called.0 h) (called.1 sight.state) c.values
    enter_fits (ByGlobal library name) arguments result c =
        let line : List ℕ = lineage outline (Some library) in
        let called = c.called in
        function_fits (first_empty scripts line name) line arguments true c.parameters result (empty_found line name) (λ top h. subst (λ o. IsOn outline o top true) (sym called.0) refl) called.1 c.values
    enter_fits (ByGet name) arguments result c =
        let called = c.called in
        subst (λ vs. Finds vs result (get_found (first_property scripts (lineage outline own) name))) (sym (no_arguments now c.parameters arguments called.0 c.values)) (got_fits (first_property scripts (lineage outline own) name) result (property_found (lineage outline own) name) called.1)
    enter_fits (BySet name) arguments result c =
        written_fits (first_property scripts (lineage outline own) name) arguments c.parameters result (property_found (lineage outline own) name) c.called c.values

-- ---- the engine
holds_stable : (outline : List ScriptShape) (scripts : List Script) (now then : Known) (own : Option ℕ) (body : Body) (awaited : Option (Option CoreType)) (result : Option CoreType) → Extends now then → Holds outline scripts now own body awaited result → Holds outline scripts then own body awaited result
holds_stable outline scripts now then at body awaited result e h =
    record { is_global = h.is_global; locals = h.locals; on = h.on; values = types_moved now then e (typed h.locals) body.locals h.values; ending = result_moved now then e result body.ending h.ending; pending = all_pending_moved (record { outline = outline; scripts = scripts; script = body.script; is_global = h.is_global; locals = h.locals; result = result }) now then e body.pending (awaited_kind awaited) None h.pending }

-- an outline that equals that of the setting
run_in : (outline : List ScriptShape) (scripts : List Script) (setting : Setting) (sight : Sight) (body : Body) (awaited : Option (Option CoreType)) (result : Option CoreType) (reply : Option Value) → setting.outline ≡ outline → SightFits outline setting sight → BodyHolds (source_types outline scripts) (seen outline setting sight) setting.self body awaited result → IsReply (seen outline setting sight) awaited reply → StopFits (source_types outline scripts) setting sight result ((source_engine outline scripts).run setting body reply sight)
run_in outline scripts setting sight body awaited result reply e =
    subst (λ o. SightFits o setting sight → BodyHolds (source_types o scripts) (seen o setting sight) setting.self body awaited result → IsReply (seen o setting sight) awaited reply → StopFits (source_types o scripts) setting sight result ((source_engine o scripts).run setting body reply sight)) e (λ s h r. run_body_fits scripts setting sight body awaited result reply s h r)

pub source_keeps : (outline : List ScriptShape) (scripts : List Script) → IsTypedSet outline scripts → KeepsFit (source_types outline scripts) (source_engine outline scripts)
source_keeps outline scripts set = record {
  stable = holds_stable outline scripts;
  enter = λ setting sight way arguments result s c. enter_fits outline scripts set setting sight way arguments result c;
  run = λ setting sight body awaited result reply s h r. run_in outline scripts setting sight body awaited result reply s.of_set s h r;
}
