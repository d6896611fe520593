-- What calls of typed code find takes their arguments.
use Rattle.std.proofs.Common.{◌≡◌, ℕ, suc, Bool, true, false, cond, ◌||◌, List, [], ◌∷◌, map, length, Option, Some, None, refl, sym, ap, subst}
use Rattle.std.specs.Prelude.{slice_get}
use Rattle.std.specs.List.{list_any}
use Rattle.std.specs.Option.{option_and_then, option_or}
use Rattle.std.specs.Str.{str_eq_ignore_ascii_case}
use Rattle.std.proofs.Math.Dec.{eqb}
use Rattle.std.proofs.lemmas.Bool.{eq-eqb}
use Rattle.core_tree.specs.declared.core_type.CoreType.{CoreType}
use Rattle.core_tree.specs.declared.value.Value.{Value}
use Rattle.core_tree.specs.Outlines.{ScriptShape}
use Rattle.run_laws.specs.Fits.{Known, known, HaveTypes, typed, Extends, script_at, SightFits, IsReply, BodyHolds, CallFits}
use Rattle.run_laws.specs.Keeps.{seen, IsOn, IsVariable, IsOfOwn, StopFits, FoundFits, KeepsFit}
use Rattle.script_meaning.specs.Requests.{Sight, Setting}
use Rattle.script_meaning.specs.Stacks.{Way, ByMethod, ByParent, ByGlobal, ByGet, BySet, Entered, Opened, NativeThere, ReadThere, WriteThere, NothingThere}
use Rattle.script_meaning.specs.Values.{lineage, parent_in}
use Rattle.core_tree.specs.Values.{default_result}
use Rattle.run_laws.proofs.Operating.{nothing_up, has_above, parent_above}
use Rattle.run_laws.proofs.TreesEnter.{same_length}
use Rattle.run_laws.proofs.Typing.{types_moved, types_joined, default_result_fits}
use Rattle.code_meaning.specs.Code.{Function, Access, Auto, Full, Property, State, Script}
use Rattle.code_meaning.specs.Engine.{code_engine}
use Rattle.code_meaning.specs.LookUp.{BodyPlace, OfState, OfGet, OfSet, Body, script_of, states_in, properties_in, functions_in, reader_in, writer_in, function_at, one_on, numbered, FoundMethod, method_at, method_of_state, method_of_script, first_method, method_in, native_at, body_of, opened, method_entered, property_at, first_property, accessor_entered, get_entered, set_entered, enter_code}
use Rattle.code_meaning.specs.Operands.{slot_kinds}
use Rattle.run_laws.specs.TypedCode.{MethodMeets, AccessorMeets, GetMeets, SetMeets, IsTypedSet, Holds, code_types}
use Rattle.run_laws.proofs.CodeKeeps.{run_code_fits}

-- ---- the first of a list
numbered_by : {X : Type 0} (here : Bool) (x : X) (xs : List X) (rest : Option (ℕ × X)) (n : ℕ) (y : X) → ((m : ℕ) → rest ≡ Some (m, y) → slice_get xs m ≡ Some y) → cond here (Some (0, x)) (one_on rest) ≡ Some (n, y) → slice_get (x ∷ xs) n ≡ Some y
numbered_by {X} true x xs rest n y more e =
    let same : ◌≡◌ {A = ℕ × X} (0, x) (n, y) = cc in
    subst (λ m. slice_get (x ∷ xs) m ≡ Some y) (ap (λ p. p.0) same) (ap (λ p. Some p.1) same)
numbered_by false x xs None n y more e = absurd (cc)
numbered_by {X} false x xs (Some (m, z)) n y more e =
    let same : ◌≡◌ {A = ℕ × X} (suc m, z) (n, y) = cc in
    subst (λ k. slice_get (x ∷ xs) k ≡ Some y) (ap (λ p. p.0) same) (more m (ap (λ p. Some (m, p.1)) same))

numbered_there : {X : Type 0} (test : X → Bool) (xs : List X) (n : ℕ) (y : X) → numbered test xs ≡ Some (n, y) → slice_get xs n ≡ Some y
numbered_there test [] n y e = absurd (cc)
numbered_there test (x ∷ xs) n y e = numbered_by (test x) x xs (numbered test xs) n y (λ m. numbered_there test xs m y) e

-- ---- methods
-- a method that was found stands at its place, in one of the scripts
abbrev IsPlaced : List Script → List ℕ → Option FoundMethod → Type 0
IsPlaced scripts line None = Unit {0}
IsPlaced scripts line (Some method) =
    (function_at scripts (OfState method.script method.state method.number) ≡ Some method.function) × (list_any (λ s. eqb s method.script) line ≡ true)

method_placed : (scripts : List Script) (script number : ℕ) (state : State) (o : Option (ℕ × Function)) → slice_get (states_in (slice_get scripts script)) number ≡ Some state → ((n : ℕ) (f : Function) → o ≡ Some (n, f) → slice_get state.functions n ≡ Some f) → list_any (λ s. eqb s script) (script ∷ []) ≡ true → IsPlaced scripts (script ∷ []) (method_at script number o)
method_placed scripts script number state None e found here = tt
method_placed scripts script number state (Some (n, f)) e found here =
    (subst (λ o. slice_get (functions_in o) n ≡ Some f) (sym e) (found n f refl), here)

itself : (script : ℕ) → list_any (λ s. eqb s script) (script ∷ []) ≡ true
itself script = ap (λ b. b || false) (eq-eqb script script refl)

state_placed : (scripts : List Script) (script : ℕ) (name : List ℕ) (o : Option (ℕ × State)) → ((n : ℕ) (s : State) → o ≡ Some (n, s) → slice_get (states_in (slice_get scripts script)) n ≡ Some s) → IsPlaced scripts (script ∷ []) (method_of_state script name o)
state_placed scripts script name None found = tt
state_placed scripts script name (Some (number, state)) found =
    method_placed scripts script number state (numbered (λ function. str_eq_ignore_ascii_case function.name name) state.functions) (found number state refl) (λ n f. numbered_there (λ function. str_eq_ignore_ascii_case function.name name) state.functions n f) (itself script)

script_placed : (scripts : List Script) (state name : List ℕ) (script : ℕ) → IsPlaced scripts (script ∷ []) (method_of_script scripts state name script)
script_placed scripts state name script =
    state_placed scripts script name (numbered (λ found. str_eq_ignore_ascii_case found.name state) (states_in (slice_get scripts script))) (λ n s. numbered_there (λ found. str_eq_ignore_ascii_case found.name state) (states_in (slice_get scripts script)) n s)

or_first : (a b c : Bool) → a || false ≡ true → a || b ≡ true
or_first true b c e = refl
or_first false b c e = absurd (cc)

or_rest : (a b : Bool) → b ≡ true → a || b ≡ true
or_rest true b e = refl
or_rest false b e = e

either_placed : (scripts : List Script) (script : ℕ) (above : List ℕ) (here rest : Option FoundMethod) → IsPlaced scripts (script ∷ []) here → IsPlaced scripts above rest → IsPlaced scripts (script ∷ above) (option_or here rest)
either_placed scripts script above None None h r = tt
either_placed scripts script above None (Some method) h r = (r.0, or_rest (eqb script method.script) (list_any (λ s. eqb s method.script) above) r.1)
either_placed scripts script above (Some method) rest h r =
    (h.0, or_first (eqb script method.script) (list_any (λ s. eqb s method.script) above) false h.1)

first_placed : (scripts : List Script) (line : List ℕ) (state name : List ℕ) → IsPlaced scripts line (first_method scripts line state name)
first_placed scripts [] state name = tt
first_placed scripts (script ∷ above) state name =
    either_placed scripts script above (method_of_script scripts state name script) (first_method scripts above state name) (script_placed scripts state name script) (first_placed scripts above state name)

or_placed : (scripts : List Script) (line : List ℕ) (a b : Option FoundMethod) → IsPlaced scripts line a → IsPlaced scripts line b → IsPlaced scripts line (option_or a b)
or_placed scripts line None b h r = r
or_placed scripts line (Some method) b h r = h

pub found_placed : (scripts : List Script) (line : List ℕ) (state name : List ℕ) → IsPlaced scripts line (method_in scripts line state name)
found_placed scripts line state name =
    or_placed scripts line (first_method scripts line state name) (first_method scripts line [] name) (first_placed scripts line state name) (first_placed scripts line [] name)

-- ---- properties
abbrev IsPropertyPlaced : List Script → List ℕ → Option (ℕ × ℕ × Access) → Type 0
IsPropertyPlaced scripts line None = Unit {0}
IsPropertyPlaced scripts line (Some (script, number, access)) =
    (option_and_then (λ (found : Property). Some found.access) (slice_get (properties_in (slice_get scripts script)) number) ≡ Some access) × (list_any (λ s. eqb s script) line ≡ true)

property_placed : (scripts : List Script) (script : ℕ) (o : Option (ℕ × Property)) → ((n : ℕ) (p : Property) → o ≡ Some (n, p) → slice_get (properties_in (slice_get scripts script)) n ≡ Some p) → IsPropertyPlaced scripts (script ∷ []) (property_at script o)
property_placed scripts script None found = tt
property_placed scripts script (Some (number, property)) found =
    (ap (λ o. option_and_then (λ (p : Property). Some p.access) o) (found number property refl), itself script)

either_property : (scripts : List Script) (script : ℕ) (above : List ℕ) (here rest : Option (ℕ × ℕ × Access)) → IsPropertyPlaced scripts (script ∷ []) here → IsPropertyPlaced scripts above rest → IsPropertyPlaced scripts (script ∷ above) (option_or here rest)
either_property scripts script above None None h r = tt
either_property scripts script above None (Some (at, number, access)) h r = (r.0, or_rest (eqb script at) (list_any (λ s. eqb s at) above) r.1)
either_property scripts script above (Some (at, number, access)) rest h r = (h.0, or_first (eqb script at) (list_any (λ s. eqb s at) above) false h.1)

pub properties_placed : (scripts : List Script) (line : List ℕ) (name : List ℕ) → IsPropertyPlaced scripts line (first_property scripts line name)
properties_placed scripts [] name = tt
properties_placed scripts (script ∷ above) name =
    either_property scripts script above (property_at script (numbered (λ property. str_eq_ignore_ascii_case property.name name) (properties_in (slice_get scripts script)))) (first_property scripts above name) (property_placed scripts script (numbered (λ property. str_eq_ignore_ascii_case property.name name) (properties_in (slice_get scripts script))) (λ n p. numbered_there (λ property. str_eq_ignore_ascii_case property.name name) (properties_in (slice_get scripts script)) n p)) (properties_placed scripts above name)

-- ---- bodies
locals_fit : (now : Known) (ks : List (Option CoreType)) → HaveTypes now ks (map default_result ks)
locals_fit now [] = tt
locals_fit now (k ∷ ks) = (default_result_fits now k, locals_fit now ks)

module _ (scripts : List Script) (setting : Setting) (set : IsTypedSet setting.outline scripts) (sight : Sight) where
  abbrev now : Known
  now = known setting.outline setting.instances sight.arrays

  abbrev own : Option ℕ
  own = script_at setting.instances setting.self

  abbrev Finds : List Value → Option CoreType → Entered Body → Type 0
  Finds arguments result found = FoundFits (code_types setting.outline scripts) now setting.self arguments result found

  opened_by : (matched : Bool) (place : BodyPlace) (arguments : List Value) (function : Function) (result : Option CoreType) → matched ≡ true → Holds setting.outline scripts now own (body_of place arguments function) None result → Finds arguments result (cond matched (Opened (body_of place arguments function)) NothingThere)
  opened_by true place arguments function result e h = h
  opened_by false place arguments function result e h = absurd (cc)

  opened_fits : (place : BodyPlace) (arguments : List Value) (function : Function) (parameters : List CoreType) (result : Option CoreType) → function_at scripts place ≡ Some function → IsOn setting.outline own (script_of place) function.is_global → function.parameters ≡ parameters → function.result ≡ result → HaveTypes now (typed parameters) arguments → Finds arguments result (opened place arguments function)
  opened_fits place arguments function parameters result placed on takes gives h =
      let values : HaveTypes now (typed function.parameters) arguments = subst (λ ks. HaveTypes now (typed ks) arguments) (sym takes) h in
      opened_by (eqb (length arguments) (length function.parameters)) place arguments function result (same_length now function.parameters arguments values) (record { function = function; placed = placed; on = on; gives = gives; slots = types_joined now (typed function.parameters) function.locals arguments (map default_result function.locals) values (locals_fit now function.locals); waits = tt })

  -- on an instance of a script in whose line the function's stands
  is_on : (line : Option ℕ) (script : ℕ) (is_global : Bool) → line ≡ own → list_any (λ s. eqb s script) (lineage setting.outline line) ≡ true → IsOn setting.outline own script is_global
  is_on None script is_global e h = absurd (nothing_up (length setting.outline) setting.outline script h)
  is_on (Some c) script is_global e h = subst (λ o. IsOn setting.outline o script is_global) e h

  method_by : (native : Bool) (method : FoundMethod) (arguments : List Value) (is_global : Bool) (parameters : List CoreType) (result : Option CoreType) → method.function.is_native ≡ native → function_at scripts (OfState method.script method.state method.number) ≡ Some method.function → IsOn setting.outline own method.script method.function.is_global → MethodMeets setting.outline is_global parameters result (Some method) → HaveTypes now (typed parameters) arguments → Finds arguments result (cond native (NativeThere (native_at method)) (opened (OfState method.script method.state method.number) arguments method.function))
  method_by true method arguments is_global parameters result e placed on m h = m.3 e
  method_by false method arguments is_global parameters result e placed on m h =
      opened_fits (OfState method.script method.state method.number) arguments method.function parameters result placed on m.0 m.1 h

  method_fits : (o : Option FoundMethod) (line : List ℕ) (arguments : List Value) (is_global : Bool) (parameters : List CoreType) (result : Option CoreType) → IsPlaced scripts line o → ((script : ℕ) → list_any (λ s. eqb s script) line ≡ true → IsOn setting.outline own script is_global) → MethodMeets setting.outline is_global parameters result o → HaveTypes now (typed parameters) arguments → Finds arguments result (method_entered arguments o)
  method_fits None line arguments is_global parameters result p on m h = absurd m
  method_fits (Some method) line arguments is_global parameters result p on m h =
      method_by method.function.is_native method arguments is_global parameters result refl p.0 (subst (λ g. IsOn setting.outline own method.script g) (sym m.2) (on method.script p.1)) m h

  of_parent : (o : Option ℕ) (script top : ℕ) → IsOn setting.outline o script false → list_any (λ s. eqb s top) (lineage setting.outline (parent_in (slice_get setting.outline script))) ≡ true → IsOn setting.outline o top false
  of_parent None script top on h = on
  of_parent (Some c) script top on h =
      has_above setting.outline set.above (Some c) script top on (parent_above setting.outline set.above script top h)

  accessor_fits : (place : BodyPlace) (o : Option Function) (arguments : List Value) (parameters : List CoreType) (result : Option CoreType) → function_at scripts place ≡ o → IsOn setting.outline own (script_of place) false → AccessorMeets parameters result o → HaveTypes now (typed parameters) arguments → Finds arguments result (accessor_entered place arguments o)
  accessor_fits place None arguments parameters result placed on m h = absurd m
  accessor_fits place (Some function) arguments parameters result placed on m h =
      opened_fits place arguments function parameters result placed (subst (λ g. IsOn setting.outline own (script_of place) g) (sym m.2) on) m.0 m.1 h

  accessed : (P : Access → Option Function) (o : Option Property) (access : Access) → option_and_then (λ (found : Property). Some found.access) o ≡ Some access → option_and_then (λ (found : Property). P found.access) o ≡ P access
  accessed P None access e = absurd (cc)
  accessed P (Some property) access e = let same : property.access ≡ access = cc in ap P same

  get_by : (readable : Bool) (script variable : ℕ) (kind : CoreType) (result : Option CoreType) → readable ≡ true → IsOfOwn now setting.self script → result ≡ Some kind → IsVariable setting.outline script variable kind → Finds [] result (cond readable (ReadThere script variable) NothingThere)
  get_by true script variable kind result r i e v = (kind, i, v, e)
  get_by false script variable kind result r i e v = absurd (cc)

  get_fits : (o : Option (ℕ × ℕ × Access)) (result : Option CoreType) → IsPropertyPlaced scripts (lineage setting.outline own) o → GetMeets setting.outline result o → Finds [] result (get_entered o)
  get_fits None result p m = absurd m
  get_fits (Some (script, number, Auto variable is_read is_written)) result p m =
      get_by is_read script variable (m.1).0 result m.0 p.1 (m.1).1 (m.1).2
  get_fits (Some (script, number, Full read write)) result p m =
      accessor_fits (OfGet script number) read [] [] result (accessed reader_in (slice_get (properties_in (slice_get scripts script)) number) (Full read write) p.0) (is_on own script false refl p.1) m tt

  set_by : (writable : Bool) (script variable : ℕ) (kind : CoreType) (arguments : List Value) (result : Option CoreType) → writable ≡ true → IsOfOwn now setting.self script → result ≡ None → IsVariable setting.outline script variable kind → HaveTypes now (typed (kind ∷ [])) arguments → Finds arguments result (cond writable (WriteThere script variable) NothingThere)
  set_by true script variable kind [] result w i e v h = absurd h
  set_by true script variable kind (value ∷ more) result w i e v h = (kind, i, v, h.0, e)
  set_by false script variable kind arguments result w i e v h = absurd (cc)

  set_fits : (o : Option (ℕ × ℕ × Access)) (arguments : List Value) (parameters : List CoreType) (result : Option CoreType) → IsPropertyPlaced scripts (lineage setting.outline own) o → SetMeets setting.outline parameters result o → HaveTypes now (typed parameters) arguments → Finds arguments result (set_entered arguments o)
  set_fits None arguments parameters result p m h = absurd m
  set_fits (Some (script, number, Auto variable is_read is_written)) arguments parameters result p m h =
      set_by is_written script variable (m.2).0 arguments result m.0 p.1 m.1 (m.2).2 (subst (λ ks. HaveTypes now (typed ks) arguments) (m.2).1 h)
  set_fits (Some (script, number, Full read write)) arguments parameters result p m h =
      accessor_fits (OfSet script number) write arguments parameters result (accessed writer_in (slice_get (properties_in (slice_get scripts script)) number) (Full read write) p.0) (is_on own script false refl p.1) m h

  no_arguments : (parameters : List CoreType) (arguments : List Value) → parameters ≡ [] → HaveTypes now (typed parameters) arguments → arguments ≡ []
  no_arguments [] [] e h = refl
  no_arguments [] (v ∷ vs) e h = absurd h
  no_arguments (k ∷ ks) vs e h = absurd (cc)

  pub enter_fits : (way : Way) (arguments : List Value) (result : Option CoreType) → CallFits (code_types setting.outline scripts) now setting.self way arguments result → Finds arguments result (enter_code setting.outline scripts own sight.state way arguments)
  enter_fits (ByMethod name) arguments result c =
      method_fits (method_in scripts (lineage setting.outline own) sight.state name) (lineage setting.outline own) arguments false c.parameters result (found_placed scripts (lineage setting.outline own) sight.state name) (λ script h. is_on own script false refl h) (c.called sight.state) c.values
  enter_fits (ByParent script name) arguments result c =
      let line : List ℕ = lineage setting.outline (parent_in (slice_get setting.outline script)) in
      let called = c.called in
      method_fits (method_in scripts line sight.state name) line arguments false c.parameters result (found_placed scripts line sight.state name) (λ top h. of_parent own script top called.0 h) (called.1 sight.state) c.values
  enter_fits (ByGlobal library name) arguments result c =
      let line : List ℕ = lineage setting.outline (Some library) in
      let called = c.called in
      method_fits (first_method scripts line [] name) line arguments true c.parameters result (first_placed scripts line [] name) (λ top h. subst (λ o. IsOn setting.outline o top true) (sym called.0) refl) called.1 c.values
  enter_fits (ByGet name) arguments result c =
      let called = c.called in
      subst (λ vs. Finds vs result (get_entered (first_property scripts (lineage setting.outline own) name))) (sym (no_arguments c.parameters arguments called.0 c.values)) (get_fits (first_property scripts (lineage setting.outline own) name) result (properties_placed scripts (lineage setting.outline own) name) called.1)
  enter_fits (BySet name) arguments result c =
      set_fits (first_property scripts (lineage setting.outline own) name) arguments c.parameters result (properties_placed scripts (lineage setting.outline own) name) c.called c.values

-- ---- the engine
holds_stable : (outline : List ScriptShape) (scripts : List Script) (now then : Known) (own : Option ℕ) (body : Body) (awaited : Option (Option CoreType)) (result : Option CoreType) → Extends now then → Holds outline scripts now own body awaited result → Holds outline scripts then own body awaited result
holds_stable outline scripts now then at body awaited result e h =
    record { function = h.function; placed = h.placed; on = h.on; gives = h.gives; slots = types_moved now then e (slot_kinds h.function) body.slots h.slots; waits = h.waits }

-- an outline that equals that of the setting
enter_in : (outline : List ScriptShape) (scripts : List Script) (setting : Setting) (sight : Sight) (way : Way) (arguments : List Value) (result : Option CoreType) → setting.outline ≡ outline → IsTypedSet outline scripts → CallFits (code_types outline scripts) (seen outline setting sight) setting.self way arguments result → FoundFits (code_types outline scripts) (seen outline setting sight) setting.self arguments result (enter_code outline scripts (script_at setting.instances setting.self) sight.state way arguments)
enter_in outline scripts setting sight way arguments result e =
    subst (λ o. IsTypedSet o scripts → CallFits (code_types o scripts) (seen o setting sight) setting.self way arguments result → FoundFits (code_types o scripts) (seen o setting sight) setting.self arguments result (enter_code o scripts (script_at setting.instances setting.self) sight.state way arguments)) e (λ set c. enter_fits scripts setting set sight way arguments result c)

run_in : (outline : List ScriptShape) (scripts : List Script) (setting : Setting) (sight : Sight) (body : Body) (awaited : Option (Option CoreType)) (result : Option CoreType) (given : Option Value) → setting.outline ≡ outline → IsTypedSet outline scripts → SightFits outline setting sight → BodyHolds (code_types outline scripts) (seen outline setting sight) setting.self body awaited result → IsReply (seen outline setting sight) awaited given → StopFits (code_types outline scripts) setting sight result ((code_engine outline scripts).run setting body given sight)
run_in outline scripts setting sight body awaited result given e =
    subst (λ o. IsTypedSet o scripts → SightFits o setting sight → BodyHolds (code_types o scripts) (seen o setting sight) setting.self body awaited result → IsReply (seen o setting sight) awaited given → StopFits (code_types o scripts) setting sight result ((code_engine o scripts).run setting body given sight)) e (λ set s h r. run_code_fits scripts setting set sight body awaited result given s h r)

pub code_keeps : (outline : List ScriptShape) (scripts : List Script) → IsTypedSet outline scripts → KeepsFit (code_types outline scripts) (code_engine outline scripts)
code_keeps outline scripts set = record {
  stable = holds_stable outline scripts;
  enter = λ setting sight way arguments result s c. enter_in outline scripts setting sight way arguments result s.of_set set c;
  run = λ setting sight body awaited result given s h r. run_in outline scripts setting sight body awaited result given s.of_set set s h r;
}
