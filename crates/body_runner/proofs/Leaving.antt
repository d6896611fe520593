-- What instructions that call or return ask for, in the terms of the definitions.
use Rattle.std.proofs.Common.{◌≡◌, ℕ, Bool, true, false, cond, List, [], ◌∷◌, map, Option, Some, None, refl, sym, ap, subst, ◌∙◌}
use Rattle.std.specs.declared.alloc.Global.{Global}
use Rattle.std.specs.declared.vec.Vec.{Vec}
use Rattle.core_tree.specs.declared.value.Value.{Value}
use Rattle.core_tree.specs.declared.value.Value.TheVariants as values
use Rattle.core_tree.specs.Values.{default_result}
use Rattle.papy_base.specs.declared.faults.StackFault.{StackFault}
use Rattle.papy_base.specs.declared.faults.StackFault.TheVariants.{FrameLimit, NoneCall, NoneProperty}
use Rattle.script_meaning.specs.Requests.{Act, Reply, Request, Method, ParentMethod, GlobalFunction, GlobalNative, Get, Set, Return, Question, Asks, faulted, framed, get_of, method_of, set_of}
use Rattle.script_meaning.specs.Values as meant
use Rattle.code_meaning.specs.Execution.{Step as Meant, Stops, ask, asked, executed, next, settled, static_request}
use Rattle.code_meaning.specs.Code as op
use Rattle.code_meaning.specs.LookUp.{FoundMethod, first_method}
use Rattle.code_meaning.specs.Operands as code
use Rattle.loaded_code.specs.Plain.{instruction_of, operand_of}
use Rattle.loaded_code.specs.declared.instruction.LoadedInstruction.{LoadedInstruction}
use Rattle.loaded_code.specs.declared.instruction.LoadedInstruction.TheVariants as loaded
use Rattle.loaded_code.specs.declared.operand.Operand.{Operand}
use Rattle.loaded_code.specs.declared.script.MethodPlace.{MethodPlace}
use Rattle.body_runner.specs.declared.body.Home.{Home}
use Rattle.body_runner.specs.declared.body.Inner.{Inner}
use Rattle.body_runner.specs.declared.calls.Event.{Event}
use Rattle.body_runner.specs.declared.calls.Event.TheVariants as events
use Rattle.body_runner.specs.declared.frame.Call.{Call}
use Rattle.body_runner.specs.declared.frame.CallWay.TheVariants as ways
use Rattle.body_runner.specs.Bodies.{home_of, inner_of}
use Rattle.body_runner.specs.Leaving.{is_native_in, way_asked, way_of, way_told, IsFunctionAt, IsRequest, Leaves, Makes, MakesOrRefuses, Refuses}
use Rattle.body_runner.specs.Operands.{kind_of, worth}
use Rattle.body_runner.specs.Settings.{method_at}
use Rattle.body_runner.specs.Sights.{IsThere, Rest}
use Rattle.body_runner.specs.Values.{instance_in}
use Rattle.body_runner.proofs.Kept.{nothing_kept, same_kept}
use Rattle.body_runner.proofs.Meaning.{inner_same, instance_same, noted_same, type_meant, worth_meant}
use Rattle.body_runner.proofs.Steps.{settles}

-- no number at all
pub is_none : (o p : Option ℕ) → ((n : ℕ) → o ≡ Some n → ⊥) → o ≡ p → ◌≡◌ {A = Option ℕ} None p
is_none None p not e = e
is_none (Some n) p not e = absurd (not n refl)

module _ (home : Home) (old new : Inner) where
  abbrev within : Rest → code.Inner
  within rest = inner_of home old rest

  abbrev means : Rest → Operand → Value
  means rest o = code.worth (home_of home) (within rest) (operand_of o)

  -- what the instruction comes to
  abbrev Runs : LoadedInstruction → (ℕ → Rest → Meant) → Type 0
  Runs i to = (at : ℕ) (rest : Rest) → executed (home_of home) at (instruction_of i) (within rest) ≡ to at rest

  arguments_there : (rest : Rest) (more : List Operand) → map (worth home old) more ≡ map (code.worth (home_of home) (within rest)) (map operand_of more)
  arguments_there rest [] = refl
  arguments_there rest (o ∷ more) =
      ap (λ v. v ∷ map (worth home old) more) (worth_meant home old rest o) ∙ ap (λ vs. means rest o ∷ vs) (arguments_there rest more)

  target_there : (rest : Rest) (o : Operand) → instance_in (worth home old o) ≡ meant.instance_of (means rest o)
  target_there rest o = instance_same (worth home old o) ∙ ap meant.instance_of (worth_meant home old rest o)

  -- ---- refused
  pub refused : (there : IsThere home.instance old.store.now.instances) (i : LoadedInstruction) (to : Operand) (fault : StackFault) (event : Event) → Runs i (λ at rest. settled (home_of home) at (operand_of to) (code.default_at (home_of home) (operand_of to), Some fault) (within rest)) → Refuses home old new to fault event → Leaves home i event old new
  refused there i to fault event form r =
      let step = settles home i to (default_result (kind_of home to)) (Some fault) old new there (λ at rest. form at rest ∙ ap (λ k. settled (home_of home) at (operand_of to) (default_result k, Some fault) (within rest)) (sym (type_meant home to))) r.stored in
      subst (λ (e : Event). Leaves home i e old new) (sym r.event_is) (record { means = step.means; kept = step.kept })

  -- ---- called
  made_by : (i : LoadedInstruction) (request : Request) (call : Call) (event : Event) → way_of home.script i ≡ Some call.way → way_told home.script i ≡ way_asked request → call.kept ≡ None → IsRequest home.instance request call.instance call.arguments.items → Runs i (λ at rest. Stops request at (within rest)) → Makes old new call event → Leaves home i event old new
  made_by i request call event way told kept is form m =
      subst (λ (e : Event). Leaves home i e old new) (sym m.event_is) (record {
        means = record {
          request = request;
          way = way;
          told = told;
          kept = kept;
          is_request = is;
          stops = λ at rest. form at rest ∙ ap (Stops request at) (sym (inner_same home old new rest m.nothing));
        };
        kept = same_kept home old new m.nothing.instances m.nothing.loans;
      })

  framed_by : (room : Bool) (at : ℕ) (to : Operand) (request : Request) (rest : Rest) → asked (home_of home) at (Some (operand_of to)) (within rest) (cond room (Act request) (Reply (code.default_at (home_of home) (operand_of to)) (faulted (home_of home).setting (code.place_of (home_of home) at) FrameLimit (within rest).sight))) ≡ cond room (Stops request at (within rest)) (settled (home_of home) at (operand_of to) (code.default_at (home_of home) (operand_of to), Some FrameLimit) (within rest))
  framed_by true at to request rest = refl
  framed_by false at to request rest = refl

  by_room : (there : IsThere home.instance old.store.now.instances) (room : Bool) (i : LoadedInstruction) (to : Operand) (request : Request) (call : Call) (event : Event) → way_of home.script i ≡ Some call.way → way_told home.script i ≡ way_asked request → call.kept ≡ None → IsRequest home.instance request call.instance call.arguments.items → Runs i (λ at rest. cond room (Stops request at (within rest)) (settled (home_of home) at (operand_of to) (code.default_at (home_of home) (operand_of to), Some FrameLimit) (within rest))) → MakesOrRefuses room home old new to call event → Leaves home i event old new
  by_room there true i to request call event way told kept is form m = made_by i request call event way told kept is form m
  by_room there false i to request call event way told kept is form m = refused there i to FrameLimit event form m

  -- a request that needs a frame
  asks : (there : IsThere home.instance old.store.now.instances) (i : LoadedInstruction) (to : Operand) (request : Request) (call : Call) (event : Event) → way_of home.script i ≡ Some call.way → way_told home.script i ≡ way_asked request → call.kept ≡ None → IsRequest home.instance request call.instance call.arguments.items → Runs i (λ at rest. asked (home_of home) at (Some (operand_of to)) (within rest) (framed (home_of home).setting (code.place_of (home_of home) at) request (code.default_at (home_of home) (operand_of to)) (within rest).sight)) → MakesOrRefuses home.has_room home old new to call event → Leaves home i event old new
  asks there i to request call event way told kept is form m =
      by_room there home.has_room i to request call event way told kept is (λ at rest. form at rest ∙ framed_by home.has_room at to request rest) m

  -- ---- methods
  abbrev put_question : ℕ → Operand → Rest → Question → Meant
  put_question at to rest question = ask (home_of home) at (Some (operand_of to)) question (within rest)

  method_same : (at : ℕ) (rest : Rest) (object to : Operand) (target : Option ℕ) (text : List ℕ) (more : Vec Operand Global) → target ≡ instance_in (worth home old object) → executed (home_of home) at (op.CallMethod text (operand_of object) (operand_of to) (map operand_of more.items)) (within rest) ≡ put_question at to rest (method_of target text (map (worth home old) more.items) (code.default_at (home_of home) (operand_of to)))
  method_same at rest object to target text more e =
      ap (λ (t : Option ℕ). put_question at to rest (method_of t text (map (code.worth (home_of home) (within rest)) (map operand_of more.items)) (code.default_at (home_of home) (operand_of to)))) (sym (e ∙ target_there rest object)) ∙ ap (λ vs. put_question at to rest (method_of target text vs (code.default_at (home_of home) (operand_of to)))) (sym (arguments_there rest more.items))

  pub none_method : (there : IsThere home.instance old.store.now.instances) (number : Option ℕ) (object to : Operand) (event : Event) → ◌≡◌ {A = Option ℕ} None (instance_in (worth home old object)) → Refuses home old new to NoneCall event → (text : List ℕ) (more : Vec Operand Global) → Leaves home (loaded.CallMethod text number object to more) event old new
  none_method there number object to event e r text more =
      refused there (loaded.CallMethod text number object to more) to NoneCall event (λ at rest. method_same at rest object to None text more e) r

  pub some_method : (there : IsThere home.instance old.store.now.instances) (number target : ℕ) (object to : Operand) (call : Call) (vector : Vec Value Global) (event : Event) → Some target ≡ instance_in (worth home old object) → (more : Vec Operand Global) → call ≡ record { instance = Some target; way = ways.Method number; arguments = vector; kept = None } → vector.items ≡ map (worth home old) more.items → MakesOrRefuses home.has_room home old new to call event → (text : List ℕ) → Leaves home (loaded.CallMethod text (Some number) object to more) event old new
  some_method there number target object to call vector event e more is arguments m text =
      asks there (loaded.CallMethod text (Some number) object to more) to (Method target text (map (worth home old) more.items) (code.default_at (home_of home) (operand_of to))) call event (ap (λ (c : Call). Some c.way) (sym is)) refl (ap (λ (c : Call). c.kept) is) (ap (λ (c : Call). c.instance) is, ap (λ (c : Call). c.arguments.items) is ∙ arguments) (λ at rest. method_same at rest object to (Some target) text more e) m

  -- ---- the parent's methods
  pub parent_method : (there : IsThere home.instance old.store.now.instances) (number : ℕ) (to : Operand) (call : Call) (vector : Vec Value Global) (event : Event) (more : Vec Operand Global) → call ≡ record { instance = home.instance; way = ways.Parent home.script number; arguments = vector; kept = None } → vector.items ≡ map (worth home old) more.items → MakesOrRefuses home.has_room home old new to call event → (text : List ℕ) → Leaves home (loaded.CallParent text (Some number) to more) event old new
  parent_method there number to call vector event more is arguments m text =
      asks there (loaded.CallParent text (Some number) to more) to (ParentMethod home.script text (map (worth home old) more.items) (code.default_at (home_of home) (operand_of to))) call event (ap (λ (c : Call). Some c.way) (sym is)) refl (ap (λ (c : Call). c.kept) is) (ap (λ (c : Call). c.instance) is, ap (λ (c : Call). c.arguments.items) is ∙ arguments) (λ at rest. ap (λ vs. put_question at to rest (Asks (ParentMethod home.script text vs (code.default_at (home_of home) (operand_of to))))) (sym (arguments_there rest more.items))) m

  -- ---- global functions
  static_by : (script : ℕ) (text : List ℕ) (arguments : List Value) (otherwise : Value) (found : FoundMethod) (native : Bool) → found.function.is_native ≡ native → static_request script text arguments otherwise (Some found) ≡ cond native (GlobalNative (record { script = found.script; place = found.number }) arguments) (GlobalFunction script text arguments otherwise)
  static_by script text arguments otherwise found native e =
      ap (λ b. cond b (GlobalNative (record { script = found.script; place = found.number }) arguments) (GlobalFunction script text arguments otherwise)) e

  static_same : (at : ℕ) (rest : Rest) (script : ℕ) (text : List ℕ) (to : Operand) (more : Vec Operand Global) (place : MethodPlace) (native : Bool) → IsFunctionAt home.turn.now.setting.now.loaded script text place → native ≡ is_native_in (method_at home.turn.now.setting.now.loaded.scripts place) → executed (home_of home) at (op.CallStatic script text (operand_of to) (map operand_of more.items)) (within rest) ≡ put_question at to rest (Asks (cond native (GlobalNative (record { script = place.script; place = place.place }) (map (worth home old) more.items)) (GlobalFunction script text (map (worth home old) more.items) (code.default_at (home_of home) (operand_of to)))))
  static_same at rest script text to more place native f e =
      ap (λ vs. put_question at to rest (Asks (static_request script text vs (code.default_at (home_of home) (operand_of to)) (first_method (home_of home).scripts (meant.lineage (home_of home).setting.outline (Some script)) [] text)))) (sym (arguments_there rest more.items))
      ∙ (ap (λ (o : Option FoundMethod). put_question at to rest (Asks (static_request script text (map (worth home old) more.items) (code.default_at (home_of home) (operand_of to)) o))) f.is
      ∙ (ap (λ (r : Request). put_question at to rest (Asks r)) (static_by script text (map (worth home old) more.items) (code.default_at (home_of home) (operand_of to)) f.found native (f.native_is ∙ sym e))
      ∙ (ap (λ n. put_question at to rest (Asks (cond native (GlobalNative (record { script = n; place = f.found.number }) (map (worth home old) more.items)) (GlobalFunction script text (map (worth home old) more.items) (code.default_at (home_of home) (operand_of to)))))) f.script_is
      ∙ ap (λ n. put_question at to rest (Asks (cond native (GlobalNative (record { script = place.script; place = n }) (map (worth home old) more.items)) (GlobalFunction script text (map (worth home old) more.items) (code.default_at (home_of home) (operand_of to)))))) f.number_is)))

  pub static_call : (there : IsThere home.instance old.store.now.instances) (place : MethodPlace) (to : Operand) (call : Call) (vector : Vec Value Global) (event : Event) (more : Vec Operand Global) → call ≡ record { instance = None; way = ways.Global place; arguments = vector; kept = None } → vector.items ≡ map (worth home old) more.items → false ≡ is_native_in (method_at home.turn.now.setting.now.loaded.scripts place) → MakesOrRefuses home.has_room home old new to call event → (script : ℕ) (text : List ℕ) → IsFunctionAt home.turn.now.setting.now.loaded script text place → Leaves home (loaded.CallStatic script text (Some place) to more) event old new
  static_call there place to call vector event more is arguments native m script text f =
      asks there (loaded.CallStatic script text (Some place) to more) to (GlobalFunction script text (map (worth home old) more.items) (code.default_at (home_of home) (operand_of to))) call event (ap (λ (c : Call). Some c.way) (sym is)) refl (ap (λ (c : Call). c.kept) is) (ap (λ (c : Call). c.instance) is, ap (λ (c : Call). c.arguments.items) is ∙ arguments) (λ at rest. static_same at rest script text to more place false f native) m

  -- ---- properties
  get_same : (at : ℕ) (rest : Rest) (object to : Operand) (target : Option ℕ) (text : List ℕ) → target ≡ instance_in (worth home old object) → executed (home_of home) at (op.PropGet text (operand_of object) (operand_of to)) (within rest) ≡ put_question at to rest (get_of target text (code.default_at (home_of home) (operand_of to)))
  get_same at rest object to target text e =
      ap (λ (t : Option ℕ). put_question at to rest (get_of t text (code.default_at (home_of home) (operand_of to)))) (sym (e ∙ target_there rest object))

  pub none_get : (there : IsThere home.instance old.store.now.instances) (number : Option ℕ) (object to : Operand) (event : Event) → ◌≡◌ {A = Option ℕ} None (instance_in (worth home old object)) → Refuses home old new to NoneProperty event → (text : List ℕ) → Leaves home (loaded.PropGet text number object to) event old new
  none_get there number object to event e r text =
      refused there (loaded.PropGet text number object to) to NoneProperty event (λ at rest. get_same at rest object to None text e) r

  pub some_get : (there : IsThere home.instance old.store.now.instances) (number target : ℕ) (object to : Operand) (call : Call) (vector : Vec Value Global) (event : Event) → Some target ≡ instance_in (worth home old object) → call ≡ record { instance = Some target; way = ways.Get number; arguments = vector; kept = None } → ◌≡◌ {A = List Value} vector.items [] → MakesOrRefuses home.has_room home old new to call event → (text : List ℕ) → Leaves home (loaded.PropGet text (Some number) object to) event old new
  some_get there number target object to call vector event e is arguments m text =
      asks there (loaded.PropGet text (Some number) object to) to (Get target text (code.default_at (home_of home) (operand_of to))) call event (ap (λ (c : Call). Some c.way) (sym is)) refl (ap (λ (c : Call). c.kept) is) (ap (λ (c : Call). c.instance) is, ap (λ (c : Call). c.arguments.items) is ∙ arguments) (λ at rest. get_same at rest object to (Some target) text e) m

-- ---- where nothing is stored
module _ (home : Home) (inner : Inner) where
  abbrev inside : Rest → code.Inner
  inside rest = inner_of home inner rest

  arguments_here : (rest : Rest) (more : List Operand) → map (worth home inner) more ≡ map (code.worth (home_of home) (inside rest)) (map operand_of more)
  arguments_here rest more = arguments_there home inner inner rest more

  pub static_native : (place : MethodPlace) (to : Operand) (arguments : Vec Value Global) (more : Vec Operand Global) → arguments.items ≡ map (worth home inner) more.items → true ≡ is_native_in (method_at home.turn.now.setting.now.loaded.scripts place) → (script : ℕ) (text : List ℕ) → IsFunctionAt home.turn.now.setting.now.loaded script text place → Leaves home (loaded.CallStatic script text (Some place) to more) (events.Native place arguments) inner inner
  static_native place to arguments more e native script text f = record {
    means = λ at rest. static_same home inner inner at rest script text to more place true f native ∙ ap (λ vs. ask (home_of home) at (Some (operand_of to)) (Asks (GlobalNative (record { script = place.script; place = place.place }) vs)) (inside rest)) (sym e);
    kept = nothing_kept home inner;
  }

  pub returned : (operand : Operand) (value : Value) → value ≡ worth home inner operand → Leaves home (loaded.Return operand) (events.Returned value) inner inner
  returned operand value e = record {
    means = λ at rest. ap (λ (v : Value). Stops (Return v) at (inside rest)) (sym (e ∙ worth_meant home inner rest operand));
    kept = nothing_kept home inner;
  }

  abbrev put_set : ℕ → Rest → Option ℕ → List ℕ → Value → Meant
  put_set at rest target text value = ask (home_of home) at None (set_of target text value) (inside rest)

  set_same : (at : ℕ) (rest : Rest) (object value : Operand) (target : Option ℕ) (text : List ℕ) → target ≡ instance_in (worth home inner object) → executed (home_of home) at (op.PropSet text (operand_of object) (operand_of value)) (inside rest) ≡ put_set at rest target text (worth home inner value)
  set_same at rest object value target text e =
      ap (λ (t : Option ℕ). put_set at rest t text (code.worth (home_of home) (inside rest) (operand_of value))) (sym (e ∙ target_there home inner inner rest object)) ∙ ap (λ (v : Value). put_set at rest target text v) (sym (worth_meant home inner rest value))

  pub none_set : (number : Option ℕ) (object value : Operand) → ◌≡◌ {A = Option ℕ} None (instance_in (worth home inner object)) → (text : List ℕ) → Leaves home (loaded.PropSet text number object value) (events.Refused NoneProperty) inner inner
  none_set number object value e text = record {
    means = λ at rest. set_same at rest object value None text e ∙ ap next (noted_same home inner rest at (Some NoneProperty));
    kept = nothing_kept home inner;
  }

  set_framed : (room : Bool) (at : ℕ) (rest : Rest) (request : Request) → asked (home_of home) at None (inside rest) (cond room (Act request) (Reply values.NoneValue (faulted (home_of home).setting (code.place_of (home_of home) at) FrameLimit (inside rest).sight))) ≡ cond room (Stops request at (inside rest)) (next (code.noted (home_of home) at (Some FrameLimit) (inside rest)))
  set_framed true at rest request = refl
  set_framed false at rest request = refl

  abbrev set_ends : Bool → ℕ → Rest → Request → Meant
  set_ends room at rest request = cond room (Stops request at (inside rest)) (next (code.noted (home_of home) at (Some FrameLimit) (inside rest)))

  set_runs : (at : ℕ) (rest : Rest) (object value : Operand) (target : ℕ) (text : List ℕ) (room : Bool) → home.has_room ≡ room → Some target ≡ instance_in (worth home inner object) → executed (home_of home) at (op.PropSet text (operand_of object) (operand_of value)) (inside rest) ≡ set_ends room at rest (Set target text (worth home inner value))
  set_runs at rest object value target text room r e =
      set_same at rest object value (Some target) text e ∙ (set_framed home.has_room at rest (Set target text (worth home inner value)) ∙ ap (λ b. set_ends b at rest (Set target text (worth home inner value))) r)

  pub no_room_set : (number : Option ℕ) (target : ℕ) (object value : Operand) → Some target ≡ instance_in (worth home inner object) → home.has_room ≡ false → (text : List ℕ) → Leaves home (loaded.PropSet text number object value) (events.Refused FrameLimit) inner inner
  no_room_set number target object value e room text = record {
    means = λ at rest. set_runs at rest object value target text false room e ∙ ap next (noted_same home inner rest at (Some FrameLimit));
    kept = nothing_kept home inner;
  }

  pub some_set : (number target : ℕ) (object value : Operand) (call : Call) (vector : Vec Value Global) → Some target ≡ instance_in (worth home inner object) → home.has_room ≡ true → call ≡ record { instance = Some target; way = ways.Set number; arguments = vector; kept = None } → vector.items ≡ worth home inner value ∷ [] → (text : List ℕ) → Leaves home (loaded.PropSet text (Some number) object value) (events.Called call) inner inner
  some_set number target object value call vector e room is arguments text = record {
    means = record {
      request = Set target text (worth home inner value);
      way = ap (λ (c : Call). Some c.way) (sym is);
      told = refl;
      kept = ap (λ (c : Call). c.kept) is;
      is_request = (ap (λ (c : Call). c.instance) is, ap (λ (c : Call). c.arguments.items) is ∙ arguments);
      stops = λ at rest. set_runs at rest object value target text true room e;
    };
    kept = nothing_kept home inner;
  }
