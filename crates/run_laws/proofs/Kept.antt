-- Runs of engines that keep what fits: in each state, whichever stack has its turn goes on with what fits.
use Rattle.std.proofs.Common.{◌≡◌, ℕ, zero, suc, pred, ◌<◌, Bool, true, false, cond, List, [], ◌∷◌, map, length, ℤ, Option, Some, None, refl, sym, ap, subst, ◌∙◌, arith}
use Rattle.std.specs.Prelude.{slice_get, slice_index_or, slice_set}
use Rattle.std.specs.List.{filter, list_any, AllByRecursion}
use Rattle.std.proofs.lemmas.List.{set-get_or}
use Rattle.std.proofs.Math.Dec.{eqb}
use Rattle.std.proofs.Math.Seq.{map-set_same}
use Rattle.core_tree.specs.declared.DeviceKind.{DeviceKind}
use Rattle.core_tree.specs.declared.core_type.CoreType.{CoreType}
use Rattle.core_tree.specs.declared.core_type.CoreType.TheVariants as kinds
use Rattle.core_tree.specs.declared.expression.FunctionPlace.{FunctionPlace}
use Rattle.core_tree.specs.declared.scene.BoundNative.{BoundNative}
use Rattle.core_tree.specs.declared.scene_tree.Binding.{Binding}
use Rattle.core_tree.specs.declared.scene_tree.Binding.TheVariants as bindings
use Rattle.core_tree.specs.declared.value.Value.{Value}
use Rattle.core_tree.specs.declared.value.Value.TheVariants as values
use Rattle.core_tree.specs.Outlines.{ScriptShape}
use Rattle.core_tree.specs.Scenes.{SceneShape, InstanceShape, CallShape}
use Rattle.script_meaning.specs.First.{initial_in, initial_variables, variables_set, first_instance, first_state}
use Rattle.run_laws.specs.Fits.{Known, known, HasType, IsResult, HaveTypes, typed, Extends, variable_kinds, VariablesFit, ArrayFits, script_in, script_at, IsThere, is_native_at, IsOfDevice, BindingFits, NativesFit, SightFits, IsReply, Types, BodyHolds, CallFits, by_types, InnermostFits, TurnFits, NextTurnFits}
use Rattle.run_laws.specs.Holding as holding
use Rattle.run_laws.specs.Holding.{Stored, stored, known_in, BodyStops, EnteredStops, StackStops, TurnStops, FrameThere, StackThere, InstancesThere}
use Rattle.run_laws.specs.Keeps.{seen, IsVariable, IsOfOwn, RequestFits, StopFits, FoundFits, KeepsFit, first_known, SetFits, InstanceFits, StartFits, SceneFits}
use Rattle.script_meaning.specs.Locks.{let_go, goes_to_wait, rests, same_instance, moves, waited_for, becomes_owner, takes}
use Rattle.script_meaning.specs.Requests.{Sight, Setting, Request, Method, ParentMethod, GlobalFunction, GlobalNative, Get, Set, LoopPass, Return, binding_in, result_of, is_prompt, latency_of, reply_as, traced, performed, performed_at, first_argument}
use Rattle.script_meaning.specs.Stacks.{Way, ByMethod, Frame, Stack, Done, ToEnter, Running, Entered, Opened, NativeThere, ReadThere, WriteThere, NothingThere, Stop, Engine, State, stack_at, inner_instance}
use Rattle.script_meaning.specs.Turns.{sight_of, instances_after, with_sight, Turn, After, called, answered, returned, native_done, acted, past_pass, run_on, stopped, ran, native_entered, entered, instance_script, turn_of, after_turn, turned, call_started, calls_started, is_due, not_due, all_wait, awoken, begun, chosen, has_ended, chosen_turned, step, states_from}
use Rattle.script_meaning.specs.Values.{upward, lineage}
use Rattle.script_meaning.specs.World.{World, Instance, Variables, title, no_instance, instance_at, variable_of, with_variable}
use Rattle.run_laws.proofs.Typing.{all_so, all_at, all_or, all_written, all_more, extends_self, extends_on, result_moved, types_moved, variables_moved, variable_fits, variable_written, written_scripts}

-- ---- what a world stores
same_waiting : (k : ℕ) (o : Option ℕ) (w : World) → stored (goes_to_wait k o w) ≡ stored w
same_waiting k None w = refl
same_waiting k (Some i) w = refl

same_rest : (k latency : ℕ) (o : Option ℕ) (w : World) → stored (rests k latency o w) ≡ stored w
same_rest k zero o w = same_waiting k o (let_go k w)
same_rest k (suc latency) o w = refl

same_move_by : (same : Bool) (k : ℕ) (to : Option ℕ) (w : World) → stored (cond same w (goes_to_wait k to (let_go k w))) ≡ stored w
same_move_by true k to w = refl
same_move_by false k to w = same_waiting k to (let_go k w)

same_move : (k : ℕ) (from to : Option ℕ) (w : World) → stored (moves k from to w) ≡ stored w
same_move k from to w = same_move_by (same_instance from to) k to w

same_owner : (k : ℕ) (o : Option ℕ) (w : World) → stored (becomes_owner k o w) ≡ stored w
same_owner k None w = refl
same_owner k (Some i) w = refl

same_taken : (k : ℕ) (w : World) → stored (takes k w) ≡ stored w
same_taken k w = same_owner k (waited_for k w.waiters) w

same_all : {Body : Type 0} (stacks : List (Stack Body)) (sleepers : List (ℕ × ℕ)) (w : World) → stored (all_wait stacks sleepers w) ≡ stored w
same_all stacks [] w = refl
same_all stacks (first ∷ rest) w =
    same_all stacks rest (goes_to_wait first.0 (inner_instance (stack_at stacks first.0)) w) ∙ same_waiting first.0 (inner_instance (stack_at stacks first.0)) w

-- ---- natives
abbrev pub SameSight : Sight → Sight → Type 0
SameSight a b = (a.variables ≡ b.variables) × (a.state ≡ b.state) × (a.arrays ≡ b.arrays)

traced_same : (setting : Setting) (value : Value) (sight : Sight) → SameSight (traced setting value sight) sight
traced_same setting (values.Text text) sight = (refl, refl, refl)
traced_same setting values.NoneValue sight = (refl, refl, refl)
traced_same setting (values.Int n) sight = (refl, refl, refl)
traced_same setting (values.Bool b) sight = (refl, refl, refl)
traced_same setting (values.Instance n) sight = (refl, refl, refl)
traced_same setting (values.Array n) sight = (refl, refl, refl)

pub performed_same : (setting : Setting) (binding : Option Binding) (result : Option CoreType) (arguments : List Value) (sight : Sight) → SameSight (performed setting binding result arguments sight).1 sight
performed_same setting None result arguments sight = (refl, refl, refl)
performed_same setting (Some (bindings.Trace latency)) result arguments sight = traced_same setting (first_argument arguments) sight
performed_same setting (Some bindings.PromptTrace) result arguments sight = traced_same setting (first_argument arguments) sight
performed_same setting (Some (bindings.Device device latency)) result arguments sight = (refl, refl, refl)
performed_same setting (Some (bindings.PromptDevice device)) result arguments sight = (refl, refl, refl)
performed_same setting (Some bindings.Sleep) result arguments sight = (refl, refl, refl)

device_reply : (known : Known) (result : Option CoreType) (reply : ℤ) → IsOfDevice result → IsResult known result (reply_as result reply)
device_reply known None reply h = refl
device_reply known (Some kinds.Int) reply h = refl
device_reply known (Some kinds.Bool) reply h = refl
device_reply known (Some kinds.Text) reply h = absurd h
device_reply known (Some (kinds.Script s)) reply h = absurd h
device_reply known (Some kinds.IntArray) reply h = absurd h
device_reply known (Some kinds.BoolArray) reply h = absurd h
device_reply known (Some kinds.TextArray) reply h = absurd h
device_reply known (Some (kinds.ScriptArray s)) reply h = absurd h

no_reply : (known : Known) (result : Option CoreType) → result ≡ None → IsResult known result values.NoneValue
no_reply known result e = subst (λ r. IsResult known r values.NoneValue) (sym e) refl

performed_by : (known : Known) (setting : Setting) (binding : Option Binding) (result : Option CoreType) (arguments : List Value) (sight : Sight) → BindingFits binding result → IsResult known result (performed setting binding result arguments sight).0
performed_by known setting None result arguments sight h = no_reply known result h
performed_by known setting (Some (bindings.Trace latency)) result arguments sight h = no_reply known result h
performed_by known setting (Some bindings.PromptTrace) result arguments sight h = no_reply known result h
performed_by known setting (Some (bindings.Device device latency)) result arguments sight h = device_reply known result _ h
performed_by known setting (Some (bindings.PromptDevice device)) result arguments sight h = device_reply known result _ h
performed_by known setting (Some bindings.Sleep) result arguments sight h = no_reply known result h

-- what a native gives is of the type of its result
pub performed_fits : (known : Known) (outline : List ScriptShape) (setting : Setting) (at : FunctionPlace) (arguments : List Value) (sight : Sight) → setting.outline ≡ outline → NativesFit outline setting.natives → is_native_at outline at ≡ true → IsResult known (result_of outline at) (performed_at setting at arguments sight).0
performed_fits known outline setting at arguments sight same natives native =
    subst (λ o. IsResult known (result_of outline at) (performed setting (binding_in setting.natives at) (result_of o at) arguments sight).0) (sym same) (performed_by known setting (binding_in setting.natives at) (result_of outline at) arguments sight (natives at native))

-- ---- lists of instances
no_scripts : (left : ℕ) (outline : List ScriptShape) → upward left outline None ≡ []
no_scripts zero outline = refl
no_scripts (suc left) outline = refl

title_at : (is : List Instance) (i : ℕ) → i < length (map title is) → slice_get (map title is) i ≡ Some (title (slice_index_or is i no_instance))
title_at [] i h = absurd (omega arith)
title_at (x ∷ is) zero h = refl
title_at (x ∷ is) (suc i) h = let below : i < length (map title is) = omega arith in title_at is i below

within : (is : List Instance) (i : ℕ) → i < length (map title is) → i < length is
within [] i h = absurd (omega arith)
within (x ∷ is) zero h = omega arith
within (x ∷ is) (suc i) h = let below : i < length (map title is) = omega arith in let w = within is i below in omega (arith, w)

module _ {Body : Type 0} (types : Types Body) where
  abbrev pub there : Stored → Known
  there s = known_in types.outline s

  abbrev InstanceKept : Known → Instance → Type 0
  InstanceKept known instance = holding.InstanceKept types.outline known instance

  abbrev StoredFits : Stored → Type 0
  StoredFits s = holding.StoredFits types.outline s

  abbrev Below : Known → Option CoreType → List (Frame Body) → Type 0
  Below known given frames = holding.FramesFit types known given frames

  abbrev StackFits : Known → Stack Body → Type 0
  StackFits known stack = holding.StackFits types known stack

  abbrev StateHolds : Known → State Body → Type 0
  StateHolds first state = holding.StateHolds types first state

  -- ---- the instances of frames
  frames_there : (known : Known) (given : Option CoreType) (frames : List (Frame Body)) → Below known given frames → AllByRecursion (FrameThere known.instances) frames
  frames_there known given [] h = tt
  frames_there known given (frame ∷ below) h = (h.1, frames_there known h.0 below h.3)

  stack_there : (known : Known) (stack : Stack Body) → StackFits known stack → StackThere known.instances stack
  stack_there known Done h = tt
  stack_there known (ToEnter instance way arguments below) h = ((h.1).there, frames_there known h.0 below h.2)
  stack_there known (Running innermost reply below) h = (h.2, frames_there known h.1 below h.5)

  pub instances_there : (first : Known) (state : State Body) → StateHolds first state → InstancesThere state
  instances_there first state s =
      all_so (StackFits (there (stored state.world))) (StackThere (map title state.world.instances)) (λ stack h. stack_there (there (stored state.world)) stack h) state.stacks s.stacks

  -- the end of a turn that began with what was known
  abbrev Ends : Known → After Body → Type 0
  Ends now after =
      StoredFits (stored after.0) × StackFits (there (stored after.0)) after.1 × Extends now (there (stored after.0))

  at_world : (now : Known) (w v : World) (stack : Stack Body) → stored v ≡ stored w → StoredFits (stored w) → StackFits (there (stored w)) stack → Extends now (there (stored w)) → Ends now (v, stack)
  at_world now w v stack e f s x =
      subst (λ st. StoredFits st × StackFits (there st) stack × Extends now (there st)) (sym e) (f, s, x)

  -- ---- what a frame sees
  abbrev on : Option ℕ → ℕ → Bool → List BoundNative → World → Setting
  on own k room natives world =
      record { stack = k; self = own; outline = world.outline; instances = map title world.instances; natives = natives; has_room = room }

  sees : (natives : List BoundNative) (k : ℕ) (room : Bool) (own : Option ℕ) (world : World) → NativesFit types.outline natives → IsThere (map title world.instances) own → StoredFits (stored world) → SightFits types.outline (on own k room natives world) (sight_of world own)
  sees natives k room None world n h f =
      record { of_set = f.outline; natives = n; own = tt; scripts = sym (no_scripts (length types.outline) types.outline); variables = tt; arrays = f.arrays }
  sees natives k room (Some i) world n h f =
      let own : InstanceKept (there (stored world)) (instance_at world i) = all_at (InstanceKept (there (stored world))) world.instances i no_instance (within world.instances i h) f.instances in
      record { of_set = f.outline; natives = n; own = h; scripts = own.0 ∙ ap (λ o. lineage types.outline (script_in o)) (sym (title_at world.instances i h)); variables = own.1; arrays = f.arrays }

  -- the arrays that it sees are those of the world
  same_seen : (world : World) (own : Option ℕ) → known types.outline (map title world.instances) (sight_of world own).arrays ≡ there (stored world)
  same_seen world None = refl
  same_seen world (Some i) = refl

  same_titles : (world : World) (own : Option ℕ) (sight : Sight) → map title (instances_after world own sight) ≡ map title world.instances
  same_titles world None sight = refl
  same_titles world (Some i) sight =
      map-set_same title world.instances i (record (instance_at world i) { state = sight.state; variables = sight.variables }) no_instance refl

  abbrev after_sight : World → Sight → Known
  after_sight world sight = known types.outline (map title world.instances) sight.arrays

  kept_after : (now then : Known) → Extends now then → (is : List Instance) → AllByRecursion (InstanceKept now) is → AllByRecursion (InstanceKept then) is
  kept_after now then e is a =
      all_so (InstanceKept now) (InstanceKept then) (λ x h. (h.0, variables_moved now then e x.variables h.1)) is a

  instances_fit : (setting : Setting) (world : World) (own : Option ℕ) (sight : Sight) → setting.instances ≡ map title world.instances → setting.self ≡ own → StoredFits (stored world) → SightFits types.outline setting sight → Extends (there (stored world)) (after_sight world sight) → AllByRecursion (InstanceKept (after_sight world sight)) (instances_after world own sight)
  instances_fit setting world None sight e d f s x =
      kept_after (there (stored world)) (after_sight world sight) x world.instances f.instances
  instances_fit setting world (Some i) sight e d f s x =
      let here : IsThere (map title world.instances) (Some i) = subst (λ o. IsThere (map title world.instances) o) d (subst (λ is. IsThere is setting.self) e s.own) in
      let scripts : map (λ of_script. of_script.0) sight.variables ≡ lineage types.outline (script_at (map title world.instances) (Some i)) = subst (λ o. map (λ of_script. of_script.0) sight.variables ≡ lineage types.outline (script_at (map title world.instances) o)) d (subst (λ is. map (λ of_script. of_script.0) sight.variables ≡ lineage types.outline (script_at is setting.self)) e s.scripts) in
      let variables : AllByRecursion (VariablesFit (after_sight world sight)) sight.variables = subst (λ is. AllByRecursion (VariablesFit (known types.outline is sight.arrays)) sight.variables) e s.variables in
      all_written (InstanceKept (after_sight world sight)) world.instances i (record (instance_at world i) { state = sight.state; variables = sight.variables }) (scripts ∙ ap (λ o. lineage types.outline (script_in o)) (title_at world.instances i here), variables) (kept_after (there (stored world)) (after_sight world sight) x world.instances f.instances)

  -- what a world stores after a body changed what it sees
  sight_kept : (setting : Setting) (world : World) (own : Option ℕ) (sight : Sight) → setting.instances ≡ map title world.instances → setting.self ≡ own → StoredFits (stored world) → SightFits types.outline setting sight → Extends (there (stored world)) (after_sight world sight) → StoredFits (stored (with_sight world own sight))
  sight_kept setting world own sight e d f s x = record {
    outline = f.outline;
    instances = subst (λ is. AllByRecursion (InstanceKept (known types.outline is sight.arrays)) (instances_after world own sight)) (sym (same_titles world own sight)) (instances_fit setting world own sight e d f s x);
    arrays = subst (λ is. AllByRecursion (ArrayFits (known types.outline is sight.arrays)) sight.arrays) (e ∙ sym (same_titles world own sight)) s.arrays;
  }

  sight_known : (world : World) (own : Option ℕ) (sight : Sight) → there (stored (with_sight world own sight)) ≡ after_sight world sight
  sight_known world own sight = ap (λ is. known types.outline is sight.arrays) (same_titles world own sight)

  -- a native leaves it as it was
  same_stored : (world : World) (own : Option ℕ) (sight : Sight) → SameSight sight (sight_of world own) → stored (with_sight world own sight) ≡ stored world
  same_stored world None sight s = ap (λ arrays. (world.outline, world.instances, arrays)) s.2
  same_stored world (Some i) sight s =
      ap (λ (vs : Variables). (world.outline, slice_set world.instances i (record (instance_at world i) { state = sight.state; variables = vs }), sight.arrays)) s.0 ∙ (ap (λ (state : List ℕ). (world.outline, slice_set world.instances i (record (instance_at world i) { state = state }), sight.arrays)) s.1 ∙ (ap (λ arrays. (world.outline, slice_set world.instances i (instance_at world i), arrays)) s.2 ∙ ap (λ is. (world.outline, is, world.arrays)) (set-get_or world.instances i no_instance)))

  module _ (engine : Engine Body) (keeps : KeepsFit types engine) where
    -- ---- more arrays
    body_moved : (now then : Known) (self : Option ℕ) (body : Body) (awaited : Option (Option CoreType)) (result : Option CoreType) → Extends now then → BodyHolds types now self body awaited result → BodyHolds types then self body awaited result
    body_moved now then self body awaited result e b =
        keeps.stable now then (script_at then.instances self) body awaited result e (subst (λ is. types.holds now (script_at is self) body awaited result) e.instances b)

    there_moved : (now then : Known) (o : Option ℕ) → Extends now then → IsThere now.instances o → IsThere then.instances o
    there_moved now then o e h = subst (λ is. IsThere is o) e.instances h

    call_moved : (now then : Known) (instance : Option ℕ) (way : Way) (arguments : List Value) (result : Option CoreType) → Extends now then → CallFits types now instance way arguments result → CallFits types then instance way arguments result
    call_moved now then instance way arguments result e c = record {
      there = there_moved now then instance e c.there;
      parameters = c.parameters;
      called = subst (λ is. types.calls (script_at is instance) way c.parameters result) e.instances c.called;
      values = types_moved now then e (typed c.parameters) arguments c.values;
    }

    below_moved : (now then : Known) (given : Option CoreType) (frames : List (Frame Body)) → Extends now then → Below now given frames → Below then given frames
    below_moved now then given [] e h = tt
    below_moved now then given (frame ∷ below) e h =
        (h.0, there_moved now then frame.instance e h.1, body_moved now then frame.instance frame.body (Some given) h.0 e h.2, below_moved now then h.0 below e h.3)

    reply_moved : (now then : Known) (awaited : Option (Option CoreType)) (reply : Option Value) → Extends now then → IsReply now awaited reply → IsReply then awaited reply
    reply_moved now then None None e h = tt
    reply_moved now then (Some result) (Some value) e h = result_moved now then e result value h
    reply_moved now then None (Some value) e h = absurd h
    reply_moved now then (Some result) None e h = absurd h

    stack_moved : (now then : Known) → Extends now then → (stack : Stack Body) → StackFits now stack → StackFits then stack
    stack_moved now then e Done h = tt
    stack_moved now then e (ToEnter instance way arguments below) h =
        (h.0, call_moved now then instance way arguments h.0 e h.1, below_moved now then h.0 below e h.2)
    stack_moved now then e (Running innermost reply below) h =
        (h.0, h.1, there_moved now then innermost.instance e h.2, body_moved now then innermost.instance innermost.body h.0 h.1 e h.3, reply_moved now then h.0 reply e h.4, below_moved now then h.1 below e h.5)

    -- ---- acts
    answered_ends : (now : Known) (turn : Turn) (goes_on : Option ℕ → World → World) (value : Value) (result : Option CoreType) (below : List (Frame Body)) (world : World) → ((to : Option ℕ) → stored (goes_on to world) ≡ stored world) → StoredFits (stored world) → Extends now (there (stored world)) → IsResult (there (stored world)) result value → Below (there (stored world)) result below → Ends now (answered turn goes_on value below world)
    answered_ends now turn goes_on value result [] world same f x v b = (f, tt, x)
    answered_ends now turn goes_on value result (caller ∷ below) world same f x v b =
        at_world now world (goes_on caller.instance world) (Running caller (Some value) below) (same caller.instance) f (Some result, b.0, b.1, b.2, v, b.3) x

    returned_ends : (now : Known) (turn : Turn) (value : Value) (result : Option CoreType) (below : List (Frame Body)) (world : World) → StoredFits (stored world) → Extends now (there (stored world)) → IsResult (there (stored world)) result value → Below (there (stored world)) result below → Ends now (returned turn value below world)
    returned_ends now turn value result below world f x v b =
        answered_ends now turn (moves turn.stack turn.own) value result below world (λ to. same_move turn.stack turn.own to world) f x v b

    native_ends : (now : Known) (turn : Turn) (at : FunctionPlace) (arguments : List Value) (below : List (Frame Body)) (world : World) → turn.setting.outline ≡ types.outline → NativesFit types.outline turn.setting.natives → is_native_at types.outline at ≡ true → StoredFits (stored world) → Extends now (there (stored world)) → Below (there (stored world)) (result_of types.outline at) below → Ends now (native_done turn at arguments below world)
    native_ends now turn at arguments below world o n native f x b =
        let done = performed_at turn.setting at arguments (sight_of world turn.own) in
        let after : World = with_sight world turn.own done.1 in
        let latency = latency_of (binding_in turn.setting.natives at) arguments in
        let same : stored world ≡ stored after = sym (same_stored world turn.own done.1 (performed_same turn.setting (binding_in turn.setting.natives at) (result_of turn.setting.outline at) arguments (sight_of world turn.own))) in
        let fits : IsResult (there (stored world)) (result_of types.outline at) done.0 = performed_fits (there (stored world)) types.outline turn.setting at arguments (sight_of world turn.own) o n native in
        answered_ends now turn (rests turn.stack latency) done.0 (result_of types.outline at) below after (λ to. same_rest turn.stack latency to after) (subst (λ st. StoredFits st) same f) (subst (λ st. Extends now (there st)) same x) (subst (λ st. IsResult (there st) (result_of types.outline at) done.0) same fits) (subst (λ st. Below (there st) (result_of types.outline at) below) same b)

    called_ends : (now : Known) (turn : Turn) (target : Option ℕ) (way : Way) (arguments : List Value) (given : Option CoreType) (below : List (Frame Body)) (world : World) → StoredFits (stored world) → Extends now (there (stored world)) → CallFits types (there (stored world)) target way arguments given → Below (there (stored world)) given below → Ends now (called turn target way arguments below world)
    called_ends now turn target way arguments given below world f x c b =
        at_world now world (moves turn.stack turn.own target world) (ToEnter target way arguments below) (same_move turn.stack turn.own target world) f (given, c, b) x

    abbrev frame_on : Turn → Body → Frame Body
    frame_on turn body = record { instance = turn.own; body = body }

    acted_ends : (now : Known) (turn : Turn) (request : Request) (body : Body) (result : Option CoreType) (below : List (Frame Body)) (world : World) → turn.setting.outline ≡ types.outline → NativesFit types.outline turn.setting.natives → StoredFits (stored world) → Extends now (there (stored world)) → IsThere (map title world.instances) turn.own → RequestFits types (there (stored world)) turn.own result (λ awaited. BodyHolds types (there (stored world)) turn.own body awaited result) request → Below (there (stored world)) result below → Ends now (acted turn request (frame_on turn body) below world)
    acted_ends now turn (Method target name arguments otherwise) body result below world o n f x h r b =
        called_ends now turn (Some target) _ arguments r.0 (frame_on turn body ∷ below) world f x r.1 (result, h, r.2, b)
    acted_ends now turn (ParentMethod script name arguments otherwise) body result below world o n f x h r b =
        (f, (r.0, r.1, (result, h, r.2, b)), x)
    acted_ends now turn (GlobalFunction script name arguments otherwise) body result below world o n f x h r b =
        called_ends now turn None _ arguments r.0 (frame_on turn body ∷ below) world f x r.1 (result, h, r.2, b)
    acted_ends now turn (GlobalNative at arguments) body result below world o n f x h r b =
        native_ends now turn at arguments (frame_on turn body ∷ below) world o n r.0 f x (result, h, r.1, b)
    acted_ends now turn (Get target name otherwise) body result below world o n f x h r b =
        called_ends now turn (Some target) _ [] r.0 (frame_on turn body ∷ below) world f x r.1 (result, h, r.2, b)
    acted_ends now turn (Set target name value) body result below world o n f x h r b =
        called_ends now turn (Some target) _ (value ∷ []) None (frame_on turn body ∷ below) world f x r.0 (result, h, r.1, b)
    acted_ends now turn LoopPass body result below world o n f x h r b = (f, (None, result, h, r, tt, b), x)
    acted_ends now turn (Return value) body result below world o n f x h r b = returned_ends now turn value result below world f x r b

    -- ---- up to the act that ends the turn
    passed_fits : (setting : Setting) (sight : Sight) (result : Option CoreType) (goes_on : Option (Option CoreType) → Type 0) (known : Known) (go : Body → Sight → Stop Body) (stop : Stop Body) (request : Request) → RequestFits types known setting.self result goes_on request → (goes_on None → StopFits types setting sight result (go stop.body stop.sight)) → StopFits types setting sight result stop → StopFits types setting sight result (past_pass go stop request)
    passed_fits setting sight result goes_on known go stop (Method target name arguments otherwise) r more s = s
    passed_fits setting sight result goes_on known go stop (ParentMethod script name arguments otherwise) r more s = s
    passed_fits setting sight result goes_on known go stop (GlobalFunction script name arguments otherwise) r more s = s
    passed_fits setting sight result goes_on known go stop (GlobalNative at arguments) r more s = s
    passed_fits setting sight result goes_on known go stop (Get target name otherwise) r more s = s
    passed_fits setting sight result goes_on known go stop (Set target name value) r more s = s
    passed_fits setting sight result goes_on known go stop LoopPass r more s = more r
    passed_fits setting sight result goes_on known go stop (Return value) r more s = s

    later_fits : (setting : Setting) (before sight : Sight) (result : Option CoreType) (stop : Stop Body) → Extends (seen types.outline setting before) (seen types.outline setting sight) → StopFits types setting sight result stop → StopFits types setting before result stop
    later_fits setting before sight result stop x s =
        record { sight = s.sight; grown = extends_on (seen types.outline setting before) (seen types.outline setting sight) (seen types.outline setting stop.sight) x s.grown; request = s.request }

    run_on_fits : (setting : Setting) (left : ℕ) (body : Body) (awaited : Option (Option CoreType)) (result : Option CoreType) (reply : Option Value) (sight : Sight) → SightFits types.outline setting sight → BodyHolds types (seen types.outline setting sight) setting.self body awaited result → IsReply (seen types.outline setting sight) awaited reply → StopFits types setting sight result (run_on engine setting left body reply sight)
    run_on_fits setting zero body awaited result reply sight s b r = keeps.run setting sight body awaited result reply s b r
    run_on_fits setting (suc left) body awaited result reply sight s b r =
        let stop : Stop Body = engine.run setting body reply sight in
        let fits : StopFits types setting sight result stop = keeps.run setting sight body awaited result reply s b r in
        passed_fits setting sight result (λ waits. BodyHolds types (seen types.outline setting stop.sight) setting.self stop.body waits result) (seen types.outline setting stop.sight) (λ next after. run_on engine setting left next None after) stop stop.request fits.request (λ holds. later_fits setting sight stop.sight result (run_on engine setting left stop.body None stop.sight) fits.grown (run_on_fits setting left stop.body None result None stop.sight fits.sight holds tt)) fits

    -- ---- a turn
    module _ (natives : List BoundNative) (bound : NativesFit types.outline natives) (k : ℕ) (room : Bool) (own : Option ℕ) (world : World) (f : StoredFits (stored world)) (h : IsThere (map title world.instances) own) where
      abbrev here : Setting
      here = on own k room natives world

      abbrev turn : Turn
      turn = record { stack = k; own = own; setting = here }

      -- after what the frame changed
      changed_ends : (sight : Sight) (s : SightFits types.outline here sight) → Extends (seen types.outline here (sight_of world own)) (seen types.outline here sight) → (P : Known → Type 0) → P (seen types.outline here sight) → StoredFits (stored (with_sight world own sight)) × Extends (there (stored world)) (there (stored (with_sight world own sight))) × IsThere (map title (instances_after world own sight)) own × P (there (stored (with_sight world own sight)))
      changed_ends sight s x P p =
          let grown : Extends (there (stored world)) (after_sight world sight) = subst (λ now. Extends now (after_sight world sight)) (same_seen world own) x in
          let at : after_sight world sight ≡ there (stored (with_sight world own sight)) = sym (sight_known world own sight) in
          (sight_kept here world own sight refl refl f s grown, subst (λ then. Extends (there (stored world)) then) at grown, subst (λ is. IsThere is own) (sym (same_titles world own sight)) h, subst P at p)

      stopped_ends : (stop : Stop Body) (result : Option CoreType) (below : List (Frame Body)) → StopFits types here (sight_of world own) result stop → Below (there (stored world)) result below → Ends (there (stored world)) (stopped turn world below stop)
      stopped_ends stop result below s b =
          let c = changed_ends stop.sight s.sight s.grown (λ then. RequestFits types then own result (λ awaited. BodyHolds types then own stop.body awaited result) stop.request) s.request in
          acted_ends (there (stored world)) turn stop.request stop.body result below (with_sight world own stop.sight) f.outline bound c.0 c.1 c.2 c.3 (below_moved (there (stored world)) (there (stored (with_sight world own stop.sight))) result below c.1 b)

      own_sight : SightFits types.outline here (sight_of world own)
      own_sight = sees natives k room own world bound h f

      ran_ends : (scene : SceneShape) (body : Body) (awaited : Option (Option CoreType)) (result : Option CoreType) (reply : Option Value) (below : List (Frame Body)) → BodyHolds types (there (stored world)) own body awaited result → IsReply (there (stored world)) awaited reply → Below (there (stored world)) result below → Ends (there (stored world)) (ran scene engine turn world below body reply)
      ran_ends scene body awaited result reply below b r w =
          let back : there (stored world) ≡ seen types.outline here (sight_of world own) = sym (same_seen world own) in
          stopped_ends (run_on engine here (pred scene.quantum) body reply (sight_of world own)) result below (run_on_fits here (pred scene.quantum) body awaited result reply (sight_of world own) own_sight (subst (λ now. BodyHolds types now own body awaited result) back b) (subst (λ now. IsReply now awaited reply) back r)) w

      native_entered_ends : (at : FunctionPlace) (arguments : List Value) (result : Option CoreType) (below : List (Frame Body)) (prompt : Bool) → is_native_at types.outline at ≡ true → result_of types.outline at ≡ result → Below (there (stored world)) result below → Ends (there (stored world)) (native_entered turn at arguments world below prompt)
      native_entered_ends at arguments result below false native e b =
          native_ends (there (stored world)) turn at arguments below world f.outline bound native f (extends_self (there (stored world))) (subst (λ r. Below (there (stored world)) r below) (sym e) b)
      native_entered_ends at arguments result below true native e b =
          let done = performed_at here at arguments (sight_of world own) in
          let same : stored (with_sight world own done.1) ≡ stored world = same_stored world own done.1 (performed_same here (binding_in natives at) (result_of world.outline at) arguments (sight_of world own)) in
          let fits : IsResult (there (stored world)) (result_of types.outline at) done.0 = performed_fits (there (stored world)) types.outline here at arguments (sight_of world own) f.outline bound native in
          returned_ends (there (stored world)) turn done.0 result below (with_sight world own done.1) (subst (λ s. StoredFits s) (sym same) f) (subst (λ s. Extends (there (stored world)) (there s)) (sym same) (extends_self (there (stored world)))) (subst (λ s. IsResult (there s) result done.0) (sym same) (subst (λ r. IsResult (there (stored world)) r done.0) e fits)) (subst (λ s. Below (there s) result below) (sym same) b)

      of_own : (script : ℕ) → IsOfOwn (seen types.outline here (sight_of world own)) own script → list_any (λ above. eqb above script) (map (λ of_script. of_script.0) (sight_of world own).variables) ≡ true
      of_own script i = subst (λ ss. list_any (λ above. eqb above script) ss ≡ true) (sym own_sight.scripts) i

      read_ends : (script variable : ℕ) (kind : CoreType) (result : Option CoreType) (below : List (Frame Body)) → IsOfOwn (seen types.outline here (sight_of world own)) own script → IsVariable types.outline script variable kind → result ≡ Some kind → Below (there (stored world)) result below → Ends (there (stored world)) (returned turn (variable_of (sight_of world own).variables script variable) below world)
      read_ends script variable kind result below i v e b =
          let value : HasType (seen types.outline here (sight_of world own)) kind (variable_of (sight_of world own).variables script variable) = variable_fits (seen types.outline here (sight_of world own)) (sight_of world own).variables script variable kind (of_own script i) v own_sight.variables in
          returned_ends (there (stored world)) turn (variable_of (sight_of world own).variables script variable) result below world f (extends_self (there (stored world))) (subst (λ r. IsResult (there (stored world)) r (variable_of (sight_of world own).variables script variable)) (sym e) (subst (λ now. HasType now kind (variable_of (sight_of world own).variables script variable)) (same_seen world own) value)) b

      write_ends : (script variable : ℕ) (kind : CoreType) (value : Value) (result : Option CoreType) (below : List (Frame Body)) → IsVariable types.outline script variable kind → HasType (seen types.outline here (sight_of world own)) kind value → result ≡ None → Below (there (stored world)) result below → Ends (there (stored world)) (returned turn values.NoneValue below (with_sight world own (record (sight_of world own) { variables = with_variable (sight_of world own).variables script variable value })))
      write_ends script variable kind value result below v w e b =
          let before : Sight = sight_of world own in
          let sight : Sight = record before { variables = with_variable before.variables script variable value } in
          let s : SightFits types.outline here sight = record {
            of_set = own_sight.of_set;
            natives = own_sight.natives;
            own = own_sight.own;
            scripts = written_scripts before.variables script variable value ∙ own_sight.scripts;
            variables = variable_written (seen types.outline here before) before.variables script variable kind value v w own_sight.variables;
            arrays = own_sight.arrays;
          } in
          let c = changed_ends sight s (extends_self (seen types.outline here before)) (λ then. IsResult then result values.NoneValue) (subst (λ r. IsResult (seen types.outline here sight) r values.NoneValue) (sym e) refl) in
          returned_ends (there (stored world)) turn values.NoneValue result below (with_sight world own sight) c.0 c.1 c.3 (below_moved (there (stored world)) (there (stored (with_sight world own sight))) result below c.1 b)

      entered_ends : (scene : SceneShape) (arguments : List Value) (result : Option CoreType) (below : List (Frame Body)) (found : Entered Body) → FoundFits types (seen types.outline here (sight_of world own)) own arguments result found → Below (there (stored world)) result below → Ends (there (stored world)) (entered scene engine turn world below arguments found)
      entered_ends scene arguments result below (Opened body) e b =
          ran_ends scene body None result None below (subst (λ now. BodyHolds types now own body None result) (same_seen world own) e) tt b
      entered_ends scene arguments result below (NativeThere at) e b =
          native_entered_ends at arguments result below (is_prompt (binding_in natives at)) e.0 e.1 b
      entered_ends scene arguments result below (ReadThere script variable) e b =
          read_ends script variable e.0 result below e.1 e.2 e.3 b
      entered_ends scene arguments result below (WriteThere script variable) e b =
          write_ends script variable e.0 (first_argument arguments) result below e.2 e.3 e.4 b
      entered_ends scene arguments result below NothingThere e b = absurd e

      entry_ends : (scene : SceneShape) (way : Way) (arguments : List Value) (result : Option CoreType) (below : List (Frame Body)) → CallFits types (there (stored world)) own way arguments result → Below (there (stored world)) result below → Ends (there (stored world)) (entered scene engine turn world below arguments (engine.enter (script_at (map title world.instances) own) (sight_of world own).state way arguments))
      entry_ends scene way arguments result below c b =
          entered_ends scene arguments result below _ (keeps.enter here (sight_of world own) way arguments result own_sight (subst (λ now. CallFits types now own way arguments result) (sym (same_seen world own)) c)) b

    script_known : (world : World) (own : Option ℕ) → IsThere (map title world.instances) own → script_at (map title world.instances) own ≡ instance_script world own
    script_known world None h = refl
    script_known world (Some i) h = ap script_in (title_at world.instances i h)

    stack_ends : (scene : SceneShape) (world : World) (stacks : List (Stack Body)) (k : ℕ) (stack : Stack Body) → NativesFit types.outline scene.natives → StoredFits (stored world) → StackFits (there (stored world)) stack → Ends (there (stored world)) (after_turn scene engine world stacks k stack)
    stack_ends scene world stacks k Done n f s = (f, tt, extends_self (there (stored world)))
    stack_ends scene world stacks k (ToEnter instance way arguments below) n f s =
        subst (λ script. Ends (there (stored world)) (entered scene engine (turn_of scene world stacks k instance) world below arguments (engine.enter script (sight_of world instance).state way arguments))) (script_known world instance (s.1).there) (entry_ends scene.natives n k _ instance world f (s.1).there scene way arguments s.0 below s.1 s.2)
    stack_ends scene world stacks k (Running innermost reply below) n f s =
        ran_ends scene.natives n k _ innermost.instance world f s.2 scene innermost.body s.0 s.1 reply below s.3 s.4 s.5

    stack_fits : (known : Known) (stacks : List (Stack Body)) (k : ℕ) → AllByRecursion (StackFits known) stacks → StackFits known (stack_at stacks k)
    stack_fits known stacks k a = all_or (StackFits known) stacks k Done tt a

    turned_holds : (scene : SceneShape) (first : Known) (state : State Body) (k : ℕ) → NativesFit types.outline scene.natives → StateHolds first state → StateHolds first (turned scene engine state k)
    turned_holds scene first state k n s =
        let taken : World = takes k state.world in
        let same : stored state.world ≡ stored taken = sym (same_taken k state.world) in
        let fits : StoredFits (stored taken) = subst (λ st. StoredFits st) same s.fits in
        let grown : Extends first (there (stored taken)) = subst (λ st. Extends first (there st)) same s.grown in
        let stacks : AllByRecursion (StackFits (there (stored taken))) state.stacks = subst (λ st. AllByRecursion (StackFits (there st)) state.stacks) same s.stacks in
        let after : After Body = after_turn scene engine taken state.stacks k (stack_at state.stacks k) in
        let ended : Ends (there (stored taken)) after = stack_ends scene taken state.stacks k (stack_at state.stacks k) n fits (stack_fits (there (stored taken)) state.stacks k stacks) in
        record { fits = ended.0; grown = extends_on first (there (stored taken)) (there (stored after.0)) grown ended.2; stacks = all_written (StackFits (there (stored after.0))) state.stacks k after.1 ended.1 (all_so (StackFits (there (stored taken))) (StackFits (there (stored after.0))) (stack_moved (there (stored taken)) (there (stored after.0)) ended.2) state.stacks stacks) }

    chosen_holds : (scene : SceneShape) (first : Known) (state : State Body) (o : Option ℕ) → NativesFit types.outline scene.natives → StateHolds first state → StateHolds first (chosen_turned scene engine state o)
    chosen_holds scene first state None n s = record { fits = s.fits; grown = s.grown; stacks = s.stacks }
    chosen_holds scene first state (Some k) n s = turned_holds scene first state k n s

    -- ---- the start of a turn
    call_holds : (first : Known) (state : State Body) (call : CallShape) → StartFits types first call → StateHolds first state → StateHolds first (call_started state call)
    call_holds first state call c s =
        record { fits = s.fits; grown = s.grown; stacks = all_more (StackFits (there (stored state.world))) state.stacks (ToEnter (Some call.instance) (ByMethod call.function) call.arguments []) s.stacks (c.0, call_moved first (there (stored state.world)) (Some call.instance) (ByMethod call.function) call.arguments c.0 s.grown c.1, tt) }

    either_holds : (first : Known) (now : Bool) (one other : State Body) → StateHolds first one → StateHolds first other → StateHolds first (cond now one other)
    either_holds first true one other a b = a
    either_holds first false one other a b = b

    calls_hold : (first : Known) (calls : List CallShape) (state : State Body) → AllByRecursion (StartFits types first) calls → StateHolds first state → StateHolds first (calls_started calls state)
    calls_hold first [] state c s = s
    calls_hold first (call ∷ rest) state c s =
        calls_hold first rest (cond (eqb call.turn state.world.turn) (call_started state call) state) c.1 (either_holds first (eqb call.turn state.world.turn) (call_started state call) state (call_holds first state call c.0 s) s)

    awoken_holds : (first : Known) (state : State Body) → StateHolds first state → StateHolds first (awoken state)
    awoken_holds first state s =
        let same : stored state.world ≡ stored (awoken state).world = sym (same_all state.stacks (filter (is_due state.world.turn) state.world.asleep) (record state.world { asleep = filter (not_due state.world.turn) state.world.asleep })) in
        record { fits = subst (λ st. StoredFits st) same s.fits; grown = subst (λ st. Extends first (there st)) same s.grown; stacks = subst (λ st. AllByRecursion (StackFits (there st)) state.stacks) same s.stacks }

    pub begun_holds : (scene : SceneShape) (first : Known) (state : State Body) → AllByRecursion (StartFits types first) scene.calls → StateHolds first state → StateHolds first (begun scene state)
    begun_holds scene first state c s = awoken_holds first (calls_started scene.calls state) (calls_hold first scene.calls state c s)

    -- ---- what the chosen stack goes on with
    innermost_fits : (scene : SceneShape) (world : World) (k : ℕ) (room : Bool) (stack : Stack Body) → NativesFit types.outline scene.natives → StoredFits (stored world) → StackFits (there (stored world)) stack → InnermostFits (by_types types) (on (inner_instance stack) k room scene.natives world) world stack
    innermost_fits scene world k room Done n f s = tt
    innermost_fits scene world k room (ToEnter instance way arguments below) n f s =
        (sees scene.natives k room instance world n (s.1).there f, record { own = sym (script_known world instance (s.1).there); result = s.0; call = subst (λ now. CallFits types now instance way arguments s.0) (sym (same_seen world instance)) s.1 })
    innermost_fits scene world k room (Running innermost reply below) n f s =
        (sees scene.natives k room innermost.instance world n s.2 f, record { awaited = s.0; result = s.1; held = subst (λ now. BodyHolds types now innermost.instance innermost.body s.0 s.1) (sym (same_seen world innermost.instance)) s.3; reply = subst (λ now. IsReply now s.0 reply) (sym (same_seen world innermost.instance)) s.4 })

    pub turn_fits : (scene : SceneShape) (first : Known) (state : State Body) (k : ℕ) → NativesFit types.outline scene.natives → StateHolds first state → TurnFits (by_types types) scene state k
    turn_fits scene first state k n s =
        let same : stored state.world ≡ stored (takes k state.world) = sym (same_taken k state.world) in
        innermost_fits scene (takes k state.world) k _ (stack_at state.stacks k) n (subst (λ st. StoredFits st) same s.fits) (subst (λ st. StackFits (there st) (stack_at state.stacks k)) same (stack_fits (there (stored state.world)) state.stacks k s.stacks))

    -- ---- what the chosen stack comes to
    opened_stops : (natives : List BoundNative) → NativesFit types.outline natives → (scene : SceneShape) (k : ℕ) (room : Bool) (own : Option ℕ) (world : World) (body : Body) (awaited : Option (Option CoreType)) (result : Option CoreType) (reply : Option Value) → StoredFits (stored world) → IsThere (map title world.instances) own → BodyHolds types (there (stored world)) own body awaited result → IsReply (there (stored world)) awaited reply → BodyStops types engine scene (on own k room natives world) world own reply body
    opened_stops natives n scene k room own world body awaited result reply f h b r =
        let back : there (stored world) ≡ seen types.outline (on own k room natives world) (sight_of world own) = sym (same_seen world own) in
        (result, run_on_fits (on own k room natives world) (pred scene.quantum) body awaited result reply (sight_of world own) (sees natives k room own world n h f) (subst (λ now. BodyHolds types now own body awaited result) back b) (subst (λ now. IsReply now awaited reply) back r))

    found_stops : (natives : List BoundNative) → NativesFit types.outline natives → (scene : SceneShape) (k : ℕ) (room : Bool) (own : Option ℕ) (world : World) (arguments : List Value) (result : Option CoreType) → StoredFits (stored world) → IsThere (map title world.instances) own → (found : Entered Body) → FoundFits types (seen types.outline (on own k room natives world) (sight_of world own)) own arguments result found → EnteredStops types engine scene (on own k room natives world) world own found
    found_stops natives n scene k room own world arguments result f h (Opened body) e =
        opened_stops natives n scene k room own world body None result None f h (subst (λ now. BodyHolds types now own body None result) (same_seen world own) e) tt
    found_stops natives n scene k room own world arguments result f h (NativeThere at) e = tt
    found_stops natives n scene k room own world arguments result f h (ReadThere script variable) e = tt
    found_stops natives n scene k room own world arguments result f h (WriteThere script variable) e = tt
    found_stops natives n scene k room own world arguments result f h NothingThere e = e

    stack_stops : (scene : SceneShape) (world : World) (k : ℕ) (room : Bool) (stack : Stack Body) → NativesFit types.outline scene.natives → StoredFits (stored world) → StackFits (there (stored world)) stack → StackStops types engine scene (on (inner_instance stack) k room scene.natives world) world stack
    stack_stops scene world k room Done n f s = tt
    stack_stops scene world k room (ToEnter instance way arguments below) n f s =
        let own : Setting = on instance k room scene.natives world in
        let found : EnteredStops types engine scene own world instance (engine.enter (script_at (map title world.instances) instance) (sight_of world instance).state way arguments) = found_stops scene.natives n scene k room instance world arguments s.0 f (s.1).there _ (keeps.enter own (sight_of world instance) way arguments s.0 (sees scene.natives k room instance world n (s.1).there f) (subst (λ now. CallFits types now instance way arguments s.0) (sym (same_seen world instance)) s.1)) in
        subst (λ script. EnteredStops types engine scene own world instance (engine.enter script (sight_of world instance).state way arguments)) (script_known world instance (s.1).there) found
    stack_stops scene world k room (Running innermost reply below) n f s =
        opened_stops scene.natives n scene k room innermost.instance world innermost.body s.0 s.1 reply f s.2 s.3 s.4

    pub turn_stops : (scene : SceneShape) (first : Known) (state : State Body) (k : ℕ) → NativesFit types.outline scene.natives → StateHolds first state → TurnStops types engine scene state k
    turn_stops scene first state k n s =
        let same : stored state.world ≡ stored (takes k state.world) = sym (same_taken k state.world) in
        stack_stops scene (takes k state.world) k _ (stack_at state.stacks k) n (subst (λ st. StoredFits st) same s.fits) (subst (λ st. StackFits (there st) (stack_at state.stacks k)) same (stack_fits (there (stored state.world)) state.stacks k s.stacks))

    -- ---- runs
    pub step_holds : (scene : SceneShape) (first : Known) (state : State Body) → NativesFit types.outline scene.natives → AllByRecursion (StartFits types first) scene.calls → StateHolds first state → StateHolds first (step scene engine state)
    step_holds scene first state n c s =
        chosen_holds scene first (begun scene state) (chosen scene.order (begun scene state).world) n (begun_holds scene first state c s)

    or_ended : (ended : Bool) (P : State Body → Type 0) (more : List (State Body)) → AllByRecursion P more → AllByRecursion P (cond ended [] more)
    or_ended true P more a = tt
    or_ended false P more a = a

    states_fit : (scene : SceneShape) (first : Known) (turns : ℕ) (state : State Body) → NativesFit types.outline scene.natives → AllByRecursion (StartFits types first) scene.calls → StateHolds first state → AllByRecursion (NextTurnFits (by_types types) scene) (states_from scene engine turns state)
    states_fit scene first zero state n c s = (λ k. turn_fits scene first (begun scene state) k n (begun_holds scene first state c s), tt)
    states_fit scene first (suc turns) state n c s =
        (λ k. turn_fits scene first (begun scene state) k n (begun_holds scene first state c s), or_ended (has_ended scene state.world) (NextTurnFits (by_types types) scene) (states_from scene engine turns (step scene engine state)) (states_fit scene first turns (step scene engine state) n c (step_holds scene first state n c s)))

    -- ---- the first world
    initial_scripts : (scripts : List ℕ) → map (λ of_script. of_script.0) (initial_variables types.outline scripts) ≡ scripts
    initial_scripts [] = refl
    initial_scripts (script ∷ rest) = ap (λ ss. script ∷ ss) (initial_scripts rest)

    set_scripts : (set : List (ℕ × ℕ × Value)) (vs : Variables) → map (λ of_script. of_script.0) (variables_set set vs) ≡ map (λ of_script. of_script.0) vs
    set_scripts [] vs = refl
    set_scripts (entry ∷ rest) vs =
        set_scripts rest (with_variable vs entry.0 entry.1 entry.2) ∙ written_scripts vs entry.0 entry.1 entry.2

    set_fits : (first : Known) → first.outline ≡ types.outline → (set : List (ℕ × ℕ × Value)) (vs : Variables) → AllByRecursion (SetFits types.outline first) set → AllByRecursion (VariablesFit first) vs → AllByRecursion (VariablesFit first) (variables_set set vs)
    set_fits first o [] vs s a = a
    set_fits first o (entry ∷ rest) vs s a =
        set_fits first o rest (with_variable vs entry.0 entry.1 entry.2) s.1 (variable_written first vs entry.0 entry.1 (s.0).0 entry.2 (subst (λ outline. IsVariable outline entry.0 entry.1 (s.0).0) (sym o) (s.0).1) (s.0).2 a)

    empty_extends : (instances : List (ℕ × List ℕ)) (kind : Option CoreType) (value : Value) → IsResult (known types.outline [] []) kind value → IsResult (known types.outline instances []) kind value
    empty_extends instances None value h = h
    empty_extends instances (Some kind) values.NoneValue h = h
    empty_extends instances (Some kind) (values.Int n) h = h
    empty_extends instances (Some kind) (values.Bool b) h = h
    empty_extends instances (Some kind) (values.Text t) h = h
    empty_extends instances (Some kinds.Int) (values.Instance n) h = absurd h
    empty_extends instances (Some kinds.Bool) (values.Instance n) h = absurd h
    empty_extends instances (Some kinds.Text) (values.Instance n) h = absurd h
    empty_extends instances (Some (kinds.Script s)) (values.Instance n) h = absurd h
    empty_extends instances (Some kinds.IntArray) (values.Instance n) h = absurd h
    empty_extends instances (Some kinds.BoolArray) (values.Instance n) h = absurd h
    empty_extends instances (Some kinds.TextArray) (values.Instance n) h = absurd h
    empty_extends instances (Some (kinds.ScriptArray s)) (values.Instance n) h = absurd h
    empty_extends instances (Some kind) (values.Array n) h = h

    empties_extend : (instances : List (ℕ × List ℕ)) (ks : List (Option CoreType)) (vs : List Value) → HaveTypes (known types.outline [] []) ks vs → HaveTypes (known types.outline instances []) ks vs
    empties_extend instances [] [] h = tt
    empties_extend instances (k ∷ ks) (v ∷ vs) h = (empty_extends instances k v h.0, empties_extend instances ks vs h.1)
    empties_extend instances [] (v ∷ vs) h = absurd h
    empties_extend instances (k ∷ ks) [] h = absurd h

    initial_fits : (scene : SceneShape) (scripts : List ℕ) → SceneFits types scene → AllByRecursion (VariablesFit (first_known types.outline scene)) (initial_variables types.outline scripts)
    initial_fits scene [] s = tt
    initial_fits scene (script ∷ rest) s =
        (empties_extend _ (typed (variable_kinds (slice_get types.outline script))) (initial_in (slice_get types.outline script)) (s.initial script), initial_fits scene rest s)

    first_instances : (scene : SceneShape) → SceneFits types scene → (instances : List InstanceShape) → AllByRecursion (InstanceFits types.outline (first_known types.outline scene)) instances → AllByRecursion (InstanceKept (first_known types.outline scene)) (map (first_instance types.outline) instances)
    first_instances scene s [] a = tt
    first_instances scene s (x ∷ rest) a =
        let scripts : List ℕ = lineage types.outline (Some x.script) in
        ((set_scripts x.set (initial_variables types.outline scripts) ∙ initial_scripts scripts, set_fits (first_known types.outline scene) refl x.set (initial_variables types.outline scripts) a.0 (initial_fits scene scripts s)), first_instances scene s rest a.1)

    pub first_holds : (scene : SceneShape) (kinds : List DeviceKind) → SceneFits types scene → StateHolds (first_known types.outline scene) (first_state types.outline scene kinds)
    first_holds scene kinds s = record {
      fits = record { outline = refl; instances = first_instances scene s scene.instances s.instances; arrays = tt };
      grown = extends_self (first_known types.outline scene);
      stacks = tt;
    }

    pub run_keeps : (scene : SceneShape) (kinds : List DeviceKind) (turns : ℕ) → SceneFits types scene → AllByRecursion (NextTurnFits (by_types types) scene) (states_from scene engine turns (first_state types.outline scene kinds))
    run_keeps scene kinds turns s =
        states_fit scene (first_known types.outline scene) turns (first_state types.outline scene kinds) s.natives s.calls (first_holds scene kinds s)
