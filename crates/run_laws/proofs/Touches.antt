-- A turn does the same, whatever the variables and states of the instances are that its stack isn't on.
use Rattle.std.proofs.Common.{◌≡◌, ℕ, zero, suc, pred, ◌≤◌, Bool, true, false, cond, List, [], ◌∷◌, map, Option, Some, None, refl, sym, ap, subst, ◌∙◌, inl, inr, arith}
use Rattle.std.specs.Prelude.{length, slice_index_or, slice_set}
use Rattle.std.proofs.lemmas.List.{set-set, set_past, get_or_past, set-get_or, get_or-set_same, length-set, length-map}
use Rattle.core_tree.specs.declared.expression.FunctionPlace.{FunctionPlace}
use Rattle.core_tree.specs.declared.value.Value.{Value}
use Rattle.core_tree.specs.declared.value.Value.TheVariants.{NoneValue}
use Rattle.core_tree.specs.Scenes.{SceneShape}
use Rattle.script_meaning.specs.Locks.{let_go, goes_to_wait, rests, same_instance, moves, waited_for, becomes_owner, takes}
use Rattle.script_meaning.specs.Requests.{Sight, Request, Method, ParentMethod, GlobalFunction, GlobalNative, Get, Set, LoopPass, Return, binding_in, is_prompt, latency_of, performed_at, first_argument}
use Rattle.script_meaning.specs.Stacks.{Way, ByMethod, ByGlobal, ByGet, BySet, Frame, Stack, Done, ToEnter, Running, Entered, Opened, NativeThere, ReadThere, WriteThere, NothingThere, Stop, Engine, State, stack_at, inner_instance}
use Rattle.run_laws.specs.Touch.{with_instances, state_with, instance_in_turn, but_for, SameAt, DifferElsewhere}
use Rattle.script_meaning.specs.Turns.{sight_of, with_sight, Turn, After, called, answered, returned, native_done, acted, run_on, stopped, ran, native_entered, entered, in_turn, setting_of, turn_of, after_turn, turn_ended, turned, instance_script}
use Rattle.script_meaning.specs.World.{World, Instance, title, no_instance, variable_of, with_variable}
use Rattle.run_laws.proofs.Standing.{started_or_not}

-- the same world in the other run: all is as here but the variables and states elsewhere
abbrev pub other : Option ℕ → List Instance → World → World
other own others world = with_instances (but_for own others world.instances) world

module _ (others : List Instance) where
  -- ---- what the stack is on is the same in both
  own_entry : (world : World) (i : ℕ) → length others ≡ length world.instances → slice_index_or (slice_set others i (slice_index_or world.instances i no_instance)) i no_instance ≡ slice_index_or world.instances i no_instance
  own_entry world i c =
      elim (started_or_not i (length others)) [
        | inl h ↦ get_or-set_same others i (slice_index_or world.instances i no_instance) no_instance h
        | inr h ↦
            let a : length (slice_set others i (slice_index_or world.instances i no_instance)) ≤ i = omega (arith, length-set others i (slice_index_or world.instances i no_instance)) in
            get_or_past (slice_set others i (slice_index_or world.instances i no_instance)) i no_instance a ∙ sym (get_or_past world.instances i no_instance (omega (arith, c)))
      ]

  -- ---- lists after a write to the one instance
  written_entry : (world : World) (i : ℕ) (x : Instance) → length others ≡ length world.instances → slice_set (slice_set others i (slice_index_or world.instances i no_instance)) i x ≡ slice_set others i (slice_index_or (slice_set world.instances i x) i no_instance)
  written_entry world i x c =
      set-set others i (slice_index_or world.instances i no_instance) x ∙ elim (started_or_not i (length others)) [
        | inl h ↦ ap (λ y. slice_set others i y) (sym (get_or-set_same world.instances i x no_instance (omega (arith, c))))
        | inr h ↦ set_past others i x h ∙ sym (set_past others i _ h)
      ]

same_sight : (own : Option ℕ) (others : List Instance) (world : World) → length others ≡ length world.instances → sight_of (other own others world) own ≡ sight_of world own
same_sight None others world c = refl
same_sight (Some i) others world c =
    ap (λ (x : Instance). record { variables = x.variables; state = x.state; arrays = world.arrays; devices = world.devices; output = world.output }) (own_entry others world i c)

same_after_sight : (own : Option ℕ) (others : List Instance) (world : World) (sight : Sight) → length others ≡ length world.instances → with_sight (other own others world) own sight ≡ other own others (with_sight world own sight)
same_after_sight None others world sight c = refl
same_after_sight (Some i) others world sight c =
    let x : Instance = slice_index_or world.instances i no_instance in
    let y : Instance = record x { state = sight.state; variables = sight.variables } in
    ap (λ (is : List Instance). record world { instances = is; arrays = sight.arrays; devices = sight.devices; output = sight.output }) (ap (λ (z : Instance). slice_set (slice_set others i x) i (record z { state = sight.state; variables = sight.variables })) (own_entry others world i c) ∙ written_entry others world i y c)

length_after : (own : Option ℕ) (others : List Instance) (world : World) (sight : Sight) → length others ≡ length world.instances → length others ≡ length (with_sight world own sight).instances
length_after None others world sight c = c
length_after (Some i) others world sight c = c ∙ sym (length-set world.instances i _)

script_same : (own : Option ℕ) (others : List Instance) (world : World) → length others ≡ length world.instances → instance_script (other own others world) own ≡ instance_script world own
script_same None others world c = refl
script_same (Some i) others world c = ap (λ (x : Instance). Some x.script) (own_entry others world i c)

-- ---- locks
module _ (own : Option ℕ) (others : List Instance) where
  waits_other : (k : ℕ) (to : Option ℕ) (world : World) → goes_to_wait k to (other own others world) ≡ other own others (goes_to_wait k to world)
  waits_other k None world = refl
  waits_other k (Some i) world = refl

  rests_other : (k latency : ℕ) (to : Option ℕ) (world : World) → rests k latency to (other own others world) ≡ other own others (rests k latency to world)
  rests_other k zero to world = waits_other k to (let_go k world)
  rests_other k (suc latency) to world = refl

  moved_other : (same : Bool) (k : ℕ) (to : Option ℕ) (world : World) → cond same (other own others world) (goes_to_wait k to (let_go k (other own others world))) ≡ other own others (cond same world (goes_to_wait k to (let_go k world)))
  moved_other true k to world = refl
  moved_other false k to world = waits_other k to (let_go k world)

  moves_other : (k : ℕ) (from to : Option ℕ) (world : World) → moves k from to (other own others world) ≡ other own others (moves k from to world)
  moves_other k from to world = moved_other (same_instance from to) k to world

-- ---- acts
module _ {Body : Type 0} where
  abbrev pub there : Option ℕ → List Instance → After Body → After Body
  there own others after = (other own others after.0, after.1)

  answered_other : (turn : Turn) (others : List Instance) (goes_on : Option ℕ → World → World) (value : Value) (below : List (Frame Body)) (world : World) → ((to : Option ℕ) → goes_on to (other turn.own others world) ≡ other turn.own others (goes_on to world)) → answered turn goes_on value below (other turn.own others world) ≡ there turn.own others (answered turn goes_on value below world)
  answered_other turn others goes_on value [] world same = refl
  answered_other turn others goes_on value (caller ∷ below) world same =
      ap (λ (w : World). (w, Running caller (Some value) below)) (same caller.instance)

  returned_other : (turn : Turn) (others : List Instance) (value : Value) (below : List (Frame Body)) (world : World) → returned turn value below (other turn.own others world) ≡ there turn.own others (returned turn value below world)
  returned_other turn others value below world =
      answered_other turn others (moves turn.stack turn.own) value below world (λ to. moves_other turn.own others turn.stack turn.own to world)

  native_other : (turn : Turn) (others : List Instance) (at : FunctionPlace) (arguments : List Value) (below : List (Frame Body)) (world : World) → length others ≡ length world.instances → native_done turn at arguments below (other turn.own others world) ≡ there turn.own others (native_done turn at arguments below world)
  native_other turn others at arguments below world c =
      let latency : ℕ = latency_of (binding_in turn.setting.natives at) arguments in
      let done : Value × Sight = performed_at turn.setting at arguments (sight_of world turn.own) in
      let after : World = with_sight world turn.own done.1 in
      ap (λ (s : Sight). let d : Value × Sight = performed_at turn.setting at arguments s in answered turn (rests turn.stack latency) d.0 below (with_sight (other turn.own others world) turn.own d.1)) (same_sight turn.own others world c) ∙ (ap (λ (w : World). answered turn (rests turn.stack latency) done.0 below w) (same_after_sight turn.own others world done.1 c) ∙ answered_other turn others (rests turn.stack latency) done.0 below after (λ to. rests_other turn.own others turn.stack latency to after))

  called_other : (turn : Turn) (others : List Instance) (target : Option ℕ) (way : Way) (arguments : List Value) (below : List (Frame Body)) (world : World) → called turn target way arguments below (other turn.own others world) ≡ there turn.own others (called turn target way arguments below world)
  called_other turn others target way arguments below world =
      ap (λ (w : World). (w, ToEnter target way arguments below)) (moves_other turn.own others turn.stack turn.own target world)

  acted_other : (turn : Turn) (others : List Instance) (request : Request) (frame : Frame Body) (below : List (Frame Body)) (world : World) → length others ≡ length world.instances → acted turn request frame below (other turn.own others world) ≡ there turn.own others (acted turn request frame below world)
  acted_other turn others (Method target name arguments otherwise) frame below world c = called_other turn others (Some target) (ByMethod name) arguments (frame ∷ below) world
  acted_other turn others (ParentMethod script name arguments otherwise) frame below world c = refl
  acted_other turn others (GlobalFunction script name arguments otherwise) frame below world c = called_other turn others None (ByGlobal script name) arguments (frame ∷ below) world
  acted_other turn others (GlobalNative at arguments) frame below world c = native_other turn others at arguments (frame ∷ below) world c
  acted_other turn others (Get target name otherwise) frame below world c = called_other turn others (Some target) (ByGet name) [] (frame ∷ below) world
  acted_other turn others (Set target name value) frame below world c = called_other turn others (Some target) (BySet name) (value ∷ []) (frame ∷ below) world
  acted_other turn others LoopPass frame below world c = refl
  acted_other turn others (Return value) frame below world c = returned_other turn others value below world

  -- ---- turns
  ran_other : (scene : SceneShape) (engine : Engine Body) (turn : Turn) (others : List Instance) (world : World) (below : List (Frame Body)) (body : Body) (reply : Option Value) → length others ≡ length world.instances → ran scene engine turn (other turn.own others world) below body reply ≡ there turn.own others (ran scene engine turn world below body reply)
  ran_other scene engine turn others world below body reply c =
      let run : Sight → Stop Body = λ s. run_on engine turn.setting (pred scene.quantum) body reply s in
      let stop : Stop Body = run (sight_of world turn.own) in
      let frame : Frame Body = record { instance = turn.own; body = stop.body } in
      ap (λ (s : Sight). stopped turn (other turn.own others world) below (run s)) (same_sight turn.own others world c) ∙ (ap (λ (w : World). acted turn stop.request frame below w) (same_after_sight turn.own others world stop.sight c) ∙ acted_other turn others stop.request frame below (with_sight world turn.own stop.sight) (length_after turn.own others world stop.sight c))

  native_entered_other : (turn : Turn) (others : List Instance) (at : FunctionPlace) (arguments : List Value) (world : World) (below : List (Frame Body)) (prompt : Bool) → length others ≡ length world.instances → native_entered turn at arguments (other turn.own others world) below prompt ≡ there turn.own others (native_entered turn at arguments world below prompt)
  native_entered_other turn others at arguments world below true c =
      let done : Value × Sight = performed_at turn.setting at arguments (sight_of world turn.own) in
      ap (λ (s : Sight). let d : Value × Sight = performed_at turn.setting at arguments s in returned turn d.0 below (with_sight (other turn.own others world) turn.own d.1)) (same_sight turn.own others world c) ∙ (ap (λ (w : World). returned turn done.0 below w) (same_after_sight turn.own others world done.1 c) ∙ returned_other turn others done.0 below (with_sight world turn.own done.1))
  native_entered_other turn others at arguments world below false c = native_other turn others at arguments below world c

  entered_other : (scene : SceneShape) (engine : Engine Body) (turn : Turn) (others : List Instance) (world : World) (below : List (Frame Body)) (arguments : List Value) (found : Entered Body) → length others ≡ length world.instances → entered scene engine turn (other turn.own others world) below arguments found ≡ there turn.own others (entered scene engine turn world below arguments found)
  entered_other scene engine turn others world below arguments (Opened body) c = ran_other scene engine turn others world below body None c
  entered_other scene engine turn others world below arguments (NativeThere at) c =
      native_entered_other turn others at arguments world below (is_prompt (binding_in turn.setting.natives at)) c
  entered_other scene engine turn others world below arguments (ReadThere script variable) c =
      ap (λ (s : Sight). returned turn (variable_of s.variables script variable) below (other turn.own others world)) (same_sight turn.own others world c) ∙ returned_other turn others (variable_of (sight_of world turn.own).variables script variable) below world
  entered_other scene engine turn others world below arguments (WriteThere script variable) c =
      let after : Sight → Sight = λ s. record s { variables = with_variable s.variables script variable (first_argument arguments) } in
      ap (λ (s : Sight). returned turn NoneValue below (with_sight (other turn.own others world) turn.own (after s))) (same_sight turn.own others world c) ∙ (ap (λ (w : World). returned turn NoneValue below w) (same_after_sight turn.own others world (after (sight_of world turn.own)) c) ∙ returned_other turn others NoneValue below (with_sight world turn.own (after (sight_of world turn.own))))
  entered_other scene engine turn others world below arguments NothingThere c = returned_other turn others NoneValue below world

  in_turn_other : (scene : SceneShape) (engine : Engine Body) (turn : Turn) (others : List Instance) (world : World) (stack : Stack Body) → turn.own ≡ inner_instance stack → length others ≡ length world.instances → in_turn scene engine turn (other turn.own others world) stack ≡ there turn.own others (in_turn scene engine turn world stack)
  in_turn_other scene engine turn others world Done e c = refl
  in_turn_other scene engine turn others world (ToEnter instance way arguments below) e c =
      let script : instance_script (other turn.own others world) instance ≡ instance_script world instance = subst (λ o. instance_script (other turn.own others world) o ≡ instance_script world o) e (script_same turn.own others world c) in
      let sight : sight_of (other turn.own others world) instance ≡ sight_of world instance = subst (λ o. sight_of (other turn.own others world) o ≡ sight_of world o) e (same_sight turn.own others world c) in
      ap (λ (s : Option ℕ). entered scene engine turn (other turn.own others world) below arguments (engine.enter s (sight_of (other turn.own others world) instance).state way arguments)) script ∙ (ap (λ (s : Sight). entered scene engine turn (other turn.own others world) below arguments (engine.enter (instance_script world instance) s.state way arguments)) sight ∙ entered_other scene engine turn others world below arguments (engine.enter (instance_script world instance) (sight_of world instance).state way arguments) c)
  in_turn_other scene engine turn others world (Running innermost reply below) e c = ran_other scene engine turn others world below innermost.body reply c

-- ---- the whole turn
names_length : (a b : List Instance) → map title b ≡ map title a → length b ≡ length a
names_length a b e = sym (length-map b title) ∙ (ap length e ∙ length-map a title)

-- at the start the other run's world is the one with the other instances
same_start : (own : Option ℕ) (instances others : List Instance) → SameAt own instances others → but_for own others instances ≡ others
same_start None instances others s = refl
same_start (Some i) instances others s = ap (λ x. slice_set others i x) s ∙ set-get_or others i no_instance

takes_by : (own : Option ℕ) (others : List Instance) (k : ℕ) (o : Option ℕ) (world : World) → becomes_owner k o (other own others world) ≡ other own others (becomes_owner k o world)
takes_by own others k None world = refl
takes_by own others k (Some i) world = refl

takes_instances : (k : ℕ) (o : Option ℕ) (world : World) → (becomes_owner k o world).instances ≡ world.instances
takes_instances k None world = refl
takes_instances k (Some i) world = refl

same_here : (own : Option ℕ) (instances : List Instance) → SameAt own instances instances
same_here None instances = tt
same_here (Some i) instances = refl

module _ {Body : Type 0} where
  after_other : (scene : SceneShape) (engine : Engine Body) (world : World) (stacks : List (Stack Body)) (k : ℕ) (others : List Instance) (stack : Stack Body) → map title (but_for (inner_instance stack) others world.instances) ≡ map title world.instances → length others ≡ length world.instances → after_turn scene engine (other (inner_instance stack) others world) stacks k stack ≡ there (inner_instance stack) others (after_turn scene engine world stacks k stack)
  after_other scene engine world stacks k others stack e c =
      let own : Option ℕ = inner_instance stack in
      ap (λ (names : List (ℕ × List ℕ)). in_turn scene engine (record { stack = k; own = own; setting = record (setting_of scene world stacks k own) { instances = names } }) (other own others world) stack) e ∙ in_turn_other scene engine (turn_of scene world stacks k own) others world stack refl c

  -- a turn from the world with the other instances
  pub turned_other : (scene : SceneShape) (engine : Engine Body) (state : State Body) (k : ℕ) (others : List Instance) → DifferElsewhere (instance_in_turn state k) state.world.instances others → turned scene engine (state_with others state) k ≡ state_with (but_for (instance_in_turn state k) others (turned scene engine state k).world.instances) (turned scene engine state k)
  turned_other scene engine state k others d =
      let own : Option ℕ = instance_in_turn state k in
      let stack : Stack Body = stack_at state.stacks k in
      let world : World = takes k state.world in
      let same : world.instances ≡ state.world.instances = takes_instances k (waited_for k state.world.waiters) state.world in
      let start : but_for own others state.world.instances ≡ others = same_start own state.world.instances others d.same in
      let names : map title (but_for own others world.instances) ≡ map title world.instances = subst (λ is. map title (but_for own others is) ≡ map title is) (sym same) (ap (map title) start ∙ d.names) in
      let count : length others ≡ length world.instances = names_length state.world.instances others d.names ∙ ap length (sym same) in
      let taken : takes k (with_instances others state.world) ≡ other own others world = ap (λ is. takes k (with_instances is state.world)) (sym start) ∙ takes_by own others k (waited_for k state.world.waiters) state.world in
      let finish : After Body → State Body = λ after. record { world = turn_ended after.0 k; stacks = slice_set state.stacks k after.1 } in
      ap (λ (w : World). finish (after_turn scene engine w state.stacks k stack)) taken ∙ ap finish (after_other scene engine world state.stacks k others stack names count)

  pub turned_keeps : (scene : SceneShape) (engine : Engine Body) (state : State Body) (k : ℕ) → (turned scene engine state k).world.instances ≡ but_for (instance_in_turn state k) state.world.instances (turned scene engine state k).world.instances
  turned_keeps scene engine state k =
      ap (λ (after : State Body). after.world.instances) (turned_other scene engine state k state.world.instances (record { names = refl; same = same_here (instance_in_turn state k) state.world.instances }))
