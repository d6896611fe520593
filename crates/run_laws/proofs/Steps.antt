-- Acts, turns and runs keep each stack in one place.
use Rattle.std.proofs.Common.{◌≡◌, ◌≢◌, ℕ, zero, suc, pred, ◌+◌, ◌<◌, Bool, true, false, cond, List, [], ◌∷◌, Option, Some, None, refl, sym, ap, subst, arith}
use Rattle.std.specs.Prelude.{slice_set}
use Rattle.std.proofs.lemmas.Bool.{eqb-true}
use Rattle.core_tree.specs.declared.expression.FunctionPlace.{FunctionPlace}
use Rattle.core_tree.specs.declared.value.Value.{Value}
use Rattle.core_tree.specs.declared.value.Value.TheVariants.{NoneValue}
use Rattle.core_tree.specs.Scenes.{SceneShape}
use Rattle.run_laws.specs.Exclusive.{IsOn, HasReply, is_done}
use Rattle.script_meaning.specs.Locks.{let_go, goes_to_wait, ends, rests, same_instance, moves, takes, is_ready}
use Rattle.script_meaning.specs.Requests.{Sight, Request, Method, ParentMethod, GlobalFunction, GlobalNative, Get, Set, LoopPass, Return, binding_in, is_prompt, latency_of, performed_at}
use Rattle.script_meaning.specs.Stacks.{ByMethod, ByParent, ByGlobal, ByGet, BySet, Frame, Stack, Done, ToEnter, Running, Entered, Opened, NativeThere, ReadThere, WriteThere, NothingThere, Stop, Engine, State, stack_at, inner_instance}
use Rattle.script_meaning.specs.Turns.{sight_of, with_sight, instances_after, Turn, After, answered, returned, native_done, acted, run_on, ran, native_entered, entered, in_turn, turn_of, after_turn, turned, instance_script}
use Rattle.script_meaning.specs.World.{World}
use Rattle.run_laws.proofs.Standing.{StandsBut, with_rest, runs, let_go_stands, wait_stands, sleep_stands, end_stands, is_on_inner, runs_open, has_started, take_stands, own_stack, kept_stands, away_stands}

same_instance-true : (a b : Option ℕ) → same_instance a b ≡ true → a ≡ b
same_instance-true None None h = refl
same_instance-true None (Some b) h = absurd (cc)
same_instance-true (Some a) None h = absurd (cc)
same_instance-true (Some a) (Some b) h = ap (λ n. Some n) (eqb-true a b h)

module _ {Body : Type 0} where
  -- a stack in its turn holds what its innermost frame is on
  pub record InTurn (world : World) (stacks : List (Stack Body)) (k : ℕ) (own : Option ℕ) : Type 0 where
    pub stands : StandsBut [] world stacks
    pub runs_now : runs world k
    pub on : IsOn own (stack_at stacks k)

  -- after an act it stands again
  abbrev pub Good : List (Stack Body) → ℕ → After Body → Type 0
  Good stacks k after = StandsBut [] after.0 (slice_set stacks k after.1)

  started_of : (world : World) (stacks : List (Stack Body)) (k : ℕ) (own : Option ℕ) → InTurn world stacks k own → k < world.started
  started_of world stacks k own i = let r = i.runs_now in has_started world stacks k i.stands (omega (arith, r))

  gone : (world : World) (stacks : List (Stack Body)) (k : ℕ) (own : Option ℕ) (stack : Stack Body) → InTurn world stacks k own → StandsBut (k ∷ []) (let_go k world) (slice_set stacks k stack)
  gone world stacks k own stack i =
      away_stands (let_go k world) stacks k stack (started_of world stacks k own i) (let_go_stands world stacks k i.runs_now i.stands)

  now_there : (world : World) (stacks : List (Stack Body)) (k : ℕ) (own : Option ℕ) (stack : Stack Body) → InTurn world stacks k own → stack_at (slice_set stacks k stack) k ≡ stack
  now_there world stacks k own stack i =
      let h = started_of world stacks k own i in
      let c = (i.stands).count in own_stack stacks k stack (omega arith)

  kept_good : (world : World) (stacks : List (Stack Body)) (k : ℕ) (own : Option ℕ) (stack : Stack Body) → IsOn own stack → InTurn world stacks k own → StandsBut [] world (slice_set stacks k stack)
  kept_good world stacks k own stack e i = kept_stands world stacks k own stack i.runs_now i.on e i.stands

  waits_good : (world : World) (stacks : List (Stack Body)) (k : ℕ) (own to : Option ℕ) (stack : Stack Body) → IsOn to stack → InTurn world stacks k own → StandsBut [] (goes_to_wait k to (let_go k world)) (slice_set stacks k stack)
  waits_good world stacks k own to stack e i =
      wait_stands (let_go k world) (slice_set stacks k stack) k [] to (subst (λ st. IsOn to st) (sym (now_there world stacks k own stack i)) e) (gone world stacks k own stack i)

  moved_by : (same : Bool) (world : World) (stacks : List (Stack Body)) (k : ℕ) (own to : Option ℕ) (stack : Stack Body) → (same ≡ true → own ≡ to) → IsOn to stack → InTurn world stacks k own → StandsBut [] (cond same world (goes_to_wait k to (let_go k world))) (slice_set stacks k stack)
  moved_by true world stacks k own to stack s e i = kept_good world stacks k own stack (subst (λ o. IsOn o stack) (sym (s refl)) e) i
  moved_by false world stacks k own to stack s e i = waits_good world stacks k own to stack e i

  moves_good : (world : World) (stacks : List (Stack Body)) (k : ℕ) (own to : Option ℕ) (stack : Stack Body) → IsOn to stack → InTurn world stacks k own → StandsBut [] (moves k own to world) (slice_set stacks k stack)
  moves_good world stacks k own to stack e i = moved_by (same_instance own to) world stacks k own to stack (same_instance-true own to) e i

  rests_good : (world : World) (stacks : List (Stack Body)) (k : ℕ) (own to : Option ℕ) (latency : ℕ) (stack : Stack Body) → IsOn to stack → HasReply stack → InTurn world stacks k own → StandsBut [] (rests k latency to world) (slice_set stacks k stack)
  rests_good world stacks k own to zero stack e r i = waits_good world stacks k own to stack e i
  rests_good world stacks k own to (suc latency) stack e r i =
      sleep_stands (let_go k world) (slice_set stacks k stack) k _ [] (subst (λ st. HasReply st) (sym (now_there world stacks k own stack i)) r) (gone world stacks k own stack i)

  ends_good : (world : World) (stacks : List (Stack Body)) (k : ℕ) (own : Option ℕ) → InTurn world stacks k own → StandsBut [] (ends k (let_go k world)) (slice_set stacks k Done)
  ends_good world stacks k own i =
      end_stands (let_go k world) (slice_set stacks k Done) k [] (ap is_done (now_there world stacks k own Done i)) (gone world stacks k own Done i)

  -- ---- acts
  -- what a body sees and changes has no part in this
  seen : (world : World) (stacks : List (Stack Body)) (k : ℕ) (own : Option ℕ) (sight : Sight) → InTurn world stacks k own → InTurn (with_sight world own sight) stacks k own
  seen world stacks k own sight i = record {
    stands = with_rest [] world stacks world.turn world.last (instances_after world own sight) sight.arrays sight.devices sight.output i.stands;
    runs_now = i.runs_now;
    on = i.on;
  }

  answered_good : (turn : Turn) (goes_on : Option ℕ → World → World) (value : Value) (below : List (Frame Body)) (world : World) (stacks : List (Stack Body)) → ((caller : Frame Body) (rest : List (Frame Body)) → StandsBut [] (goes_on caller.instance world) (slice_set stacks turn.stack (Running caller (Some value) rest))) → InTurn world stacks turn.stack turn.own → Good stacks turn.stack (answered turn goes_on value below world)
  answered_good turn goes_on value [] world stacks good i = ends_good world stacks turn.stack turn.own i
  answered_good turn goes_on value (caller ∷ below) world stacks good i = good caller below

  returned_good : (turn : Turn) (value : Value) (below : List (Frame Body)) (world : World) (stacks : List (Stack Body)) → InTurn world stacks turn.stack turn.own → Good stacks turn.stack (returned turn value below world)
  returned_good turn value below world stacks i =
      answered_good turn (moves turn.stack turn.own) value below world stacks (λ caller rest. moves_good world stacks turn.stack turn.own caller.instance (Running caller (Some value) rest) refl i) i

  native_good : (turn : Turn) (at : FunctionPlace) (arguments : List Value) (below : List (Frame Body)) (world : World) (stacks : List (Stack Body)) → InTurn world stacks turn.stack turn.own → Good stacks turn.stack (native_done turn at arguments below world)
  native_good turn at arguments below world stacks i =
      let done = performed_at turn.setting at arguments (sight_of world turn.own) in
      let after : World = with_sight world turn.own done.1 in
      let latency = latency_of (binding_in turn.setting.natives at) arguments in
      let j : InTurn after stacks turn.stack turn.own = seen world stacks turn.stack turn.own done.1 i in
      answered_good turn (rests turn.stack latency) done.0 below after stacks (λ caller rest. rests_good after stacks turn.stack turn.own caller.instance latency (Running caller (Some done.0) rest) refl tt j) j

  acted_good : (turn : Turn) (request : Request) (frame : Frame Body) (below : List (Frame Body)) (world : World) (stacks : List (Stack Body)) → frame.instance ≡ turn.own → InTurn world stacks turn.stack turn.own → Good stacks turn.stack (acted turn request frame below world)
  acted_good turn (Method target name arguments otherwise) frame below world stacks e i =
      moves_good world stacks turn.stack turn.own (Some target) (ToEnter (Some target) (ByMethod name) arguments (frame ∷ below)) refl i
  acted_good turn (ParentMethod script name arguments otherwise) frame below world stacks e i =
      kept_good world stacks turn.stack turn.own (ToEnter turn.own (ByParent script name) arguments (frame ∷ below)) refl i
  acted_good turn (GlobalFunction script name arguments otherwise) frame below world stacks e i =
      moves_good world stacks turn.stack turn.own None (ToEnter None (ByGlobal script name) arguments (frame ∷ below)) refl i
  acted_good turn (GlobalNative at arguments) frame below world stacks e i = native_good turn at arguments (frame ∷ below) world stacks i
  acted_good turn (Get target name otherwise) frame below world stacks e i =
      moves_good world stacks turn.stack turn.own (Some target) (ToEnter (Some target) (ByGet name) [] (frame ∷ below)) refl i
  acted_good turn (Set target name value) frame below world stacks e i =
      moves_good world stacks turn.stack turn.own (Some target) (ToEnter (Some target) (BySet name) (value ∷ []) (frame ∷ below)) refl i
  acted_good turn LoopPass frame below world stacks e i = kept_good world stacks turn.stack turn.own (Running frame None below) e i
  acted_good turn (Return value) frame below world stacks e i = returned_good turn value below world stacks i

  -- ---- turns
  ran_good : (scene : SceneShape) (engine : Engine Body) (turn : Turn) (world : World) (below : List (Frame Body)) (body : Body) (reply : Option Value) (stacks : List (Stack Body)) → InTurn world stacks turn.stack turn.own → Good stacks turn.stack (ran scene engine turn world below body reply)
  ran_good scene engine turn world below body reply stacks i =
      let stop : Stop Body = run_on engine turn.setting (pred scene.quantum) body reply (sight_of world turn.own) in
      acted_good turn stop.request (record { instance = turn.own; body = stop.body }) below (with_sight world turn.own stop.sight) stacks refl (seen world stacks turn.stack turn.own stop.sight i)

  native_entered_good : (turn : Turn) (at : FunctionPlace) (arguments : List Value) (world : World) (below : List (Frame Body)) (prompt : Bool) (stacks : List (Stack Body)) → InTurn world stacks turn.stack turn.own → Good stacks turn.stack (native_entered turn at arguments world below prompt)
  native_entered_good turn at arguments world below true stacks i =
      let done = performed_at turn.setting at arguments (sight_of world turn.own) in
      returned_good turn done.0 below (with_sight world turn.own done.1) stacks (seen world stacks turn.stack turn.own done.1 i)
  native_entered_good turn at arguments world below false stacks i = native_good turn at arguments below world stacks i

  entered_good : (scene : SceneShape) (engine : Engine Body) (turn : Turn) (world : World) (below : List (Frame Body)) (arguments : List Value) (there : Entered Body) (stacks : List (Stack Body)) → InTurn world stacks turn.stack turn.own → Good stacks turn.stack (entered scene engine turn world below arguments there)
  entered_good scene engine turn world below arguments (Opened body) stacks i = ran_good scene engine turn world below body None stacks i
  entered_good scene engine turn world below arguments (NativeThere at) stacks i =
      native_entered_good turn at arguments world below (is_prompt (binding_in turn.setting.natives at)) stacks i
  entered_good scene engine turn world below arguments (ReadThere script variable) stacks i = returned_good turn _ below world stacks i
  entered_good scene engine turn world below arguments (WriteThere script variable) stacks i =
      returned_good turn NoneValue below _ stacks (seen world stacks turn.stack turn.own _ i)
  entered_good scene engine turn world below arguments NothingThere stacks i = returned_good turn NoneValue below world stacks i

  in_turn_good : (scene : SceneShape) (engine : Engine Body) (turn : Turn) (world : World) (stack : Stack Body) (stacks : List (Stack Body)) → stack ≢ Done → InTurn world stacks turn.stack turn.own → Good stacks turn.stack (in_turn scene engine turn world stack)
  in_turn_good scene engine turn world Done stacks h i = absurd (h refl)
  in_turn_good scene engine turn world (ToEnter instance way arguments below) stacks h i =
      entered_good scene engine turn world below arguments (engine.enter (instance_script world instance) (sight_of world instance).state way arguments) stacks i
  in_turn_good scene engine turn world (Running innermost reply below) stacks h i = ran_good scene engine turn world below innermost.body reply stacks i

  pub turned_stands : (scene : SceneShape) (engine : Engine Body) (state : State Body) (k : ℕ) → is_ready state.world k ≡ true → StandsBut [] state.world state.stacks → StandsBut [] (turned scene engine state k).world (turned scene engine state k).stacks
  turned_stands scene engine state k ready s =
      let world : World = takes k state.world in
      let stack : Stack Body = stack_at state.stacks k in
      let t = take_stands state.world state.stacks k ready s in
      let after = after_turn scene engine world state.stacks k stack in
      let h : stack ≢ Done = runs_open world state.stacks k t.0 t.1 in
      with_rest [] after.0 (slice_set state.stacks k after.1) (after.0.turn + 1) (Some k) after.0.instances after.0.arrays after.0.devices after.0.output (in_turn_good scene engine (turn_of scene world state.stacks k (inner_instance stack)) world stack state.stacks h (record { stands = t.0; runs_now = t.1; on = is_on_inner stack h }))
