-- Acts, turns and runs of any engine.
use Rattle.std.specs.Prelude.{ℕ, zero, suc, pred, ◌+◌, ◌%◌, ◌==◌, Bool, true, false, not, ◌&&◌, ◌||◌, nat_lt, nat_le, if◌then◌else◌, List, [], ◌∷◌, ◌++◌, map, Option, Some, None, slice_get, slice_set}
use Rattle.std.specs.List.{filter, find, list_all, list_any, range_with_len}
use Rattle.core_tree.specs.declared.expression.FunctionPlace.{FunctionPlace}
use Rattle.core_tree.specs.declared.value.Value.{Value}
use Rattle.core_tree.specs.declared.value.Value.TheVariants.{NoneValue}
use Rattle.core_tree.specs.Scenes.{SceneShape, CallShape, OrderShape, Round, Listed}
use Rattle.script_meaning.specs.Locks.{let_go, goes_to_wait, ends, rests, moves, takes, is_ready}
use Rattle.script_meaning.specs.Requests.{Sight, Setting, Request, Method, ParentMethod, GlobalFunction, GlobalNative, Get, Set, LoopPass, Return, binding_in, is_prompt, latency_of, performed_at, first_argument}
use Rattle.script_meaning.specs.Stacks.{Way, ByMethod, ByParent, ByGlobal, ByGet, BySet, Frame, Stack, Done, ToEnter, Running, Entered, Opened, NativeThere, ReadThere, WriteThere, NothingThere, Stop, Engine, State, stack_at, inner_instance, has_room}
use Rattle.script_meaning.specs.World.{World, Instance, title, instance_at, variable_of, with_variable}

-- ---- what a frame on this instance sees of a world, and the world after it changed that
abbrev pub sight_of : World → Option ℕ → Sight
sight_of world None =
    record { variables = []; state = []; arrays = world.arrays; devices = world.devices; output = world.output }
sight_of world (Some instance) =
    record { variables = (instance_at world instance).variables; state = (instance_at world instance).state; arrays = world.arrays; devices = world.devices; output = world.output }

abbrev pub instances_after : World → Option ℕ → Sight → List Instance
instances_after world None sight = world.instances
instances_after world (Some instance) sight =
    slice_set world.instances instance (record (instance_at world instance) { state = sight.state; variables = sight.variables })

abbrev pub with_sight : World → Option ℕ → Sight → World
with_sight world instance sight =
    record world { instances = instances_after world instance sight; arrays = sight.arrays; devices = sight.devices; output = sight.output }

-- ---- acts
-- a stack in its turn: the innermost frame's instance, and what it may read
pub record Turn : Type 0 where
  pub stack : ℕ
  pub own : Option ℕ
  pub setting : Setting

-- the world and the stack after an act
abbrev pub After : Type 0 → Type 0
After Body = World × Stack Body

-- a call to enter is added above these frames
abbrev pub called : {Body : Type 0} → Turn → Option ℕ → Way → List Value → List (Frame Body) → World → After Body
called turn target way arguments below world =
    (moves turn.stack turn.own target world, ToEnter target way arguments below)

-- the innermost of the frames below is given a value, and the stack goes on from its instance. Where there is no
-- frame the stack ends
abbrev pub answered : {Body : Type 0} → Turn → (Option ℕ → World → World) → Value → List (Frame Body) → World → After Body
answered turn goes_on value [] world = (ends turn.stack (let_go turn.stack world), Done)
answered turn goes_on value (caller ∷ below) world = (goes_on caller.instance world, Running caller (Some value) below)

-- the innermost frame was taken off, and gives a value
abbrev pub returned : {Body : Type 0} → Turn → Value → List (Frame Body) → World → After Body
returned turn value below world = answered turn (moves turn.stack turn.own) value below world

-- a native that isn't prompt is performed
abbrev pub native_done : {Body : Type 0} → Turn → FunctionPlace → List Value → List (Frame Body) → World → After Body
native_done turn at arguments below world =
    let done = performed_at turn.setting at arguments (sight_of world turn.own) in
    answered turn (rests turn.stack (latency_of (binding_in turn.setting.natives at) arguments)) done.0 below (with_sight world turn.own done.1)

-- the acts of the body that runs, whose frame this is
abbrev pub acted : {Body : Type 0} → Turn → Request → Frame Body → List (Frame Body) → World → After Body
acted turn (Method target name arguments otherwise) frame below world =
    called turn (Some target) (ByMethod name) arguments (frame ∷ below) world
acted turn (ParentMethod script name arguments otherwise) frame below world =
    (world, ToEnter turn.own (ByParent script name) arguments (frame ∷ below))
acted turn (GlobalFunction script name arguments otherwise) frame below world =
    called turn None (ByGlobal script name) arguments (frame ∷ below) world
acted turn (GlobalNative at arguments) frame below world = native_done turn at arguments (frame ∷ below) world
acted turn (Get target name otherwise) frame below world = called turn (Some target) (ByGet name) [] (frame ∷ below) world
acted turn (Set target name value) frame below world =
    called turn (Some target) (BySet name) (value ∷ []) (frame ∷ below) world
acted turn LoopPass frame below world = (world, Running frame None below)
acted turn (Return value) frame below world = returned turn value below world

-- ---- inner steps up to the act that ends the turn
-- a body goes on after as many loop passes as are left
abbrev pub past_pass : {Body : Type 0} → (Body → Sight → Stop Body) → Stop Body → Request → Stop Body
past_pass go stop LoopPass = go stop.body stop.sight
past_pass go stop _ = stop

abbrev pub run_on : {Body : Type 0} → Engine Body → Setting → ℕ → Body → Option Value → Sight → Stop Body
run_on engine setting zero body reply sight = engine.run setting body reply sight
run_on engine setting (suc left) body reply sight =
    let stop = engine.run setting body reply sight in
    past_pass (λ next after. run_on engine setting left next None after) stop stop.request

-- the body runs to an act, which is done
abbrev pub stopped : {Body : Type 0} → Turn → World → List (Frame Body) → Stop Body → After Body
stopped turn world below stop =
    acted turn stop.request (record { instance = turn.own; body = stop.body }) below (with_sight world turn.own stop.sight)

abbrev pub ran : {Body : Type 0} → SceneShape → Engine Body → Turn → World → List (Frame Body) → Body → Option Value → After Body
ran scene engine turn world below body reply =
    stopped turn world below (run_on engine turn.setting (pred scene.quantum) body reply (sight_of world turn.own))

-- ---- entering a call
abbrev pub native_entered : {Body : Type 0} → Turn → FunctionPlace → List Value → World → List (Frame Body) → Bool → After Body
native_entered turn at arguments world below true =
    let done = performed_at turn.setting at arguments (sight_of world turn.own) in
    returned turn done.0 below (with_sight world turn.own done.1)
native_entered turn at arguments world below false = native_done turn at arguments below world

abbrev pub entered : {Body : Type 0} → SceneShape → Engine Body → Turn → World → List (Frame Body) → List Value → Entered Body → After Body
entered scene engine turn world below arguments (Opened body) = ran scene engine turn world below body None
entered scene engine turn world below arguments (NativeThere at) =
    native_entered turn at arguments world below (is_prompt (binding_in turn.setting.natives at))
entered scene engine turn world below arguments (ReadThere script variable) =
    returned turn (variable_of (sight_of world turn.own).variables script variable) below world
entered scene engine turn world below arguments (WriteThere script variable) =
    let sight = sight_of world turn.own in
    returned turn NoneValue below (with_sight world turn.own (record sight { variables = with_variable sight.variables script variable (first_argument arguments) }))
entered scene engine turn world below arguments NothingThere = returned turn NoneValue below world

abbrev pub instance_script : World → Option ℕ → Option ℕ
instance_script world None = None
instance_script world (Some instance) = Some (instance_at world instance).script

-- ---- a turn
-- no run comes to the turn of a stack that is done, since such a stack is never ready
abbrev pub in_turn : {Body : Type 0} → SceneShape → Engine Body → Turn → World → Stack Body → After Body
in_turn scene engine turn world Done = (world, Done)
in_turn scene engine turn world (ToEnter instance way arguments below) =
    entered scene engine turn world below arguments (engine.enter (instance_script world instance) (sight_of world instance).state way arguments)
in_turn scene engine turn world (Running innermost reply below) = ran scene engine turn world below innermost.body reply

abbrev pub setting_of : {Body : Type 0} → SceneShape → World → List (Stack Body) → ℕ → Option ℕ → Setting
setting_of scene world stacks k own =
    record { stack = k; self = own; outline = world.outline; instances = map title world.instances; natives = scene.natives; has_room = has_room stacks k }

abbrev pub turn_of : {Body : Type 0} → SceneShape → World → List (Stack Body) → ℕ → Option ℕ → Turn
turn_of scene world stacks k own = record { stack = k; own = own; setting = setting_of scene world stacks k own }

abbrev pub after_turn : {Body : Type 0} → SceneShape → Engine Body → World → List (Stack Body) → ℕ → Stack Body → After Body
after_turn scene engine world stacks k stack =
    in_turn scene engine (turn_of scene world stacks k (inner_instance stack)) world stack

abbrev pub turn_ended : World → ℕ → World
turn_ended world k = record world { turn = world.turn + 1; last = Some k }

-- stack k has its turn
abbrev pub turned : {Body : Type 0} → SceneShape → Engine Body → State Body → ℕ → State Body
turned scene engine state k =
    let after = after_turn scene engine (takes k state.world) state.stacks k (stack_at state.stacks k) in record {
      world = turn_ended after.0 k;
      stacks = slice_set state.stacks k after.1;
    }

-- ---- the start of a turn
abbrev pub call_started : {Body : Type 0} → State Body → CallShape → State Body
call_started state call = record {
  world = goes_to_wait state.world.started (Some call.instance) (record state.world { started = state.world.started + 1 });
  stacks = state.stacks ++ ToEnter (Some call.instance) (ByMethod call.function) call.arguments [] ∷ [];
}

-- the scene's calls of this turn start, in order
abbrev pub calls_started : {Body : Type 0} → List CallShape → State Body → State Body
calls_started [] state = state
calls_started (call ∷ rest) state =
    calls_started rest (if call.turn == state.world.turn then call_started state call else state)

abbrev pub is_due : ℕ → ℕ × ℕ → Bool
is_due turn sleeper = nat_le sleeper.1 turn

abbrev pub not_due : ℕ → ℕ × ℕ → Bool
not_due turn sleeper = not (is_due turn sleeper)

-- these sleepers go to wait, in order
abbrev pub all_wait : {Body : Type 0} → List (Stack Body) → List (ℕ × ℕ) → World → World
all_wait stacks [] world = world
all_wait stacks (sleeper ∷ rest) world =
    all_wait stacks rest (goes_to_wait sleeper.0 (inner_instance (stack_at stacks sleeper.0)) world)

abbrev pub awoken : {Body : Type 0} → State Body → State Body
awoken state =
    record state { world = all_wait state.stacks (filter (is_due state.world.turn) state.world.asleep) (record state.world { asleep = filter (not_due state.world.turn) state.world.asleep }) }

abbrev pub begun : {Body : Type 0} → SceneShape → State Body → State Body
begun scene state = awoken (calls_started scene.calls state)

-- ---- the choice
-- the stack after the last one, from which a round begins
abbrev pub round_start : Option ℕ → ℕ
round_start None = 0
round_start (Some k) = k + 1

abbrev pub round : World → List ℕ
round world = map (λ n. (round_start world.last + n) % world.started) (range_with_len 0 world.started)

abbrev pub if_ready : World → Option ℕ → Option ℕ
if_ready world None = None
if_ready world (Some k) = if is_ready world k then Some k else None

abbrev pub chosen : OrderShape → World → Option ℕ
chosen Round world = find (is_ready world) (round world)
chosen (Listed stacks) world = if_ready world (slice_get stacks world.turn)

-- ---- the end
abbrev pub all_done : World → Bool
all_done world = list_all (λ k. list_any (λ stack. stack == k) world.done) (range_with_len 0 world.started)

abbrev pub no_call_left : List CallShape → World → Bool
no_call_left calls world = list_all (λ call. nat_lt call.turn world.turn) calls

abbrev pub round_ended : OrderShape → List CallShape → World → Bool
round_ended Round calls world = all_done world && no_call_left calls world
round_ended (Listed stacks) calls world = false

abbrev pub has_ended : SceneShape → World → Bool
has_ended scene world = (world.turn == scene.turns) || round_ended scene.order scene.calls world

-- ---- runs
abbrev pub idled : {Body : Type 0} → State Body → State Body
idled state = record state { world = record state.world { turn = state.world.turn + 1 } }

abbrev pub chosen_turned : {Body : Type 0} → SceneShape → Engine Body → State Body → Option ℕ → State Body
chosen_turned scene engine state None = idled state
chosen_turned scene engine state (Some k) = turned scene engine state k

-- one turn, from its start
abbrev pub step : {Body : Type 0} → SceneShape → Engine Body → State Body → State Body
step scene engine state =
    let beginning = begun scene state in
    chosen_turned scene engine beginning (chosen scene.order beginning.world)

-- the states of a run, which ends where it has ended or after so many turns
abbrev pub states_from : {Body : Type 0} → SceneShape → Engine Body → ℕ → State Body → List (State Body)
states_from scene engine zero state = state ∷ []
states_from scene engine (suc left) state =
    state ∷ (if has_ended scene state.world then [] else states_from scene engine left (step scene engine state))
