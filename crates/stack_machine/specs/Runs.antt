-- What the run of a body is in the terms of the definitions, with the lines that it writes.
use Rattle.std.specs.Prelude.{◌≡◌, ℕ, zero, suc, ◌+◌, ◌<◌, ◌≤◌, ◌^◌, pred, Bool, true, false, List, ◌++◌, drop, flat_map, length, map, Option, Some, None, IfSome, slice_get}
use Rattle.core_tree.specs.declared.expression.FunctionPlace.{FunctionPlace}
use Rattle.core_tree.specs.declared.value.Value.{Value}
use Rattle.core_tree.specs.declared.value.Value.TheVariants.{NoneValue}
use Rattle.core_tree.specs.Device.{DeviceState}
use Rattle.papy_io.specs.Sink.{Appended}
use Rattle.script_meaning.specs.Report.{ended, line_text}
use Rattle.script_meaning.specs.Requests.{Request, GlobalNative, LoopPass, Return, Sight, performed_at}
use Rattle.script_meaning.specs.Requests as meant
use Rattle.script_meaning.specs.Turns.{run_on}
use Rattle.script_meaning.specs.World.{Line}
use Rattle.code_meaning.specs.Engine.{code_engine}
use Rattle.code_meaning.specs.Execution.{Halt, reply_result, run_from, with_reply}
use Rattle.code_meaning.specs.LookUp.{Body, BodyPlace, function_at, script_of}
use Rattle.code_meaning.specs.Operands.{Home as Around, Inner as Within}
use Rattle.loaded_code.specs.Plain.{instruction_of}
use Rattle.loaded_code.specs.declared.instruction.LoadedInstruction.{LoadedInstruction}
use Rattle.loaded_code.specs.declared.script.LoadedFunction.{LoadedFunction}
use Rattle.loaded_code.specs.declared.script.MethodPlace.{MethodPlace}
use Rattle.pex_verify.specs.Plain.{outline_of, scripts_of}
use Rattle.pex_verify.specs.Sets.{LoadedSet}
use Rattle.instance_store.specs.Instances.{InstanceState}
use Rattle.body_runner.specs.declared.body.Home.{Home}
use Rattle.body_runner.specs.declared.body.Inner.{Inner}
use Rattle.body_runner.specs.declared.body.Turn.{Turn}
use Rattle.body_runner.specs.declared.frame.Call.{Call}
use Rattle.body_runner.specs.declared.frame.Frame.{Frame}
use Rattle.body_runner.specs.declared.setting.Setting.{Setting}
use Rattle.body_runner.specs.declared.store.Store.{Store}
use Rattle.body_runner.specs.declared.instructions.Step.{Step}
use Rattle.body_runner.specs.declared.instructions.Step.TheVariants as steps
use Rattle.body_runner.specs.Bodies.{KeepsOthers, home_of, inner_of, printing, runs}
use Rattle.body_runner.specs.Frames.{place_of}
use Rattle.body_runner.specs.Leaving.{IsLeaving, IsRequest, way_asked, way_of, way_told}
use Rattle.body_runner.specs.Settings.{binding_in, function_of}
use Rattle.body_runner.specs.Rows.{IsCodedIn, LeavesAt}
use Rattle.body_runner.specs.Sights.{IsThere, Rest, instances_after, sight_of, titles_of}
use Rattle.body_runner.specs.Steps.{is_leaving, Gives}
use Rattle.stack_machine.specs.declared.run.Act.{Act}
use Rattle.stack_machine.specs.declared.run.Act.TheVariants as acts
use Rattle.stack_machine.specs.declared.run.Halt.{Halt as Halts}

-- ---- what is written
abbrev pub bytes_of : List Line → List ℕ
bytes_of lines = flat_map ended (map line_text lines)

-- these devices, where these lines were printed before
abbrev pub beside : List DeviceState → List Line → Rest
beside devices printed = record { devices = devices; output = printed }

-- ---- what the set and the scene keep
-- a native by its place
abbrev pub native_at : MethodPlace → FunctionPlace
native_at at = record { script = at.script; place = at.place }

-- natives are bound as the scene says
abbrev pub AreBound : Setting → Type 0
AreBound setting =
    (at : MethodPlace) → binding_in setting.bindings.natives.items at ≡ meant.binding_in setting.scene.natives.items (native_at at)

-- what each call and each property use of a function names was found
abbrev pub AreFound : LoadedSet → LoadedFunction → Type 0
AreFound set function =
    (place : ℕ) (i : LoadedInstruction) → slice_get function.code.items place ≡ Some i → is_leaving i ≡ true → IsLeaving set i

-- ---- natives
-- a setting, with what the turn of a stack says of it
abbrev pub actor : Turn → meant.Setting → meant.Setting
actor turn setting =
    record setting { stack = turn.stack; outline = outline_of turn.setting.now.loaded; natives = turn.setting.now.scene.natives.items }

-- a native was performed: its reply, the devices after it, and the lines that it wrote
pub record Performs (turn : Turn) (at : MethodPlace) (arguments : List Value) (reply : Value) (devices devices' : List DeviceState) (before now : Option (List ℕ)) : Type 0 where
  pub lines : List Line
  pub written : Appended (bytes_of lines) before now
  pub performed : (setting : meant.Setting) (sight : Sight) → performed_at (actor turn setting) (native_at at) arguments (record sight { devices = devices }) ≡ (reply, record sight { devices = devices'; output = sight.output ++ lines })

-- ---- acts
-- the call that the instruction at a place makes is what is requested
pub record IsCall (function : LoadedFunction) (script : ℕ) (own : Option ℕ) (at : ℕ) (call : Call) (request : Request) : Type 0 where
  pub instruction : LoadedInstruction
  pub is : slice_get function.code.items at ≡ Some instruction
  pub way : way_of script instruction ≡ Some call.way
  pub told : way_told script instruction ≡ way_asked request
  pub kept : call.kept ≡ None
  pub is_request : IsRequest own request call.instance call.arguments.items

-- the act of a body on an instance, which stands at a place of the function of a script, is what is requested
abbrev pub IsAct : LoadedFunction → ℕ → Option ℕ → ℕ → Act → Request → Type 0
IsAct function script own at acts.Pass request = request ≡ LoopPass
IsAct function script own at (acts.Call call) request = IsCall function script own at call request
IsAct function script own at (acts.Native place arguments) request = request ≡ GlobalNative (native_at place) arguments.items
IsAct function script own at (acts.Return value) request = request ≡ Return value

-- ---- runs
-- what a definition comes to, by the lines printed before
abbrev pub Meant : Type 0
Meant = List Line → Halt

-- a body came to an act at a place, and wrote lines
pub record ComesTo (home : Home) (meaning : Meant) (at : ℕ) (act : Act) (devices : List DeviceState) (before now : Option (List ℕ)) (inner : Inner) : Type 0 where
  pub lines : List Line
  pub written : Appended (bytes_of lines) before now
  pub request : Request
  pub is_act : IsAct home.function.now home.script home.instance at act request
  pub comes : (printed : List Line) → meaning printed ≡ record { request = request; at = at; inner = inner_of home inner (beside devices (printed ++ lines)) }

-- a body goes on at a place, and wrote lines
pub record GoesTo (home : Home) (meaning : Meant) (place : ℕ) (devices : List DeviceState) (before now : Option (List ℕ)) (inner : Inner) : Type 0 where
  pub lines : List Line
  pub written : Appended (bytes_of lines) before now
  pub goes : (printed : List Line) → meaning printed ≡ runs home place inner (beside devices (printed ++ lines))

-- what the body does from a place on
abbrev pub from_place : Home → ℕ → Inner → List DeviceState → Meant
from_place home place inner devices printed = runs home place inner (beside devices printed)

-- what a body needs of its set, of its scene and of the store
pub record IsReady (home : Home) (instances : List InstanceState) : Type 0 where
  pub there : IsThere home.instance instances
  pub coded : IsCodedIn home
  pub found : AreFound home.turn.now.setting.now.loaded home.function.now
  pub bound : AreBound home.turn.now.setting.now

-- what the body does where a row halted at a place
abbrev pub halted : Home → ℕ → Step → Inner → Rest → Halt
halted home place steps.Done inner rest = runs home place inner rest
halted home place (steps.Faulted fault) inner rest = runs home (suc place) inner (printing home place (Some fault) rest)
halted home place (steps.Jump landing) inner rest = record { request = LoopPass; at = landing; inner = inner_of home inner rest }
halted home place steps.Leaves inner rest = runs home place inner rest

abbrev pub IsHalt : Home → ℕ → Step → Type 0
IsHalt home place steps.Done = length home.function.now.code.items ≤ place
IsHalt home place (steps.Faulted fault) = Unit {0}
IsHalt home place (steps.Jump landing) = Unit {0}
IsHalt home place steps.Leaves = LeavesAt home place

abbrev pub from_halt : Home → ℕ → Step → Inner → List DeviceState → Meant
from_halt home place halt inner devices printed = halted home place halt inner (beside devices printed)

-- a body came to an act, or goes on behind a place
abbrev pub Comes : Home → Meant → ℕ → Option Halts → List DeviceState → Option (List ℕ) → Option (List ℕ) → Inner → Type 0
Comes home meaning place None devices before now inner = GoesTo home meaning (suc place) devices before now inner
Comes home meaning place (Some halt) devices before now inner = ComesTo home meaning halt.at halt.act devices before now inner

-- the same, and it changes no instance but its own
pub record Follows (home : Home) (meaning : Meant) (place : ℕ) (halt : Option Halts) (devices : List DeviceState) (before now : Option (List ℕ)) (old new : Inner) : Type 0 where
  pub comes : Comes home meaning place halt devices before now new
  pub kept : KeepsOthers home old new

-- a body came to an act
pub record RunsTo (home : Home) (meaning : Meant) (halt : Halts) (devices : List DeviceState) (before now : Option (List ℕ)) (old new : Inner) : Type 0 where
  pub comes : ComesTo home meaning halt.at halt.act devices before now new
  pub kept : KeepsOthers home old new

-- a body goes on at a place
pub record HasRun (home : Home) (meaning : Meant) (place : ℕ) (devices : List DeviceState) (before now : Option (List ℕ)) (old new : Inner) : Type 0 where
  pub goes : GoesTo home meaning place devices before now new
  pub kept : KeepsOthers home old new

-- within a body, where a native's reply and what it saw are kept
abbrev pub asked_reply : Home → LoadedInstruction → Value × Sight → Within → Within
asked_reply home call done inner =
    with_reply (home_of home) (reply_result (instruction_of call)) done.0 (record inner { sight = done.1 })

-- the reply of a prompt native is stored where its call says
pub record Answers (home : Home) (call : LoadedInstruction) (at : MethodPlace) (arguments : List Value) (devices devices' : List DeviceState) (before now : Option (List ℕ)) (old new : Inner) : Type 0 where
  pub lines : List Line
  pub written : Appended (bytes_of lines) before now
  pub answered : (printed : List Line) → asked_reply home call (performed_at (home_of home).setting (native_at at) arguments (inner_of home old (beside devices printed)).sight) (inner_of home old (beside devices printed)) ≡ inner_of home new (beside devices' (printed ++ lines))
  pub kept : KeepsOthers home old new

-- the reply to the act at a place is stored where that says
abbrev pub GivesAt : Home → Option LoadedInstruction → Value → Inner → Inner → Type 0
GivesAt home (Some call) reply old new = Gives home call reply old new
GivesAt home None reply old new = new ≡ old

abbrev pub is_pass : Act → Bool
is_pass acts.Pass = true
is_pass (acts.Call call) = false
is_pass (acts.Native at arguments) = false
is_pass (acts.Return value) = false

-- ---- several passes
-- a body goes on after as many loop passes as are left
abbrev pub past_pass : (ℕ → Within → Halt) → Halt → Request → Halt
past_pass go halt LoopPass = go halt.at halt.inner
past_pass go halt _ = halt

abbrev pub run_passes : Around → ℕ → ℕ → Within → Halt
run_passes home zero place inner = run_from home place (drop place home.function.code) 0 inner
run_passes home (suc left) place inner =
    let halt = run_from home place (drop place home.function.code) 0 inner in
    past_pass (run_passes home left) halt halt.request

abbrev pub from_passes : Home → ℕ → ℕ → Inner → List DeviceState → Meant
from_passes home left place inner devices printed =
    run_passes (home_of home) left place (inner_of home inner (beside devices printed))

-- a body goes on at a place, with so many loop passes left
pub record HasPassed (home : Home) (meaning : Meant) (left place : ℕ) (devices : List DeviceState) (before now : Option (List ℕ)) (old new : Inner) : Type 0 where
  pub lines : List Line
  pub written : Appended (bytes_of lines) before now
  pub goes : (printed : List Line) → meaning printed ≡ run_passes (home_of home) left place (inner_of home new (beside devices (printed ++ lines)))
  pub kept : KeepsOthers home old new

-- ---- the engine of code
-- the function and the script of a body are those that stand at a place of the set
pub record IsBodyAt (home : Home) (place : BodyPlace) : Type 0 where
  pub function : function_at (home_of home).scripts place ≡ Some (home_of home).function
  pub script : script_of place ≡ home.script

-- a body came to an act, as the engine of code runs it, given a reply where it awaits one, through as many loop passes as a
-- turn may have: from slots and a store to others. No instance changes but its own
pub record Stops (home : Home) (place : BodyPlace) (from : ℕ) (reply : Option Value) (halt : Halts) (devices devices' : List DeviceState) (before now : Option (List ℕ)) (first last : List Value) (old new : Store) : Type 0 where
  pub lines : List Line
  pub written : Appended (bytes_of lines) before now
  pub request : Request
  pub is_act : IsAct home.function.now home.script home.instance halt.at halt.act request
  pub stops : (printed : List Line) → run_on (code_engine (home_of home).setting.outline (home_of home).scripts) (home_of home).setting (pred home.turn.now.setting.now.scene.quantum) (record { place = place; instruction = from; slots = first }) reply (sight_of old.instances old.arrays home.instance (beside devices printed)) ≡ record { request = request; body = record { place = place; instruction = halt.at; slots = last }; sight = sight_of new.instances new.arrays home.instance (beside devices' (printed ++ lines)) }
  pub kept : new.instances ≡ instances_after old.instances home.instance new.instances

-- ---- frames
abbrev pub body_of : Frame → Body
body_of frame = record { place = place_of frame.body; instruction = frame.place; slots = frame.slots.items }

-- the setting of a body on an instance, where its stack has room for one more frame or not
abbrev pub setting_on : Turn → Bool → Option ℕ → meant.Setting
setting_on turn has_room own = record {
  stack = turn.stack;
  self = own;
  outline = outline_of turn.setting.now.loaded;
  instances = titles_of turn.setting.now.scene;
  natives = turn.setting.now.scene.natives.items;
  has_room = has_room;
}

-- what a frame needs of its set, of its scene and of the store
pub record MayRun (turn : Turn) (frame : Frame) (instances : List InstanceState) : Type 0 where
  pub there : IsThere frame.instance instances
  pub found : IfSome (function_of turn.setting.now.loaded.scripts frame.body) (AreFound turn.setting.now.loaded)
  pub bound : AreBound turn.setting.now
  pub place : frame.place + 1 < 2 ^ 64

-- the act of a body that may have no function: then it gives None
abbrev pub IsActWhere : Option LoadedFunction → ℕ → Option ℕ → ℕ → Act → Request → Type 0
IsActWhere None script own at act request = (act ≡ acts.Return NoneValue) × (request ≡ Return NoneValue)
IsActWhere (Some function) script own at act request = IsAct function script own at act request

-- a frame came to an act, as the engine of code runs its body, given a reply where it awaits one
pub record FrameStops (turn : Turn) (has_room : Bool) (reply : Option Value) (act : Act) (devices devices' : List DeviceState) (before now : Option (List ℕ)) (first last : Frame) (old new : Store) : Type 0 where
  pub lines : List Line
  pub written : Appended (bytes_of lines) before now
  pub request : Request
  pub is_act : IsActWhere (function_of turn.setting.now.loaded.scripts first.body) (script_of (place_of first.body)) first.instance last.place act request
  pub instance : last.instance ≡ first.instance
  pub body : last.body ≡ first.body
  pub stops : (printed : List Line) → run_on (code_engine (outline_of turn.setting.now.loaded) (scripts_of turn.setting.now.loaded)) (setting_on turn has_room first.instance) (pred turn.setting.now.scene.quantum) (body_of first) reply (sight_of old.instances old.arrays first.instance (beside devices printed)) ≡ record { request = request; body = body_of last; sight = sight_of new.instances new.arrays first.instance (beside devices' (printed ++ lines)) }
  pub kept : new.instances ≡ instances_after old.instances first.instance new.instances
