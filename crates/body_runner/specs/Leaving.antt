-- What instructions that call or return ask for, in the terms of the definitions.
use Rattle.std.specs.Prelude.{◌≡◌, ℕ, Bool, true, false, List, [], ◌∷◌, Option, Some, None, IsSome}
use Rattle.std.specs.Option.{option_map}
use Rattle.core_tree.specs.declared.value.Value.{Value}
use Rattle.core_tree.specs.Values.{default_result}
use Rattle.papy_base.specs.declared.faults.StackFault.{StackFault}
use Rattle.papy_base.specs.declared.faults.StackFault.TheVariants.{FrameLimit}
use Rattle.script_meaning.specs.Requests.{Request, Method, ParentMethod, GlobalFunction, GlobalNative, Get, Set, Return, Asks}
use Rattle.script_meaning.specs.Values.{lineage}
use Rattle.code_meaning.specs.Execution.{Stops, ask, executed, reply_result}
use Rattle.code_meaning.specs.LookUp.{FoundMethod, first_method}
use Rattle.loaded_code.specs.Plain.{instruction_of}
use Rattle.loaded_code.specs.declared.instruction.LoadedInstruction.{LoadedInstruction}
use Rattle.loaded_code.specs.declared.instruction.LoadedInstruction.TheVariants as loaded
use Rattle.loaded_code.specs.declared.operand.Operand.{Operand}
use Rattle.loaded_code.specs.declared.script.LoadedFunction.{LoadedFunction}
use Rattle.loaded_code.specs.declared.script.MethodPlace.{MethodPlace}
use Rattle.body_runner.specs.declared.body.Home.{Home}
use Rattle.body_runner.specs.declared.body.Inner.{Inner}
use Rattle.body_runner.specs.declared.calls.Event.{Event}
use Rattle.body_runner.specs.declared.calls.Event.TheVariants as events
use Rattle.body_runner.specs.declared.frame.Call.{Call}
use Rattle.body_runner.specs.declared.frame.CallWay.{CallWay}
use Rattle.body_runner.specs.declared.frame.CallWay.TheVariants as ways
use Rattle.body_runner.specs.Bodies.{KeepsOthers, home_of, inner_of}
use Rattle.body_runner.specs.Operands.{Stores, StoresNothing, kind_of}
use Rattle.body_runner.specs.Settings.{method_at}
use Rattle.body_runner.specs.Sights.{Rest}
use Rattle.body_runner.specs.Steps.{GoesOn}
use Rattle.pex_verify.specs.Plain.{outline_of, scripts_of}
use Rattle.pex_verify.specs.Sets.{LoadedSet}
use Rattle.script_meaning.specs.Stacks.{Way, ByMethod, ByParent, ByGlobal, ByGet, BySet}

-- ---- what was looked up in advance
abbrev pub is_native_in : Option LoadedFunction → Bool
is_native_in None = false
is_native_in (Some function) = function.is_native

-- the function that a callstatic names stands at this place of a set
pub record IsFunctionAt (set : LoadedSet) (script : ℕ) (name : List ℕ) (place : MethodPlace) : Type 0 where
  pub found : FoundMethod
  pub is : first_method (scripts_of set) (lineage (outline_of set) (Some script)) [] name ≡ Some found
  pub script_is : found.script ≡ place.script
  pub number_is : found.number ≡ place.place
  pub native_is : found.function.is_native ≡ is_native_in (method_at set.scripts place)

abbrev pub IsPlaced : LoadedSet → ℕ → List ℕ → Option MethodPlace → Type 0
IsPlaced set script name None = ⊥
IsPlaced set script name (Some place) = IsFunctionAt set script name place

-- the instruction of a set calls or returns, and what it names was found
abbrev pub IsLeaving : LoadedSet → LoadedInstruction → Type 0
IsLeaving set (loaded.CallMethod name number object result arguments) = IsSome number
IsLeaving set (loaded.CallParent name number result arguments) = IsSome number
IsLeaving set (loaded.CallStatic script name function result arguments) = IsPlaced set script name function
IsLeaving set (loaded.Return value) = Unit {0}
IsLeaving set (loaded.PropGet name number object result) = IsSome number
IsLeaving set (loaded.PropSet name number object value) = IsSome number
IsLeaving set _ = ⊥

-- ---- calls
-- how an instruction of a script that calls names its function
abbrev pub way_of : ℕ → LoadedInstruction → Option CallWay
way_of script (loaded.CallMethod name number object result arguments) = option_map (λ n. ways.Method n) number
way_of script (loaded.CallParent name number result arguments) = option_map (λ n. ways.Parent script n) number
way_of script (loaded.CallStatic library name function result arguments) = option_map (λ place. ways.Global place) function
way_of script (loaded.PropGet name number object result) = option_map (λ n. ways.Get n) number
way_of script (loaded.PropSet name number object value) = option_map (λ n. ways.Set n) number
way_of script _ = None

-- the same in the terms of the definitions, by the text of the name
abbrev pub way_told : ℕ → LoadedInstruction → Option Way
way_told script (loaded.CallMethod name number object result arguments) = Some (ByMethod name)
way_told script (loaded.CallParent name number result arguments) = Some (ByParent script name)
way_told script (loaded.CallStatic library name function result arguments) = Some (ByGlobal library name)
way_told script (loaded.PropGet name number object result) = Some (ByGet name)
way_told script (loaded.PropSet name number object value) = Some (BySet name)
way_told script _ = None

-- how the call that a body requests is looked up
abbrev pub way_asked : Request → Option Way
way_asked (Method target name arguments otherwise) = Some (ByMethod name)
way_asked (ParentMethod script name arguments otherwise) = Some (ByParent script name)
way_asked (GlobalFunction script name arguments otherwise) = Some (ByGlobal script name)
way_asked (Get target name otherwise) = Some (ByGet name)
way_asked (Set target name value) = Some (BySet name)
way_asked _ = None

-- the instance and the arguments of a call that a body on an instance requests
abbrev pub IsRequest : Option ℕ → Request → Option ℕ → List Value → Type 0
IsRequest own (Method target name arguments otherwise) instance values =
    (instance ≡ Some target) × (values ≡ arguments)
IsRequest own (ParentMethod script name arguments otherwise) instance values = (instance ≡ own) × (values ≡ arguments)
IsRequest own (GlobalFunction script name arguments otherwise) instance values =
    (instance ≡ None) × (values ≡ arguments)
IsRequest own (Get target name otherwise) instance values = (instance ≡ Some target) × (values ≡ [])
IsRequest own (Set target name value) instance values = (instance ≡ Some target) × (values ≡ value ∷ [])
IsRequest own _ instance values = ⊥

-- the body stops at the request that the call is
pub record Calls (home : Home) (instruction : LoadedInstruction) (call : Call) (old new : Inner) : Type 0 where
  pub request : Request
  pub way : way_of home.script instruction ≡ Some call.way
  pub told : way_told home.script instruction ≡ way_asked request
  pub kept : call.kept ≡ None
  pub is_request : IsRequest home.instance request call.instance call.arguments.items
  pub stops : (at : ℕ) (rest : Rest) → executed (home_of home) at (instruction_of instruction) (inner_of home old rest) ≡ Stops request at (inner_of home new rest)

-- a global native is asked for
abbrev pub Performs : Home → LoadedInstruction → MethodPlace → List Value → Inner → Inner → Type 0
Performs home instruction place arguments old new =
    (at : ℕ) (rest : Rest) → executed (home_of home) at (instruction_of instruction) (inner_of home old rest) ≡ ask (home_of home) at (reply_result (instruction_of instruction)) (Asks (GlobalNative (record { script = place.script; place = place.place }) arguments)) (inner_of home new rest)

abbrev pub Returns : Home → LoadedInstruction → Value → Inner → Inner → Type 0
Returns home instruction value old new =
    (at : ℕ) (rest : Rest) → executed (home_of home) at (instruction_of instruction) (inner_of home old rest) ≡ Stops (Return value) at (inner_of home new rest)

-- ---- events
abbrev pub EventMeans : Home → LoadedInstruction → Event → Inner → Inner → Type 0
EventMeans home instruction (events.Refused fault) old new = GoesOn home instruction (Some fault) old new
EventMeans home instruction (events.Called call) old new = Calls home instruction call old new
EventMeans home instruction (events.Native place arguments) old new =
    Performs home instruction place arguments.items old new
EventMeans home instruction (events.Returned value) old new = Returns home instruction value old new

-- the event is what the instruction asks for, and the body changes no instance but its own
pub record Leaves (home : Home) (instruction : LoadedInstruction) (event : Event) (old new : Inner) : Type 0 where
  pub means : EventMeans home instruction event old new
  pub kept : KeepsOthers home old new

-- ---- parts
-- a call that isn't made: the default of the result's type is stored
pub record Refuses (home : Home) (old new : Inner) (operand : Operand) (fault : StackFault) (event : Event) : Type 0 where
  pub event_is : event ≡ events.Refused fault
  pub stored : Stores home old new operand (default_result (kind_of home operand))

pub record Makes (old new : Inner) (call : Call) (event : Event) : Type 0 where
  pub event_is : event ≡ events.Called call
  pub nothing : StoresNothing old new

-- a call is made where there is room for a frame
abbrev pub MakesOrRefuses : Bool → Home → Inner → Inner → Operand → Call → Event → Type 0
MakesOrRefuses true home old new operand call event = Makes old new call event
MakesOrRefuses false home old new operand call event = Refuses home old new operand FrameLimit event
