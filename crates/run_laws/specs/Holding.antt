-- What holds in each state of a run: what the world stores fits, and so does what each stack holds.
use Rattle.std.specs.Prelude.{◌≡◌, ℕ, pred, List, [], ◌∷◌, map, Option, Some, None}
use Rattle.std.specs.List.{AllByRecursion}
use Rattle.core_tree.specs.declared.core_type.CoreType.{CoreType}
use Rattle.core_tree.specs.declared.value.Value.{Value}
use Rattle.core_tree.specs.Outlines.{ScriptShape}
use Rattle.core_tree.specs.Scenes.{SceneShape}
use Rattle.script_meaning.specs.Locks.{takes}
use Rattle.script_meaning.specs.Requests.{Setting}
use Rattle.script_meaning.specs.Stacks.{Frame, Stack, Done, ToEnter, Running, Entered, Opened, NativeThere, ReadThere, WriteThere, NothingThere, Engine, State, stack_at, inner_instance}
use Rattle.script_meaning.specs.Turns.{sight_of, setting_of, instance_script, run_on}
use Rattle.script_meaning.specs.Values.{lineage}
use Rattle.script_meaning.specs.World.{World, Instance, ArrayState, title}
use Rattle.run_laws.specs.Fits.{Known, known, VariablesFit, ArrayFits, IsThere, Extends, IsReply, Types, BodyHolds, CallFits}
use Rattle.run_laws.specs.Keeps.{StopFits}

-- ---- what a world stores
-- its outline, its instances and its arrays
abbrev pub Stored : Type 0
Stored = List ScriptShape × List Instance × List ArrayState

abbrev pub stored : World → Stored
stored world = (world.outline, world.instances, world.arrays)

abbrev pub known_in : List ScriptShape → Stored → Known
known_in outline s = known outline (map title s.1) s.2

-- an instance has the variables of its script and of those above it, each with a value of its type
abbrev pub InstanceKept : List ScriptShape → Known → Instance → Type 0
InstanceKept outline known instance =
    (map (λ of_script. of_script.0) instance.variables ≡ lineage outline (Some instance.script)) × AllByRecursion (VariablesFit known) instance.variables

pub record StoredFits (set : List ScriptShape) (s : Stored) : Type 0 where
  pub outline : s.0 ≡ set
  pub instances : AllByRecursion (InstanceKept set (known_in set s)) s.1
  pub arrays : AllByRecursion (ArrayFits (known_in set s)) s.2

-- ---- what stacks hold
-- frames that wait for what the frame above them gives, the innermost for a result of this type
abbrev pub FramesFit : {Body : Type 0} → Types Body → Known → Option CoreType → List (Frame Body) → Type 0
FramesFit types known given [] = Unit {0}
FramesFit types known given (frame ∷ below) =
    (result : Option CoreType) × IsThere known.instances frame.instance × BodyHolds types known frame.instance frame.body (Some given) result × FramesFit types known result below

abbrev pub StackFits : {Body : Type 0} → Types Body → Known → Stack Body → Type 0
StackFits types known Done = Unit {0}
StackFits types known (ToEnter instance way arguments below) =
    (result : Option CoreType) × CallFits types known instance way arguments result × FramesFit types known result below
StackFits types known (Running innermost reply below) =
    (awaited : Option (Option CoreType)) × (result : Option CoreType) × IsThere known.instances innermost.instance × BodyHolds types known innermost.instance innermost.body awaited result × IsReply known awaited reply × FramesFit types known result below

-- ---- states
-- what the world stores fits, there are the instances of the first world, and what each stack holds fits
pub record StateHolds {Body : Type 0} (types : Types Body) (first : Known) (state : State Body) : Type 0 where
  pub fits : StoredFits types.outline (stored state.world)
  pub grown : Extends first (known_in types.outline (stored state.world))
  pub stacks : AllByRecursion (StackFits types (known_in types.outline (stored state.world))) state.stacks

-- ---- what stacks come to in their turns
-- a body comes to its next act with what fits
abbrev pub BodyStops : {Body : Type 0} → Types Body → Engine Body → SceneShape → Setting → World → Option ℕ → Option Value → Body → Type 0
BodyStops types engine scene setting world own reply body =
    (result : Option CoreType) × StopFits types setting (sight_of world own) result (run_on engine setting (pred scene.quantum) body reply (sight_of world own))

-- what is found by a call to enter; a body that is found is open, and comes to its next act
abbrev pub EnteredStops : {Body : Type 0} → Types Body → Engine Body → SceneShape → Setting → World → Option ℕ → Entered Body → Type 0
EnteredStops types engine scene setting world own (Opened body) = BodyStops types engine scene setting world own None body
EnteredStops types engine scene setting world own (NativeThere at) = Unit {0}
EnteredStops types engine scene setting world own (ReadThere script variable) = Unit {0}
EnteredStops types engine scene setting world own (WriteThere script variable) = Unit {0}
EnteredStops types engine scene setting world own NothingThere = ⊥

abbrev pub StackStops : {Body : Type 0} → Types Body → Engine Body → SceneShape → Setting → World → Stack Body → Type 0
StackStops types engine scene setting world Done = Unit {0}
StackStops types engine scene setting world (ToEnter instance way arguments below) =
    EnteredStops types engine scene setting world instance (engine.enter (instance_script world instance) (sight_of world instance).state way arguments)
StackStops types engine scene setting world (Running innermost reply below) =
    BodyStops types engine scene setting world innermost.instance reply innermost.body

-- what stack k comes to if it has its turn
abbrev pub TurnStops : {Body : Type 0} → Types Body → Engine Body → SceneShape → State Body → ℕ → Type 0
TurnStops types engine scene state k =
    StackStops types engine scene (setting_of scene (takes k state.world) state.stacks k (inner_instance (stack_at state.stacks k))) (takes k state.world) (stack_at state.stacks k)

-- ---- the instances of frames
abbrev pub FrameThere : {Body : Type 0} → List (ℕ × List ℕ) → Frame Body → Type 0
FrameThere instances frame = IsThere instances frame.instance

-- the instance of each frame, and of a call that is to be entered, is there
abbrev pub StackThere : {Body : Type 0} → List (ℕ × List ℕ) → Stack Body → Type 0
StackThere instances Done = Unit {0}
StackThere instances (ToEnter instance way arguments below) = IsThere instances instance × AllByRecursion (FrameThere instances) below
StackThere instances (Running innermost reply below) = IsThere instances innermost.instance × AllByRecursion (FrameThere instances) below

abbrev pub InstancesThere : {Body : Type 0} → State Body → Type 0
InstancesThere state = AllByRecursion (StackThere (map title state.world.instances)) state.stacks
