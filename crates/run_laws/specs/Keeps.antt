-- Engines that keep what fits, and scenes that begin with it.
use Rattle.std.specs.Prelude.{◌≡◌, ℕ, ◌==◌, Bool, true, List, [], ◌∷◌, map, Option, Some, None, slice_get}
use Rattle.std.specs.List.{list_any, AllByRecursion}
use Rattle.core_tree.specs.declared.core_type.CoreType.{CoreType}
use Rattle.core_tree.specs.declared.value.Value.{Value}
use Rattle.core_tree.specs.Outlines.{ScriptShape}
use Rattle.core_tree.specs.Scenes.{SceneShape, InstanceShape, CallShape}
use Rattle.script_meaning.specs.First.{initial_in, first_instance}
use Rattle.run_laws.specs.Fits.{Known, known, HasType, IsResult, HaveTypes, typed, Extends, variable_kinds, script_at, is_native_at, NativesFit, SightFits, IsReply, Types, BodyHolds, CallFits}
use Rattle.script_meaning.specs.Requests.{Sight, Setting, Request, Method, ParentMethod, GlobalFunction, GlobalNative, Get, Set, LoopPass, Return, result_of, first_argument}
use Rattle.script_meaning.specs.Stacks.{Way, ByMethod, ByParent, ByGlobal, ByGet, BySet, Entered, Opened, NativeThere, ReadThere, WriteThere, NothingThere, Stop, Engine}
use Rattle.script_meaning.specs.Values.{lineage, is_child}
use Rattle.script_meaning.specs.World.{title}

-- what a body knows in its turn
abbrev pub seen : List ScriptShape → Setting → Sight → Known
seen outline setting sight = known outline setting.instances sight.arrays

-- ---- variables
-- a variable of this type
abbrev pub IsVariable : List ScriptShape → ℕ → ℕ → CoreType → Type 0
IsVariable outline script number kind = slice_get (variable_kinds (slice_get outline script)) number ≡ Some kind

-- the script of the instance, or one above it
abbrev pub IsOfOwn : Known → Option ℕ → ℕ → Type 0
IsOfOwn known self script =
    list_any (λ above. above == script) (lineage known.outline (script_at known.instances self)) ≡ true

-- code of a script stands on an instance of that script or of one below it, and code of a Global function on none
abbrev pub IsOn : List ScriptShape → Option ℕ → ℕ → Bool → Type 0
IsOn outline None script is_global = is_global ≡ true
IsOn outline (Some own) script is_global = is_child outline own script ≡ true

-- ---- requests
-- what a body asks for fits, and it goes on with a result of the type that is given; what it returns is of the
-- type of its own result
abbrev pub RequestFits : {Body : Type 0} → Types Body → Known → Option ℕ → Option CoreType → (Option (Option CoreType) → Type 0) → Request → Type 0
RequestFits types known self result goes_on (Method target name arguments otherwise) =
    (given : Option CoreType) × CallFits types known (Some target) (ByMethod name) arguments given × goes_on (Some given)
RequestFits types known self result goes_on (ParentMethod script name arguments otherwise) =
    (given : Option CoreType) × CallFits types known self (ByParent script name) arguments given × goes_on (Some given)
RequestFits types known self result goes_on (GlobalFunction script name arguments otherwise) =
    (given : Option CoreType) × CallFits types known None (ByGlobal script name) arguments given × goes_on (Some given)
RequestFits types known self result goes_on (GlobalNative at arguments) =
    (is_native_at types.outline at ≡ true) × goes_on (Some (result_of types.outline at))
RequestFits types known self result goes_on (Get target name otherwise) =
    (given : Option CoreType) × CallFits types known (Some target) (ByGet name) [] given × goes_on (Some given)
RequestFits types known self result goes_on (Set target name value) =
    CallFits types known (Some target) (BySet name) (value ∷ []) None × goes_on (Some None)
RequestFits types known self result goes_on LoopPass = goes_on None
RequestFits types known self result goes_on (Return value) = IsResult known result value

pub record StopFits {Body : Type 0} (types : Types Body) (setting : Setting) (before : Sight) (result : Option CoreType) (stop : Stop Body) : Type 0 where
  pub sight : SightFits types.outline setting stop.sight
  pub grown : Extends (seen types.outline setting before) (seen types.outline setting stop.sight)
  pub request : RequestFits types (seen types.outline setting stop.sight) setting.self result (λ awaited. BodyHolds types (seen types.outline setting stop.sight) setting.self stop.body awaited result) stop.request

-- ---- look-up
-- what is found takes the arguments and gives a result of this type. Something is found
abbrev pub FoundFits : {Body : Type 0} → Types Body → Known → Option ℕ → List Value → Option CoreType → Entered Body → Type 0
FoundFits types known self arguments result (Opened body) = BodyHolds types known self body None result
FoundFits types known self arguments result (NativeThere at) =
    (is_native_at types.outline at ≡ true) × (result_of types.outline at ≡ result)
FoundFits types known self arguments result (ReadThere script variable) =
    (kind : CoreType) × IsOfOwn known self script × IsVariable types.outline script variable kind × (result ≡ Some kind)
FoundFits types known self arguments result (WriteThere script variable) =
    (kind : CoreType) × IsOfOwn known self script × IsVariable types.outline script variable kind × HasType known kind (first_argument arguments) × (result ≡ None)
FoundFits types known self arguments result NothingThere = ⊥

-- ---- engines
pub record KeepsFit {Body : Type 0} (types : Types Body) (engine : Engine Body) : Type 0 where
  -- what a body holds is of its types however many arrays are added
  pub stable : (now then : Known) (own : Option ℕ) (body : Body) (awaited : Option (Option CoreType)) (result : Option CoreType) → Extends now then → types.holds now own body awaited result → types.holds then own body awaited result
  pub enter : (setting : Setting) (sight : Sight) (way : Way) (arguments : List Value) (result : Option CoreType) → SightFits types.outline setting sight → CallFits types (seen types.outline setting sight) setting.self way arguments result → FoundFits types (seen types.outline setting sight) setting.self arguments result (engine.enter (script_at setting.instances setting.self) sight.state way arguments)
  pub run : (setting : Setting) (sight : Sight) (body : Body) (awaited : Option (Option CoreType)) (result : Option CoreType) (given : Option Value) → SightFits types.outline setting sight → BodyHolds types (seen types.outline setting sight) setting.self body awaited result → IsReply (seen types.outline setting sight) awaited given → StopFits types setting sight result (engine.run setting body given sight)

-- ---- scenes
-- what there is in the first world
abbrev pub first_known : List ScriptShape → SceneShape → Known
first_known outline scene = known outline (map title (map (first_instance outline) scene.instances)) []

-- a value that the scene gives a variable, after its script and its number
abbrev pub SetFits : List ScriptShape → Known → ℕ × ℕ × Value → Type 0
SetFits outline known entry =
    (kind : CoreType) × IsVariable outline entry.0 entry.1 kind × HasType known kind entry.2

abbrev pub InstanceFits : List ScriptShape → Known → InstanceShape → Type 0
InstanceFits outline known instance = AllByRecursion (SetFits outline known) instance.set

abbrev pub StartFits : {Body : Type 0} → Types Body → Known → CallShape → Type 0
StartFits types known call =
    (result : Option CoreType) × CallFits types known (Some call.instance) (ByMethod call.function) call.arguments result

-- the values of a scene are of the types of their variables and parameters, and so are the initial values of the set
pub record SceneFits {Body : Type 0} (types : Types Body) (scene : SceneShape) : Type 0 where
  pub natives : NativesFit types.outline scene.natives
  pub initial : (script : ℕ) → HaveTypes (known types.outline [] []) (typed (variable_kinds (slice_get types.outline script))) (initial_in (slice_get types.outline script))
  pub instances : AllByRecursion (InstanceFits types.outline (first_known types.outline scene)) scene.instances
  pub calls : AllByRecursion (StartFits types (first_known types.outline scene)) scene.calls
