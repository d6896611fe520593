-- What fits: values in places of their types, in all that a running body gets.
use Rattle.std.specs.Prelude.{◌≡◌, ℕ, ◌<◌, Bool, true, false, List, [], ◌∷◌, length, map, Option, Some, None, slice_get}
use Rattle.std.specs.List.{AllByRecursion}
use Rattle.core_tree.specs.declared.core_type.CoreType.{CoreType}
use Rattle.core_tree.specs.declared.core_type.CoreType.TheVariants as kinds
use Rattle.core_tree.specs.declared.expression.FunctionPlace.{FunctionPlace}
use Rattle.core_tree.specs.declared.scene.BoundNative.{BoundNative}
use Rattle.core_tree.specs.declared.scene_tree.Binding.{Binding}
use Rattle.core_tree.specs.declared.scene_tree.Binding.TheVariants as bindings
use Rattle.core_tree.specs.declared.value.Value.{Value}
use Rattle.core_tree.specs.declared.value.Value.TheVariants as values
use Rattle.core_tree.specs.Outlines.{ScriptShape, FunctionShape}
use Rattle.core_tree.specs.Scenes.{SceneShape}
use Rattle.script_meaning.specs.Locks.{takes}
use Rattle.script_meaning.specs.Requests.{Sight, Setting, binding_in, functions_in, result_of}
use Rattle.script_meaning.specs.Stacks.{Way, Stack, Done, ToEnter, Running, State, stack_at, inner_instance}
use Rattle.script_meaning.specs.Turns.{sight_of, setting_of, instance_script, begun}
use Rattle.script_meaning.specs.Values.{is_child, lineage}
use Rattle.core_tree.specs.Values.{element_kind, holds_none}
use Rattle.script_meaning.specs.World.{World, ArrayState}

-- ---- a value and a type
-- what there is: the outline of the set, the script and the name of each instance, and the type of the
-- elements of each array
pub record Known : Type 0 where
  pub outline : List ScriptShape
  pub instances : List (ℕ × List ℕ)
  pub arrays : List CoreType

abbrev pub known : List ScriptShape → List (ℕ × List ℕ) → List ArrayState → Known
known outline instances arrays =
    record { outline = outline; instances = instances; arrays = map (λ array. array.kind) arrays }

abbrev pub IsOfScript : List ScriptShape → ℕ → Option (ℕ × List ℕ) → Type 0
IsOfScript outline script None = ⊥
IsOfScript outline script (Some instance) = is_child outline instance.0 script ≡ true

abbrev pub IsInstanceOf : Known → CoreType → ℕ → Type 0
IsInstanceOf known (kinds.Script script) number = IsOfScript known.outline script (slice_get known.instances number)
IsInstanceOf known _ number = ⊥

abbrev pub HoldsElements : Option CoreType → Option CoreType → Type 0
HoldsElements (Some kind) (Some element) = element ≡ kind
HoldsElements _ _ = ⊥

abbrev pub HasType : Known → CoreType → Value → Type 0
HasType known kind values.NoneValue = holds_none kind ≡ true
HasType known kind (values.Int number) = kind ≡ kinds.Int
HasType known kind (values.Bool truth) = kind ≡ kinds.Bool
HasType known kind (values.Text text) = kind ≡ kinds.Text
HasType known kind (values.Instance number) = IsInstanceOf known kind number
HasType known kind (values.Array number) = HoldsElements (element_kind kind) (slice_get known.arrays number)

-- of a place or a result, which has None alone where it has no type
abbrev pub IsResult : Known → Option CoreType → Value → Type 0
IsResult known None value = value ≡ values.NoneValue
IsResult known (Some kind) value = HasType known kind value

-- each value is of the type in its place, and there are as many
abbrev pub HaveTypes : Known → List (Option CoreType) → List Value → Type 0
HaveTypes known [] [] = Unit {0}
HaveTypes known (kind ∷ kinds) (value ∷ values) = IsResult known kind value × HaveTypes known kinds values
HaveTypes known _ _ = ⊥

-- types of parameters
abbrev pub typed : List CoreType → List (Option CoreType)
typed kinds = map (λ kind. Some kind) kinds

-- there are the same instances and at least these arrays
pub record Extends (now then : Known) : Type 0 where
  pub outline : now.outline ≡ then.outline
  pub instances : now.instances ≡ then.instances
  pub arrays : (number : ℕ) (kind : CoreType) → slice_get now.arrays number ≡ Some kind → slice_get then.arrays number ≡ Some kind

-- ---- what a body may read and change
abbrev pub variable_kinds : Option ScriptShape → List CoreType
variable_kinds None = []
variable_kinds (Some script) = map (λ variable. variable.kind) script.variables

abbrev pub VariablesFit : Known → ℕ × List Value → Type 0
VariablesFit known of_script = HaveTypes known (typed (variable_kinds (slice_get known.outline of_script.0))) of_script.1

abbrev pub ArrayFits : Known → ArrayState → Type 0
ArrayFits known array = AllByRecursion (HasType known array.kind) array.items

-- the script of an instance
abbrev pub script_in : Option (ℕ × List ℕ) → Option ℕ
script_in None = None
script_in (Some instance) = Some instance.0

abbrev pub script_at : List (ℕ × List ℕ) → Option ℕ → Option ℕ
script_at instances None = None
script_at instances (Some number) = script_in (slice_get instances number)

abbrev pub IsThere : List (ℕ × List ℕ) → Option ℕ → Type 0
IsThere instances None = Unit {0}
IsThere instances (Some number) = number < length instances

abbrev pub is_native_in : Option FunctionShape → Bool
is_native_in None = false
is_native_in (Some function) = function.is_native

abbrev pub is_native_at : List ScriptShape → FunctionPlace → Bool
is_native_at outline at = is_native_in (slice_get (functions_in (slice_get outline at.script)) at.place)

-- a device gives an Int or a Bool, or its reply is dropped
abbrev pub IsOfDevice : Option CoreType → Type 0
IsOfDevice None = Unit {0}
IsOfDevice (Some kinds.Int) = Unit {0}
IsOfDevice (Some kinds.Bool) = Unit {0}
IsOfDevice (Some _) = ⊥

-- what a native function does gives a value of the type of its result
abbrev pub BindingFits : Option Binding → Option CoreType → Type 0
BindingFits (Some (bindings.Device device latency)) result = IsOfDevice result
BindingFits (Some (bindings.PromptDevice device)) result = IsOfDevice result
BindingFits _ result = result ≡ None

abbrev pub NativesFit : List ScriptShape → List BoundNative → Type 0
NativesFit outline natives =
    (at : FunctionPlace) → is_native_at outline at ≡ true → BindingFits (binding_in natives at) (result_of outline at)

-- the own instance is there, and has the variables of its script and of those above, each with a value of its
-- type, and so has each array
pub record SightFits (outline : List ScriptShape) (setting : Setting) (sight : Sight) : Type 0 where
  pub of_set : setting.outline ≡ outline
  pub natives : NativesFit outline setting.natives
  pub own : IsThere setting.instances setting.self
  pub scripts : map (λ of_script. of_script.0) sight.variables ≡ lineage outline (script_at setting.instances setting.self)
  pub variables : AllByRecursion (VariablesFit (known outline setting.instances sight.arrays)) sight.variables
  pub arrays : AllByRecursion (ArrayFits (known outline setting.instances sight.arrays)) sight.arrays

-- what waits for a body is what it waits for: nothing, or a result
abbrev pub IsReply : Known → Option (Option CoreType) → Option Value → Type 0
IsReply known None None = Unit {0}
IsReply known (Some result) (Some value) = IsResult known result value
IsReply known _ _ = ⊥

-- ---- what fits in a run
-- what a comparison of two engines may take for granted: of what a body sees, of a body with the reply
-- that is given to it, and of the arguments of a call to enter, which is looked up from the script of its
-- instance
pub record Fitting (Body : Type 0) : Type 1 where
  pub sight : Setting → Sight → Type 0
  pub body : Setting → Sight → Body → Option Value → Type 0
  pub arguments : Setting → Sight → Option ℕ → Way → List Value → Type 0

-- the types of a set of scripts and of the bodies of its functions
pub record Types (Body : Type 0) : Type 1 where
  pub outline : List ScriptShape
  -- what is found by this way, from the script of an instance, has parameters and a result of these types
  pub calls : Option ℕ → Way → List CoreType → Option CoreType → Type 0
  -- on an instance of this script, or on none, what a body holds is of the types of its places; it waits for
  -- nothing, or for a result of a type; and it gives a result of a type
  pub holds : Known → Option ℕ → Body → Option (Option CoreType) → Option CoreType → Type 0

-- a body on this instance, or on none
abbrev pub BodyHolds : {Body : Type 0} → Types Body → Known → Option ℕ → Body → Option (Option CoreType) → Option CoreType → Type 0
BodyHolds types known self body awaited result = types.holds known (script_at known.instances self) body awaited result

pub record BodyFits {Body : Type 0} (types : Types Body) (setting : Setting) (sight : Sight) (body : Body) (given : Option Value) : Type 0 where
  pub awaited : Option (Option CoreType)
  pub result : Option CoreType
  pub held : BodyHolds types (known types.outline setting.instances sight.arrays) setting.self body awaited result
  pub reply : IsReply (known types.outline setting.instances sight.arrays) awaited given

-- a call that is to be entered on an instance, or on none, and gives a result of this type
pub record CallFits {Body : Type 0} (types : Types Body) (known : Known) (instance : Option ℕ) (way : Way) (arguments : List Value) (result : Option CoreType) : Type 0 where
  pub there : IsThere known.instances instance
  pub parameters : List CoreType
  pub called : types.calls (script_at known.instances instance) way parameters result
  pub values : HaveTypes known (typed parameters) arguments

pub record ArgumentsFit {Body : Type 0} (types : Types Body) (setting : Setting) (sight : Sight) (script : Option ℕ) (way : Way) (arguments : List Value) : Type 0 where
  pub own : script ≡ script_at setting.instances setting.self
  pub result : Option CoreType
  pub call : CallFits types (known types.outline setting.instances sight.arrays) setting.self way arguments result

abbrev pub by_types : {Body : Type 0} → Types Body → Fitting Body
by_types types =
    record { sight = SightFits types.outline; body = BodyFits types; arguments = ArgumentsFit types }

-- the innermost frame of a stack
abbrev pub InnermostFits : {Body : Type 0} → Fitting Body → Setting → World → Stack Body → Type 0
InnermostFits fitting setting world Done = Unit {0}
InnermostFits fitting setting world (ToEnter instance way arguments below) =
    fitting.sight setting (sight_of world instance) × fitting.arguments setting (sight_of world instance) (instance_script world instance) way arguments
InnermostFits fitting setting world (Running innermost reply below) =
    fitting.sight setting (sight_of world innermost.instance) × fitting.body setting (sight_of world innermost.instance) innermost.body reply

-- what stack k goes on with if it has its turn
abbrev pub TurnFits : {Body : Type 0} → Fitting Body → SceneShape → State Body → ℕ → Type 0
TurnFits fitting scene state k =
    InnermostFits fitting (setting_of scene (takes k state.world) state.stacks k (inner_instance (stack_at state.stacks k))) (takes k state.world) (stack_at state.stacks k)

-- whichever stack is chosen in the next turn goes on with what fits
abbrev pub NextTurnFits : {Body : Type 0} → Fitting Body → SceneShape → State Body → Type 0
NextTurnFits fitting scene state = (k : ℕ) → TurnFits fitting scene (begun scene state) k
