-- The limits that a scene keeps once it was read.
use Rattle.std.specs.Prelude.{ℕ, ℤ, ◌≡◌, ◌≤◌, Bool, false, List, length}
use Rattle.std.specs.List.{All}
use Rattle.std.specs.declared.alloc.Global.{Global}
use Rattle.std.specs.declared.vec.Vec.{Vec}
use Rattle.papy_base.specs.InstanceName.{IsInstanceName}
use Rattle.core_tree.specs.declared.scene_tree.Binding.{Binding}
use Rattle.core_tree.specs.declared.scene_tree.Binding.TheVariants as bindings
use Rattle.core_tree.specs.declared.scene_tree.SceneCall.{SceneCall}
use Rattle.core_tree.specs.declared.scene_tree.SceneInstance.{SceneInstance}
use Rattle.core_tree.specs.declared.scene_tree.SceneTree.{SceneTree}
use Rattle.core_tree.specs.declared.scene_tree.SceneValue.{SceneValue}
use Rattle.core_tree.specs.declared.scene_tree.SceneValue.TheVariants as values
use Rattle.core_tree.specs.declared.scene_tree.TurnOrder.{TurnOrder}
use Rattle.core_tree.specs.declared.scene_tree.TurnOrder.TheVariants as orders

abbrev pub IsShort : List ℕ → Type 0
IsShort text = length text ≤ 1024

abbrev pub IsTurns : ℕ → Type 0
IsTurns turns = turns ≤ 1000000

abbrev pub IsQuantum : ℕ → Type 0
IsQuantum quantum = (1 ≤ quantum) × (quantum ≤ 1000)

abbrev pub ValueKeeps : SceneValue → Type 0
ValueKeeps values.NoneValue = Unit {0}
ValueKeeps (values.Int number) = Unit {0}
ValueKeeps (values.Bool truth) = Unit {0}
ValueKeeps (values.Text text) = IsShort text
ValueKeeps (values.Instance name) = IsShort name

-- what stands behind a name
abbrev pub NamedKeeps : {T : Type 0} → (T → Type 0) → List ℕ × T → Type 0
NamedKeeps keeps entry = IsShort entry.0 × keeps entry.1

abbrev pub EntryKeeps : List ℕ × SceneValue → Type 0
EntryKeeps entry = NamedKeeps ValueKeeps entry

pub record InstanceKeeps (instance : SceneInstance) : Type 0 where
  pub name : IsInstanceName instance.name
  pub script : IsShort instance.script
  pub set : All EntryKeeps instance.set.items

pub record CallKeeps (call : SceneCall) : Type 0 where
  pub turn : IsTurns call.turn
  pub instance : IsShort call.instance
  pub function : IsShort call.function
  pub arguments : All ValueKeeps call.arguments.items

abbrev pub BindingKeeps : Binding → Type 0
BindingKeeps bindings.Sleep = Unit {0}
BindingKeeps (bindings.Trace latency) = IsTurns latency
BindingKeeps (bindings.Device device latency) = IsTurns latency
BindingKeeps bindings.PromptTrace = Unit {0}
BindingKeeps (bindings.PromptDevice device) = Unit {0}

abbrev pub NativeKeeps : List ℕ × Binding → Type 0
NativeKeeps native = NamedKeeps BindingKeeps native

abbrev pub TapeKeeps : Vec ℤ Global → Type 0
TapeKeeps tape = length tape.items ≤ 100000

abbrev pub OrderKeeps : TurnOrder → Type 0
OrderKeeps orders.Round = Unit {0}
OrderKeeps (orders.List stacks) = length stacks.items ≤ 1000000

-- the names of instances have their form, and the limits hold
pub record KeepsLimits (tree : SceneTree) : Type 0 where
  pub few_instances : length tree.instances.items ≤ 256
  pub instances : All InstanceKeeps tree.instances.items
  pub few_calls : length tree.calls.items ≤ 1024
  pub calls : All CallKeeps tree.calls.items
  pub natives : All NativeKeeps tree.natives.items
  pub tapes : All TapeKeeps tree.tapes.items
  pub order : OrderKeeps tree.order
  pub turns : IsTurns tree.turns
  pub quantum : IsQuantum tree.quantum

-- where no limit is broken after a step, none was broken before it, and what was read keeps its own
abbrev pub Keeps : Bool → Bool → Type 0 → Type 0
Keeps before after kept = after ≡ false → (before ≡ false) × kept
