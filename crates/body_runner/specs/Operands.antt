-- What the operands of a running body are worth, and what a store in one leaves.
use Rattle.std.specs.Prelude.{◌≡◌, ℕ, List, [], Option, Some, None, slice_index_or, slice_set}
use Rattle.core_tree.specs.declared.core_type.CoreType.{CoreType}
use Rattle.core_tree.specs.declared.value.Value.{Value}
use Rattle.core_tree.specs.declared.value.Value.TheVariants as values
use Rattle.instance_store.specs.Instances.{InstanceState, instance_at, instance_with, variable_of}
use Rattle.loaded_code.specs.declared.operand.Operand.{Operand}
use Rattle.loaded_code.specs.declared.operand.Operand.TheVariants as operands
use Rattle.body_runner.specs.declared.body.Home.{Home}
use Rattle.body_runner.specs.declared.body.Inner.{Inner}
use Rattle.body_runner.specs.Settings.{type_of}
use Rattle.body_runner.specs.Values.{text_in}

-- ---- values
abbrev pub own_instance : Option ℕ → Value
own_instance None = values.NoneValue
own_instance (Some instance) = values.Instance instance

abbrev pub variable_in : List InstanceState → Option ℕ → ℕ → ℕ → Value
variable_in instances None script number = values.NoneValue
variable_in instances (Some instance) script number = variable_of (instance_at instances instance) script number

abbrev pub state_in : List InstanceState → Option ℕ → Value
state_in instances None = values.Text []
state_in instances (Some instance) = values.Text (instance_at instances instance).state

-- what an operand is worth
abbrev pub worth : Home → Inner → Operand → Value
worth home inner operands.NoneValue = values.NoneValue
worth home inner (operands.Quoted text) = values.Text text
worth home inner (operands.Int number) = values.Int number
worth home inner (operands.Bool truth) = values.Bool truth
worth home inner (operands.Slot number) = slice_index_or inner.slots.now.items number values.NoneValue
worth home inner (operands.Variable number) = variable_in inner.store.now.instances home.instance home.script number
worth home inner operands.Instance = own_instance home.instance
worth home inner operands.State = state_in inner.store.now.instances home.instance

-- the type of what an operand takes, none where it drops it
abbrev pub kind_of : Home → Operand → Option CoreType
kind_of home operand =
    type_of home.turn.now.setting.now.loaded.outline home.script home.function.now operand

-- ---- stores
abbrev pub slots_with : List Value → Operand → Value → List Value
slots_with slots (operands.Slot number) value = slice_set slots number value
slots_with slots _ value = slots

abbrev pub variable_with : List InstanceState → Option ℕ → ℕ → ℕ → Value → List InstanceState
variable_with instances None script number value = instances
variable_with instances (Some instance) script number value =
    slice_set instances instance (instance_with (instance_at instances instance) script number value)

abbrev pub state_with : List InstanceState → Option ℕ → Value → List InstanceState
state_with instances None value = instances
state_with instances (Some instance) value =
    slice_set instances instance (record (instance_at instances instance) { state = text_in value })

abbrev pub instances_with : List InstanceState → Option ℕ → ℕ → Operand → Value → List InstanceState
instances_with instances instance script (operands.Variable number) value =
    variable_with instances instance script number value
instances_with instances instance script operands.State value = state_with instances instance value
instances_with instances instance script _ value = instances

-- a body still works on the slots and the store that were lent to it
pub record KeepsLoans (old new : Inner) : Type 0 where
  pub slots : new.slots.ghost_name ≡ old.slots.ghost_name
  pub store : new.store.ghost_name ≡ old.store.ghost_name

-- what a value that is kept in an operand leaves: the slots, the instances, and the arrays as they were
pub record Keeps (home : Home) (old new : Inner) (operand : Operand) (value : Value) : Type 0 where
  pub slots : new.slots.now.items ≡ slots_with old.slots.now.items operand value
  pub instances : new.store.now.instances ≡ instances_with old.store.now.instances home.instance home.script operand value
  pub arrays : new.store.now.arrays ≡ old.store.now.arrays
  pub loans : KeepsLoans old new

-- what stays where nothing is stored
pub record StoresNothing (old new : Inner) : Type 0 where
  pub slots : new.slots.now.items ≡ old.slots.now.items
  pub instances : new.store.now.instances ≡ old.store.now.instances
  pub arrays : new.store.now.arrays ≡ old.store.now.arrays
  pub loans : KeepsLoans old new

-- a store in an operand of this type, or of no type: then it is dropped
abbrev pub StoresTyped : Home → Inner → Inner → Option CoreType → Operand → Value → Type 0
StoresTyped home old new None operand value = StoresNothing old new
StoresTyped home old new (Some kind) operand value = Keeps home old new operand value

-- a store in an operand
abbrev pub Stores : Home → Inner → Inner → Operand → Value → Type 0
Stores home old new operand value = StoresTyped home old new (kind_of home operand) operand value
