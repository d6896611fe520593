-- What the instructions on values do.
use Rattle.std.specs.Prelude.{◌≡◌, ℕ, ℤ, pos, List, [], Option, Some, None, Result, Ok, Err}
use Rattle.papy_base.specs.declared.faults.StackFault.{StackFault}
use Rattle.papy_base.specs.declared.faults.StackFault.TheVariants.{DivideZero, TextTooLong}
use Rattle.core_tree.specs.declared.core_type.CoreType.{CoreType}
use Rattle.script_meaning.specs.Arrays.{new_array, with_array}
use Rattle.core_tree.specs.Values.{default_result}
use Rattle.core_tree.specs.declared.value.Value.{Value}
use Rattle.core_tree.specs.declared.value.Value.TheVariants as values
use Rattle.loaded_code.specs.declared.operand.Operand.{Operand}
use Rattle.body_runner.specs.declared.body.Home.{Home}
use Rattle.body_runner.specs.declared.body.Inner.{Inner}
use Rattle.body_runner.specs.Operands.{KeepsLoans, Stores, StoresNothing, kind_of, worth}
use Rattle.body_runner.specs.Sights.{arrays_of}
use Rattle.body_runner.specs.Values.{number_in}

-- the number that an operand is worth
abbrev pub number_of : Home → Inner → Operand → ℤ
number_of home inner operand = number_in (worth home inner operand)

-- a number is stored, or 0 where there is none since the divisor is 0
abbrev pub StoresQuotient : Home → Inner → Inner → Operand → Option ℤ → Option StackFault → Type 0
StoresQuotient home old new operand (Some number) fault =
    Stores home old new operand (values.Int number) × (fault ≡ None)
StoresQuotient home old new operand None fault =
    Stores home old new operand (values.Int (pos 0)) × (fault ≡ Some DivideZero)

-- a number is stored, or 0 after a fault
abbrev pub StoresNumber : Home → Inner → Inner → Operand → Result ℤ StackFault → Option StackFault → Type 0
StoresNumber home old new operand (Ok number) fault =
    Stores home old new operand (values.Int number) × (fault ≡ None)
StoresNumber home old new operand (Err kind) fault =
    Stores home old new operand (values.Int (pos 0)) × (fault ≡ Some kind)

-- a value is stored, or the default of the operand's type after a fault
abbrev pub StoresValue : Home → Inner → Inner → Operand → Result Value StackFault → Option StackFault → Type 0
StoresValue home old new operand (Ok value) fault = Stores home old new operand value × (fault ≡ None)
StoresValue home old new operand (Err kind) fault =
    Stores home old new operand (default_result (kind_of home operand)) × (fault ≡ Some kind)

-- a text is stored, or the empty one where there is none since it would be too long
abbrev pub StoresText : Home → Inner → Inner → Operand → Option (List ℕ) → Option StackFault → Type 0
StoresText home old new operand (Some text) fault = Stores home old new operand (values.Text text) × (fault ≡ None)
StoresText home old new operand None fault =
    Stores home old new operand (values.Text []) × (fault ≡ Some TextTooLong)

-- an array of so many elements of a type is added, or a fault says why not
pub record Adds (old new : Inner) (kind : CoreType) (size : ℕ) (made : Value × Option StackFault) : Type 0 where
  pub slots : new.slots.now.items ≡ old.slots.now.items
  pub instances : new.store.now.instances ≡ old.store.now.instances
  pub arrays : arrays_of new.store.now.arrays ≡ with_array (arrays_of old.store.now.arrays) kind size
  pub loans : KeepsLoans old new
  pub made_is : made ≡ new_array (arrays_of old.store.now.arrays)

-- an array is added, and then it is stored in an operand
pub record CreatesOf (home : Home) (old new : Inner) (operand : Operand) (kind : CoreType) (size : ℕ) (fault : Option StackFault) : Type 0 where
  pub between : Inner
  pub value : Value
  pub added : Adds old between kind size (value, fault)
  pub stored : Stores home between new operand value

-- where the operand takes no array, nothing is done
abbrev pub Creates : Home → Inner → Inner → Operand → Option CoreType → ℕ → Option StackFault → Type 0
Creates home old new operand None size fault = StoresNothing old new × (fault ≡ None)
Creates home old new operand (Some kind) size fault = CreatesOf home old new operand kind size fault
