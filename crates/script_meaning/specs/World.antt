-- A world: all that a run of scripts changes, besides the stacks.
use Rattle.std.specs.Prelude.{ℕ, List, [], ◌∷◌, if◌then◌else◌, Option, ◌==◌, slice_index_or, slice_set}
use Rattle.core_tree.specs.declared.core_type.CoreType.{CoreType}
use Rattle.core_tree.specs.declared.value.Value.{Value}
use Rattle.core_tree.specs.declared.value.Value.TheVariants.{NoneValue}
use Rattle.core_tree.specs.Device.{DeviceState}
use Rattle.core_tree.specs.Outlines.{ScriptShape}
use Rattle.papy_base.specs.declared.faults.StackFault.{StackFault}

-- the values of variables: those of each script that an instance has variables of, after its number
abbrev pub Variables : Type 0
Variables = List (ℕ × List Value)

pub record Instance : Type 0 where
  pub name : List ℕ
  pub script : ℕ
  -- the name of its state, spelled as it was given
  pub state : List ℕ
  pub variables : Variables

pub record ArrayState : Type 0 where
  -- the type of its elements
  pub kind : CoreType
  pub items : List Value

-- where a body stands: the names of its script and of its function or property, and a line
pub record Place : Type 0 where
  pub script : List ℕ
  pub function : List ℕ
  pub line : ℕ

-- a line that a stack printed
pub data Line : Type 0 where
  Traced : (stack : ℕ) (text : List ℕ) → Line
  Faulted : (stack : ℕ) (at : Place) (fault : StackFault) → Line

pub record World : Type 0 where
  -- the outline of the script set, which no step changes
  pub outline : List ScriptShape
  -- how many turns are done, the stack that was last chosen, and how many stacks have started
  pub turn : ℕ
  pub last : Option ℕ
  pub started : ℕ
  pub instances : List Instance
  -- pairs of an instance and the stack that owns it, by instance
  pub owners : List (ℕ × ℕ)
  -- pairs of an instance and a stack that waits for it, in order of joining
  pub waiters : List (ℕ × ℕ)
  -- the stacks that run without an instance, and those that are done, by number
  pub free : List ℕ
  pub done : List ℕ
  -- pairs of a stack that sleeps and the turn at which it is due, by stack
  pub asleep : List (ℕ × ℕ)
  pub arrays : List ArrayState
  pub devices : List DeviceState
  pub output : List Line

abbrev pub no_instance : Instance
no_instance = record { name = []; script = 0; state = []; variables = [] }

-- the script and the name of an instance
abbrev pub title : Instance → ℕ × List ℕ
title instance = (instance.script, instance.name)

abbrev pub instance_at : World → ℕ → Instance
instance_at world number = slice_index_or world.instances number no_instance

-- ---- variables
abbrev pub values_of : Variables → ℕ → List Value
values_of [] script = []
values_of (first ∷ rest) script = if first.0 == script then first.1 else values_of rest script

abbrev pub variable_of : Variables → ℕ → ℕ → Value
variable_of variables script number = slice_index_or (values_of variables script) number NoneValue

-- the variables after a write to one of them
abbrev pub with_variable : Variables → ℕ → ℕ → Value → Variables
with_variable [] script number value = []
with_variable (first ∷ rest) script number value =
    if first.0 == script then (first.0, slice_set first.1 number value) ∷ rest else first ∷ with_variable rest script number value
