-- The bytes that spell a held file: its fields in a row. Numbers have their highest byte first. A text has the number of
-- its bytes in front, and a list the number of its items, in two bytes where nothing else is said.
use Rattle.std.specs.Prelude.{ℕ, ℤ, Bool, true, false, List, [], ◌∷◌, ◌++◌, length, Option, Some, None}
use Rattle.std.specs.List.{flat_map}
use Rattle.std.specs.Int.{w32, cast_unsigned}
use Rattle.core_tree.specs.Device.{DeviceState}
use Rattle.core_tree.specs.declared.DeviceKind.{DeviceKind}
use Rattle.core_tree.specs.declared.DeviceKind.TheVariants.{Tape, Sum, Latch, Dice}
use Rattle.core_tree.specs.declared.core_type.CoreType.{CoreType}
use Rattle.core_tree.specs.declared.core_type.CoreType.TheVariants as kinds
use Rattle.core_tree.specs.declared.value.Value.{Value}
use Rattle.core_tree.specs.declared.value.Value.TheVariants as values
use Rattle.machine_state.specs.declared.frame.BodyPlace.{BodyPlace}
use Rattle.machine_state.specs.declared.frame.Way.{Way}
use Rattle.machine_state.specs.declared.frame.Way.TheVariants as ways
use Rattle.machine_state.specs.Plain.{PlainCall, PlainBody, PlainFrame, ToEnter, Running, PlainInstance, PlainArray, PlainState}
use Rattle.pex_values.specs.Spelling.{one_byte, two_bytes, four_bytes, eight_bytes, string, list, pair}

abbrev pub integer : ℤ → List ℕ
integer n = four_bytes (cast_unsigned w32 n)

-- a list whose number of items has one byte, or four

abbrev pub short_list : {A : Type 0} → (A → List ℕ) → List A → List ℕ
short_list item items = one_byte (length items) ++ flat_map item items

abbrev pub long_list : {A : Type 0} → (A → List ℕ) → List A → List ℕ
long_list item items = four_bytes (length items) ++ flat_map item items

-- the number of bytes in four bytes, and the bytes
abbrev pub long_string : List ℕ → List ℕ
long_string bytes = four_bytes (length bytes) ++ bytes

-- 65535 says none
abbrev pub number_or_none : Option ℕ → List ℕ
number_or_none None = two_bytes 65535
number_or_none (Some n) = two_bytes n

-- ---- values

abbrev pub truth : Bool → List ℕ
truth false = 0 ∷ []
truth true = 1 ∷ []

abbrev pub value : Value → List ℕ
value values.NoneValue = 0 ∷ []
value (values.Int n) = 1 ∷ integer n
value (values.Bool b) = 2 ∷ truth b
value (values.Text text) = 3 ∷ string text
value (values.Instance n) = 4 ∷ two_bytes n
value (values.Array n) = 5 ∷ two_bytes n

-- ---- instances, arrays and devices

unfoldable pub instance : PlainInstance → List ℕ
instance i = string i.state ++ long_list value i.values

-- an array type is no type of elements
abbrev pub element_type : CoreType → List ℕ
element_type kinds.Int = 0 ∷ []
element_type kinds.Bool = 1 ∷ []
element_type kinds.Text = 2 ∷ []
element_type (kinds.Script n) = 3 ∷ two_bytes n
element_type _ = []

unfoldable pub array : PlainArray → List ℕ
array a = element_type a.element ++ short_list value a.values

abbrev pub device_kind : DeviceKind → List ℕ
device_kind Tape = 0 ∷ []
device_kind Sum = 1 ∷ []
device_kind Latch = 2 ∷ []
device_kind Dice = 3 ∷ []

unfoldable pub device : DeviceState → List ℕ
device d = device_kind d.kind ++ long_list integer d.cells ++ eight_bytes d.place

-- ---- stacks

abbrev pub named : ℕ → List ℕ → List ℕ
named tag name = tag ∷ string name

abbrev pub scripted : ℕ → ℕ → List ℕ → List ℕ
scripted tag script name = tag ∷ (two_bytes script ++ string name)

abbrev pub way : Way → List ℕ
way (ways.Method name) = named 0 name
way (ways.Parent script name) = scripted 1 script name
way (ways.Global script name) = scripted 2 script name
way (ways.Get name) = named 3 name
way (ways.Set name) = named 4 name

unfoldable pub call : PlainCall → List ℕ
call c = number_or_none c.instance ++ way c.way ++ list value c.arguments

unfoldable pub place : BodyPlace → List ℕ
place p = two_bytes p.script ++ string p.state ++ string p.function ++ one_byte p.kind

-- 0, or 1 and the value
abbrev pub reply : Option Value → List ℕ
reply None = 0 ∷ []
reply (Some v) = 1 ∷ value v

unfoldable pub body : PlainBody → List ℕ
body b = number_or_none b.instance ++ place b.place ++ two_bytes b.instruction ++ list value b.slots ++ reply b.reply

abbrev pub frame : PlainFrame → List ℕ
frame (ToEnter c) = 0 ∷ call c
frame (Running b) = 1 ∷ body b

abbrev pub stack : List PlainFrame → List ℕ
stack frames = list frame frames

-- ---- the state

abbrev pub sleeper : ℕ × ℕ → List ℕ
sleeper s = two_bytes s.0 ++ four_bytes s.1

-- who holds an instance, waits for one, needs none, or sleeps
pub record PlainLocks : Type 0 where
  pub owners : List (ℕ × ℕ)
  pub waiters : List (ℕ × ℕ)
  pub free : List ℕ
  pub asleep : List (ℕ × ℕ)

unfoldable pub locks : PlainLocks → List ℕ
locks l = list pair l.owners ++ list pair l.waiters ++ list two_bytes l.free ++ list sleeper l.asleep

pub record PlainThings : Type 0 where
  pub arrays : List PlainArray
  pub devices : List DeviceState
  pub stacks : List (List PlainFrame)

unfoldable pub things : PlainThings → List ℕ
things t = list array t.arrays ++ list device t.devices ++ list stack t.stacks

abbrev pub locks_of : PlainState → PlainLocks
locks_of s = record { owners = s.owners; waiters = s.waiters; free = s.free; asleep = s.asleep }

abbrev pub things_of : PlainState → PlainThings
things_of s = record { arrays = s.arrays; devices = s.devices; stacks = s.stacks }

unfoldable pub state : PlainState → List ℕ
state s =
    four_bytes s.turn ++ number_or_none s.last ++ list instance s.instances ++ locks (locks_of s) ++ things (things_of s)

-- ---- the file

-- 50484C44, and the layout's number 1
abbrev pub heading : List ℕ
heading = 0x50 ∷ 0x48 ∷ 0x4C ∷ 0x44 ∷ 1 ∷ []

-- the spellings of the PEX files, the scene's bytes, and the state
unfoldable pub spelling : List (List ℕ) → List ℕ → PlainState → List ℕ
spelling files scene s = heading ++ list long_string files ++ long_string scene ++ state s
