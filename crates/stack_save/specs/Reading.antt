-- What stands at the front of bytes, and the bytes behind it: the inverse of the spelling, part by part.
use Rattle.std.specs.Prelude.{ℕ, zero, suc, ◌==◌, ℤ, Bool, true, List, [], ◌∷◌, length, take, drop, Option, Some, None, nat_le, if◌then◌else◌, ◌&&◌}
use Rattle.std.specs.Int.{w32, cast_signed}
use Rattle.byteorder.specs.Endian.{big_from}
use Rattle.core_tree.specs.Device.{DeviceState}
use Rattle.core_tree.specs.declared.DeviceKind.{DeviceKind}
use Rattle.core_tree.specs.declared.DeviceKind.TheVariants.{Tape, Sum, Latch, Dice}
use Rattle.core_tree.specs.declared.core_type.CoreType.{CoreType}
use Rattle.core_tree.specs.declared.core_type.CoreType.TheVariants as kinds
use Rattle.core_tree.specs.declared.value.Value.{Value}
use Rattle.core_tree.specs.declared.value.Value.TheVariants as values
use Rattle.machine_state.specs.declared.frame.BodyPlace.{BodyPlace}
use Rattle.machine_state.specs.declared.frame.Way.{Way}
use Rattle.machine_state.specs.declared.frame.Way.TheVariants as ways
use Rattle.machine_state.specs.Plain.{PlainCall, PlainBody, PlainFrame, ToEnter, Running, PlainInstance, PlainArray, PlainState}
use Rattle.machine_state.specs.Savable.{firsts}
use Rattle.stack_save.specs.Spelling.{PlainLocks, PlainThings}

abbrev pub Found : Type 0 → Type 0
Found A = Option (A × List ℕ)

-- what stands behind a part that is there
abbrev pub found_then : {A B : Type 0} → Found A → (A → List ℕ → Found B) → Found B
found_then None next = None
found_then (Some found) next = next found.0 found.1

abbrev pub found_as : {A B : Type 0} → (A → B) → Found A → Found B
found_as view None = None
found_as view (Some found) = Some (view found.0, found.1)

-- a part that is there, where it passes a test
abbrev pub found_where : {A : Type 0} → (A → Bool) → Found A → Found A
found_where test None = None
found_where test (Some found) = if test found.0 then Some found else None

-- ---- numbers and texts

abbrev pub byte_at : List ℕ → Found ℕ
byte_at [] = None
byte_at (byte ∷ rest) = Some (byte, rest)

-- a byte that is at most this
abbrev pub tag_at : ℕ → List ℕ → Found ℕ
tag_at most bytes = found_where (λ tag. nat_le tag most) (byte_at bytes)

unfoldable pub bytes_at : ℕ → List ℕ → Found (List ℕ)
bytes_at count bytes = if nat_le count (length bytes) then Some (take count bytes, drop count bytes) else None

unfoldable pub number_at : ℕ → List ℕ → Found ℕ
number_at width bytes = found_as (λ taken. big_from 0 width taken) (bytes_at width bytes)

abbrev pub integer_at : List ℕ → Found ℤ
integer_at bytes = found_as (λ n. cast_signed w32 n) (number_at 4 bytes)

abbrev pub number_if : ℕ → Option ℕ
number_if n = if n == 65535 then None else Some n

abbrev pub number_or_none_at : List ℕ → Found (Option ℕ)
number_or_none_at bytes = found_as number_if (number_at 2 bytes)

unfoldable pub string_at : List ℕ → Found (List ℕ)
string_at bytes = found_then (number_at 2 bytes) bytes_at

unfoldable pub long_string_at : List ℕ → Found (List ℕ)
long_string_at bytes = found_then (number_at 4 bytes) bytes_at

-- ---- lists

abbrev pub items_at : {A : Type 0} → (List ℕ → Found A) → ℕ → List ℕ → Found (List A)
items_at item zero bytes = Some ([], bytes)
items_at item (suc n) bytes =
    found_then (item bytes) (λ first rest. found_as (λ others. first ∷ others) (items_at item n rest))

unfoldable pub list_at : {A : Type 0} → (List ℕ → Found A) → List ℕ → Found (List A)
list_at item bytes = found_then (number_at 2 bytes) (items_at item)

unfoldable pub long_list_at : {A : Type 0} → (List ℕ → Found A) → List ℕ → Found (List A)
long_list_at item bytes = found_then (number_at 4 bytes) (items_at item)

unfoldable pub short_list_at : {A : Type 0} → (List ℕ → Found A) → List ℕ → Found (List A)
short_list_at item bytes = found_then (byte_at bytes) (items_at item)

-- ---- values

unfoldable pub pair_at : List ℕ → Found (ℕ × ℕ)
pair_at bytes = found_then (number_at 2 bytes) (λ first rest. found_as (λ second. (first, second)) (number_at 2 rest))

unfoldable pub sleeper_at : List ℕ → Found (ℕ × ℕ)
sleeper_at bytes = found_then (number_at 2 bytes) (λ stack rest. found_as (λ due. (stack, due)) (number_at 4 rest))

abbrev pub truth_at : List ℕ → Found Bool
truth_at bytes = found_as (λ tag. tag == 1) (tag_at 1 bytes)

-- the value behind its tag
abbrev pub value_with : ℕ → List ℕ → Found Value
value_with zero rest = Some (values.NoneValue, rest)
value_with (suc zero) rest = found_as values.Int (integer_at rest)
value_with (suc (suc zero)) rest = found_as values.Bool (truth_at rest)
value_with (suc (suc (suc zero))) rest = found_as values.Text (string_at rest)
value_with (suc (suc (suc (suc zero)))) rest = found_as values.Instance (number_at 2 rest)
value_with _ rest = found_as values.Array (number_at 2 rest)

unfoldable pub value_at : List ℕ → Found Value
value_at bytes = found_then (tag_at 5 bytes) value_with

-- ---- instances, arrays and devices

unfoldable pub instance_at : List ℕ → Found PlainInstance
instance_at bytes =
    found_then (string_at bytes) (λ state rest. found_as (λ values. record { state = state; values = values }) (long_list_at value_at rest))

abbrev pub element_type_with : ℕ → List ℕ → Found CoreType
element_type_with zero rest = Some (kinds.Int, rest)
element_type_with (suc zero) rest = Some (kinds.Bool, rest)
element_type_with (suc (suc zero)) rest = Some (kinds.Text, rest)
element_type_with _ rest = found_as kinds.Script (number_at 2 rest)

unfoldable pub element_type_at : List ℕ → Found CoreType
element_type_at bytes = found_then (tag_at 3 bytes) element_type_with

unfoldable pub array_at : List ℕ → Found PlainArray
array_at bytes =
    found_then (element_type_at bytes) (λ element rest. found_as (λ values. record { element = element; values = values }) (short_list_at value_at rest))

abbrev pub kind_of_tag : ℕ → DeviceKind
kind_of_tag zero = Tape
kind_of_tag (suc zero) = Sum
kind_of_tag (suc (suc zero)) = Latch
kind_of_tag _ = Dice

abbrev pub device_kind_at : List ℕ → Found DeviceKind
device_kind_at bytes = found_as kind_of_tag (tag_at 3 bytes)

unfoldable pub device_at : List ℕ → Found DeviceState
device_at bytes =
    found_then (device_kind_at bytes) (λ kind rest. found_then (long_list_at integer_at rest)
    (λ cells behind. found_as (λ place. record { kind = kind; cells = cells; place = place }) (number_at 8 behind)))

-- ---- stacks

-- a name with its script
abbrev pub scripted_at : (ℕ → List ℕ → Way) → List ℕ → Found Way
scripted_at way rest = found_then (number_at 2 rest) (λ script behind. found_as (λ name. way script name) (string_at behind))

-- the way behind its tag
abbrev pub way_with : ℕ → List ℕ → Found Way
way_with zero rest = found_as ways.Method (string_at rest)
way_with (suc zero) rest = scripted_at (λ script name. ways.Parent script name) rest
way_with (suc (suc zero)) rest = scripted_at (λ script name. ways.Global script name) rest
way_with (suc (suc (suc zero))) rest = found_as ways.Get (string_at rest)
way_with _ rest = found_as ways.Set (string_at rest)

unfoldable pub way_at : List ℕ → Found Way
way_at bytes = found_then (tag_at 4 bytes) way_with

unfoldable pub call_at : List ℕ → Found PlainCall
call_at bytes =
    found_then (number_or_none_at bytes) (λ instance rest. found_then (way_at rest)
    (λ way behind. found_as (λ arguments. record { instance = instance; way = way; arguments = arguments }) (list_at value_at behind)))

unfoldable pub place_at : List ℕ → Found BodyPlace
place_at bytes =
    found_then (number_at 2 bytes) (λ script rest. found_then (string_at rest)
    (λ state rest'. found_then (string_at rest')
    (λ function rest''. found_as (λ kind. record { script = script; state = state; function = function; kind = kind }) (tag_at 2 rest''))))

-- the reply behind its tag
abbrev pub reply_with : ℕ → List ℕ → Found (Option Value)
reply_with zero rest = Some (None, rest)
reply_with _ rest = found_as Some (value_at rest)

unfoldable pub reply_at : List ℕ → Found (Option Value)
reply_at bytes = found_then (tag_at 1 bytes) reply_with

unfoldable pub body_at : List ℕ → Found PlainBody
body_at bytes =
    found_then (number_or_none_at bytes) (λ instance rest. found_then (place_at rest)
    (λ place rest'. found_then (number_at 2 rest')
    (λ instruction rest''. found_then (list_at value_at rest'')
    (λ slots behind. found_as (λ reply. record { instance = instance; place = place; instruction = instruction; slots = slots; reply = reply }) (reply_at behind)))))

-- the frame behind its tag
abbrev pub frame_with : ℕ → List ℕ → Found PlainFrame
frame_with zero rest = found_as ToEnter (call_at rest)
frame_with _ rest = found_as Running (body_at rest)

unfoldable pub frame_at : List ℕ → Found PlainFrame
frame_at bytes = found_then (tag_at 1 bytes) frame_with

abbrev pub stack_at : List ℕ → Found (List PlainFrame)
stack_at bytes = list_at frame_at bytes

-- ---- the state

-- each number is over the one before, and none is below this
abbrev pub ascending_above : ℕ → List ℕ → Bool
ascending_above low [] = true
ascending_above low (x ∷ xs) = nat_le low x && ascending_above (suc x) xs

abbrev pub ascending : List ℕ → Bool
ascending xs = ascending_above 0 xs

abbrev pub owners_at : List ℕ → Found (List (ℕ × ℕ))
owners_at bytes = found_where (λ owners. ascending (firsts owners)) (list_at pair_at bytes)

abbrev pub free_at : List ℕ → Found (List ℕ)
free_at bytes = found_where ascending (list_at (number_at 2) bytes)

abbrev pub asleep_at : List ℕ → Found (List (ℕ × ℕ))
asleep_at bytes = found_where (λ asleep. ascending (firsts asleep)) (list_at sleeper_at bytes)

unfoldable pub locks_at : List ℕ → Found PlainLocks
locks_at bytes =
    found_then (owners_at bytes) (λ owners rest. found_then (list_at pair_at rest)
    (λ waiters rest'. found_then (free_at rest')
    (λ free behind. found_as (λ asleep. record { owners = owners; waiters = waiters; free = free; asleep = asleep }) (asleep_at behind))))

unfoldable pub things_at : List ℕ → Found PlainThings
things_at bytes =
    found_then (list_at array_at bytes) (λ arrays rest. found_then (list_at device_at rest)
    (λ devices behind. found_as (λ stacks. record { arrays = arrays; devices = devices; stacks = stacks }) (list_at stack_at behind)))

abbrev pub state_of : ℕ → Option ℕ → List PlainInstance → PlainLocks → PlainThings → PlainState
state_of turn last instances locks things = record {
  turn = turn;
  last = last;
  instances = instances;
  owners = locks.owners;
  waiters = locks.waiters;
  free = locks.free;
  asleep = locks.asleep;
  arrays = things.arrays;
  devices = things.devices;
  stacks = things.stacks;
}

unfoldable pub state_at : List ℕ → Found PlainState
state_at bytes =
    found_then (number_at 4 bytes) (λ turn rest. found_then (number_or_none_at rest)
    (λ last rest'. found_then (list_at instance_at rest')
    (λ instances rest''. found_then (locks_at rest'')
    (λ locks behind. found_as (λ things. state_of turn last instances locks things) (things_at behind)))))

-- ---- the file behind its heading

pub record PlainHeld : Type 0 where
  pub files : List (List ℕ)
  pub scene : List ℕ
  pub state : PlainState

unfoldable pub held_at : List ℕ → Found PlainHeld
held_at bytes =
    found_then (list_at long_string_at bytes) (λ files rest. found_then (long_string_at rest)
    (λ scene behind. found_as (λ state. record { files = files; scene = scene; state = state }) (state_at behind)))
