-- The arrays of a world, by number, and what the operations of a script do to them.
use Rattle.std.specs.Prelude.{◌≡◌, IsTrue, ℕ, zero, suc, ◌+◌, ℤ, pos, Bool, true, false, List, [], ◌∷◌, ◌++◌, Option, Some, None, Result, Ok, Err, length, replicate, drop, position, slice_index_or, slice_set, nat_lt, int_lt, if◌then◌else◌}
use Rattle.std.specs.Int.RustNames.{unsigned_abs}
use Rattle.std.specs.Option.{option_map}
use Rattle.instance_store.specs.declared.arrays.StoreFault.{StoreFault}
use Rattle.instance_store.specs.declared.arrays.StoreFault.TheVariants.{Fault, OutOfMemory}
use Rattle.papy_base.specs.declared.faults.StackFault.{StackFault}
use Rattle.papy_base.specs.declared.faults.StackFault.TheVariants.{NoneArray, IndexRange}
use Rattle.core_tree.specs.declared.core_type.CoreType.{CoreType}
use Rattle.core_tree.specs.declared.core_type.CoreType.TheVariants as kinds
use Rattle.core_tree.specs.declared.value.Value.{Value}
use Rattle.core_tree.specs.declared.value.Value.TheVariants.{NoneValue}
use Rattle.core_tree.specs.Values.{is_text, place_number}
use Rattle.instance_store.specs.Values.{equals}
use Rattle.core_tree.specs.Values.{default_of}

-- an array: the type of its elements, and the elements
pub record ArrayState : Type 0 where
  pub kind : CoreType
  pub items : List Value

abbrev pub no_array : ArrayState
no_array = record { kind = kinds.Int; items = [] }

abbrev pub array_at : List ArrayState → ℕ → ArrayState
array_at arrays number = slice_index_or arrays number no_array

abbrev pub item_at : List Value → ℕ → Value
item_at items place = slice_index_or items place NoneValue

-- a new array
abbrev pub filled : CoreType → ℕ → ArrayState
filled kind count = record { kind = kind; items = replicate count (default_of kind) }

-- the place that an index names, where there is one
abbrev pub place_in : ℕ → ℤ → Option ℕ
place_in count index =
    if int_lt index (pos 0) then None else (if nat_lt (unsigned_abs index) count then Some (unsigned_abs index) else None)

-- ---- the length
abbrev pub length_of : List ArrayState → Option ℕ → Result ℤ StackFault
length_of arrays None = Err NoneArray
length_of arrays (Some number) = Ok (pos (length (array_at arrays number).items))

-- ---- one element
abbrev pub item_or_fault : List Value → Option ℕ → Result Value StackFault
item_or_fault items None = Err IndexRange
item_or_fault items (Some place) = Ok (item_at items place)

abbrev pub item_of : ArrayState → ℤ → Result Value StackFault
item_of array index = item_or_fault array.items (place_in (length array.items) index)

-- the element that a read gives, or its fault
abbrev pub read : List ArrayState → Option ℕ → ℤ → Result Value StackFault
read arrays None index = Err NoneArray
read arrays (Some number) index = item_of (array_at arrays number) index

abbrev pub holds_text : Result Value StackFault → Bool
holds_text (Ok value) = is_text value
holds_text (Err fault) = false

-- why a read gives no copy: its own fault, or want of memory for a text
abbrev pub IsRefusal : Result Value StackFault → StoreFault → Type 0
IsRefusal answer (Fault fault) = answer ≡ Err fault
IsRefusal answer OutOfMemory = IsTrue (holds_text answer)

-- ---- a new array
-- what creating an array leaves: it stands last, and its number is the number of arrays before
pub record IsCreated (old new : List ArrayState) (kind : CoreType) (count number : ℕ) : Type 0 where
  pub numbered : number ≡ length old
  pub added : new ≡ old ++ filled kind count ∷ []

-- ---- a write
abbrev pub place_or_fault : Option ℕ → Result Unit StackFault
place_or_fault None = Err IndexRange
place_or_fault (Some place) = Ok tt

abbrev pub items_with : List Value → Option ℕ → Value → List Value
items_with items None value = items
items_with items (Some place) value = slice_set items place value

-- the answer of a write to an array
abbrev pub write_answer_of : ArrayState → ℤ → Result Unit StackFault
write_answer_of array index = place_or_fault (place_in (length array.items) index)

-- the array after the write
abbrev pub array_with : ArrayState → ℤ → Value → ArrayState
array_with array index value =
    record array { items = items_with array.items (place_in (length array.items) index) value }

abbrev pub write_answer : List ArrayState → Option ℕ → ℤ → Result Unit StackFault
write_answer arrays None index = Err NoneArray
write_answer arrays (Some number) index = write_answer_of (array_at arrays number) index

abbrev pub arrays_with : List ArrayState → Option ℕ → ℤ → Value → List ArrayState
arrays_with arrays None index value = arrays
arrays_with arrays (Some number) index value =
    slice_set arrays number (array_with (array_at arrays number) index value)

-- ---- a search
-- the first place not below a start whose element equals the value
abbrev pub first_equal : List Value → Value → ℕ → Option ℕ
first_equal items value start =
    option_map (λ place. start + place) (position (λ item. equals item value) (drop start items))

-- the last such place below an end
abbrev pub last_equal : List Value → Value → ℕ → Option ℕ
last_equal items value zero = None
last_equal items value (suc place) =
    if equals (item_at items place) value then Some place else last_equal items value place

-- a start below 0 counts as 0
abbrev pub first_place : ℤ → ℕ
first_place start = if int_lt start (pos 0) then 0 else unsigned_abs start

-- the end of a search backwards: behind the start, and behind the last element where no element
-- stands at the start
abbrev pub end_behind : ℕ → Option ℕ → ℕ
end_behind count None = count
end_behind count (Some place) = place + 1

abbrev pub found_place : List Value → Value → ℤ → Bool → Option ℕ
found_place items value start false = first_equal items value (first_place start)
found_place items value start true = last_equal items value (end_behind (length items) (place_in (length items) start))

abbrev pub found : List ArrayState → Option ℕ → Value → ℤ → Bool → Result ℤ StackFault
found arrays None value start back = Err NoneArray
found arrays (Some number) value start back =
    Ok (place_number (found_place (array_at arrays number).items value start back))
