-- What scripts do to arrays. An array is shared: it belongs to no instance.
use Rattle.std.specs.Prelude.{ℕ, zero, suc, ◌+◌, Bool, false, if◌then◌else◌, nat_lt, ℤ, pos, int_lt, List, [], ◌∷◌, ◌++◌, length, replicate, Option, Some, None, slice_index_or, slice_set}
use Rattle.std.specs.Int.RustNames.{unsigned_abs}
use Rattle.core_tree.specs.declared.core_type.CoreType.{CoreType}
use Rattle.core_tree.specs.declared.core_type.CoreType.TheVariants as kinds
use Rattle.core_tree.specs.declared.value.Value.{Value}
use Rattle.core_tree.specs.declared.value.Value.TheVariants as values
use Rattle.papy_base.specs.declared.faults.StackFault.{StackFault}
use Rattle.papy_base.specs.declared.faults.StackFault.TheVariants as faults
use Rattle.script_meaning.specs.Values.{Result, equal}
use Rattle.core_tree.specs.Values.{default_of, place_number}
use Rattle.script_meaning.specs.World.{ArrayState}

abbrev pub array_limit : ℕ
array_limit = 4096

abbrev pub items_of : List ArrayState → ℕ → List Value
items_of arrays number = (slice_index_or arrays number (record { kind = kinds.Int; items = [] })).items

-- the arrays with one more, filled with defaults, and its number
abbrev pub with_array : List ArrayState → CoreType → ℕ → List ArrayState
with_array arrays kind count =
    if nat_lt (length arrays) array_limit then arrays ++ record { kind = kind; items = replicate count (default_of kind) } ∷ [] else arrays

abbrev pub new_array : List ArrayState → Result
new_array arrays =
    if nat_lt (length arrays) array_limit then (values.Array (length arrays), None) else (values.NoneValue, Some faults.ArrayLimit)

abbrev pub length_of : List ArrayState → Option ℕ → Result
length_of arrays None = (values.Int (pos 0), Some faults.NoneArray)
length_of arrays (Some number) = (values.Int (pos (length (items_of arrays number))), None)

abbrev pub is_index : List Value → ℤ → Bool
is_index items index = if int_lt index (pos 0) then false else nat_lt (unsigned_abs index) (length items)

-- the element at an index. A fault gives another value, the default of the element type
abbrev pub element_of : List ArrayState → Option ℕ → ℤ → Value → Result
element_of arrays None index otherwise = (otherwise, Some faults.NoneArray)
element_of arrays (Some number) index otherwise =
    if is_index (items_of arrays number) index
    then (slice_index_or (items_of arrays number) (unsigned_abs index) values.NoneValue, None)
    else (otherwise, Some faults.IndexRange)

-- why a write is left out, and the arrays after it
abbrev pub write_fault : List ArrayState → Option ℕ → ℤ → Option StackFault
write_fault arrays None index = Some faults.NoneArray
write_fault arrays (Some number) index = if is_index (items_of arrays number) index then None else Some faults.IndexRange

abbrev pub with_items : List ArrayState → ℕ → List Value → List ArrayState
with_items arrays number items =
    slice_set arrays number (record (slice_index_or arrays number (record { kind = kinds.Int; items = [] })) { items = items })

abbrev pub with_element : List ArrayState → Option ℕ → ℤ → Value → List ArrayState
with_element arrays None index value = arrays
with_element arrays (Some number) index value =
    if is_index (items_of arrays number) index
    then with_items arrays number (slice_set (items_of arrays number) (unsigned_abs index) value)
    else arrays

-- ---- searches
abbrev pub next : Option ℕ → Option ℕ
next None = None
next (Some place) = Some (suc place)

-- the place of the first element from `start` on that equals the value
abbrev pub first_from : List Value → Value → ℕ → Option ℕ
first_from [] value start = None
first_from (first ∷ rest) value zero = if equal first value then Some 0 else next (first_from rest value zero)
first_from (first ∷ rest) value (suc start) = next (first_from rest value start)

-- the place of the last element below `end` that equals the value
abbrev pub last_below : List Value → Value → ℕ → Option ℕ
last_below items value zero = None
last_below items value (suc place) =
    if equal (slice_index_or items place values.NoneValue) value then Some place else last_below items value place

-- a start below 0 counts as 0
abbrev pub first_start : ℤ → ℕ
first_start start = if int_lt start (pos 0) then 0 else unsigned_abs start

-- a start that is no index counts as the last place
abbrev pub last_end : List Value → ℤ → ℕ
last_end items start = if is_index items start then unsigned_abs start + 1 else length items

abbrev pub found : List ArrayState → Option ℕ → Value → ℤ → Result
found arrays None value start = (values.Int (pos 0), Some faults.NoneArray)
found arrays (Some number) value start =
    (values.Int (place_number (first_from (items_of arrays number) value (first_start start))), None)

abbrev pub found_back : List ArrayState → Option ℕ → Value → ℤ → Result
found_back arrays None value start = (values.Int (pos 0), Some faults.NoneArray)
found_back arrays (Some number) value start =
    (values.Int (place_number (last_below (items_of arrays number) value (last_end (items_of arrays number) start))), None)
