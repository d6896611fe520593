-- What a device is to the scripts that call it: its kind, its cells and the place of the next cell
-- to be read.
use Rattle.std.specs.Prelude.{ℕ, ◌+◌, ◌-◌, ◌%◌, ℤ, pos, ◌+ℤ◌, ◌-ℤ◌, List, [], ◌∷◌, length, min, fold, slice_index_or, nat_lt, if◌then◌else◌, ◌||◌, not, int_lt}
use Rattle.std.specs.Int.{w32, int_wrap, cast_unsigned}
use Rattle.std.specs.Int.RustNames.{unsigned_abs}
use Rattle.core_tree.specs.declared.DeviceKind.{DeviceKind}
use Rattle.core_tree.specs.declared.DeviceKind.TheVariants.{Tape, Sum, Latch, Dice}

pub record DeviceState : Type 0 where
  pub kind : DeviceKind
  pub cells : List ℤ
  pub place : ℕ

abbrev pub no_device : DeviceState
no_device = record { kind = Tape; cells = []; place = 0 }

-- the device at a place of a list
abbrev pub device_at : List DeviceState → ℕ → DeviceState
device_at devices place = slice_index_or devices place no_device

-- the sum of the numbers, which wraps at 32 bits
abbrev pub wrapping_sum : List ℤ → ℤ
wrapping_sum numbers = int_wrap w32 (fold ◌+ℤ◌ (pos 0) numbers)

-- the last number, or 0
abbrev pub last_or_zero : List ℤ → ℤ
last_or_zero numbers = slice_index_or numbers (length numbers - 1) (pos 0)

-- the device after it was loaded with these cells at this place
abbrev pub load : DeviceKind → List ℤ → ℕ → DeviceState
load Tape cells at = record { kind = Tape; cells = cells; place = min at (length cells) }
load Sum cells at = record { kind = Sum; cells = wrapping_sum cells ∷ []; place = 0 }
load Latch cells at = record { kind = Latch; cells = last_or_zero cells ∷ []; place = 0 }
load Dice cells at = record { kind = Dice; cells = cells; place = min at (length cells) }

-- the argument at this place, where missing arguments count as 0
abbrev pub argument : List ℤ → ℕ → ℤ
argument arguments at = slice_index_or arguments at (pos 0)

-- a number from low to high, chosen by a cell that is read as an unsigned number
abbrev pub number_in_range : ℤ → ℤ → ℤ → ℤ
number_in_range low high cell =
    low +ℤ pos (cast_unsigned w32 cell % unsigned_abs (high -ℤ low +ℤ pos 1))

abbrev pub tape_step : DeviceState → ℤ × DeviceState
tape_step device =
    if nat_lt device.place (length device.cells)
    then (slice_index_or device.cells device.place (pos 0), record device { place = device.place + 1 })
    else (pos 0, device)

abbrev pub sum_step : DeviceState → List ℤ → ℤ × DeviceState
sum_step device arguments =
    let total = wrapping_sum (argument device.cells 0 ∷ arguments)
    in (total, record device { cells = total ∷ [] })

-- a latch keeps its first argument, or its cell where there is none
abbrev pub latch_step : DeviceState → List ℤ → ℤ × DeviceState
latch_step device [] = (argument device.cells 0, device)
latch_step device (first ∷ rest) = (argument device.cells 0, record device { cells = first ∷ [] })

abbrev pub dice_step : DeviceState → ℤ → ℤ → ℤ × DeviceState
dice_step device low high =
    if int_lt high low || not (nat_lt device.place (length device.cells))
    then (low, device)
    else (number_in_range low high (slice_index_or device.cells device.place (pos 0)), record device { place = device.place + 1 })

-- the reply to a call with these arguments, and the device after it
abbrev pub device_step : DeviceState → List ℤ → ℤ × DeviceState
device_step device arguments = step_of device.kind where
  step_of : DeviceKind → ℤ × DeviceState
  step_of Tape = tape_step device
  step_of Sum = sum_step device arguments
  step_of Latch = latch_step device arguments
  step_of Dice = dice_step device (argument arguments 0) (argument arguments 1)
