-- What reading a part of a listing gives.
use Rattle.std.specs.Prelude.{◌≡◌, ℕ, ◌+◌, ◌<◌, ◌^◌, Bool, true, false, List, ◌++◌, codes, length, Option, Some, None, is_some, IfSome, option_map}
use Rattle.std.specs.List.{flat_map, AllByRecursion}
use Rattle.pex_values.specs.declared.debug.PexDebug.{PexDebug}
use Rattle.pex_values.specs.declared.debug.PexLines.{PexLines}
use Rattle.pex_values.specs.declared.values.Instruction.{Instruction}
use Rattle.pex_values.specs.declared.values.PexFunction.{PexFunction}
use Rattle.pex_values.specs.declared.values.PexObject.{PexObject}
use Rattle.pex_values.specs.declared.values.PexProperty.{PexProperty}
use Rattle.pex_values.specs.declared.values.PexState.{PexState}
use Rattle.pex_values.specs.Fit.{IsCounted, FitsInstruction, FitsFunction, FitsState, FitsProperty, FitsObject, FitsDebug}
use Rattle.pex_values.specs.Plain.{plain_instruction, plain_function, plain_named, plain_state, plain_property, plain_object, plain_lines, plain_debug}
use Rattle.pex_values.specs.Shape.{IsShapedInstruction, IsShapedFunction, IsShapedNamed, IsShapedState, IsShapedProperty, IsShapedObject, IsShapedLines, IsShapedDebug}
use Rattle.pex_values.specs.Spelling as spell
use Rattle.pex_listing.specs.Lines.{line_end, number}
use Rattle.pex_listing.specs.Breaks.{least_bytes}
use Rattle.pex_listing.specs.Listing as form
use Rattle.pex_listing.specs.Opened.{TakesLines}
use Rattle.pex_listing.specs.declared.listing.Listing.{Listing}

-- these parts were read, which may stand in the value, and are few enough for a count
pub record ReadsAll {T : Type 0} (Holds : T → Type 0) (spelling lines : T → List ℕ) (old new : Listing) (parts : List T) : Type 0 where
  pub each : AllByRecursion Holds parts
  pub counted : length parts < 2 ^ 16
  pub takes : TakesLines (flat_map lines parts) (length (flat_map spelling parts)) old new

-- the bytes of the number of the values that follow, where some may follow
abbrev pub more_bytes : Bool → ℕ
more_bytes true = 5
more_bytes false = 0

-- which parts may stand in a value with so many strings

abbrev pub HoldsInstruction : ℕ → Instruction → Type 0
HoldsInstruction strings i = IsShapedInstruction strings (plain_instruction i) × FitsInstruction (plain_instruction i)

abbrev pub HoldsFunction : ℕ → PexFunction → Type 0
HoldsFunction strings f = IsShapedFunction strings (plain_function f) × FitsFunction (plain_function f)

abbrev pub HoldsNamed : ℕ → ℕ × PexFunction → Type 0
HoldsNamed strings f = IsShapedNamed strings (plain_named f) × FitsFunction (plain_named f).1

abbrev pub HoldsState : ℕ → PexState → Type 0
HoldsState strings s = IsShapedState strings (plain_state s) × FitsState (plain_state s)

abbrev pub HoldsProperty : ℕ → PexProperty → Type 0
HoldsProperty strings p = IsShapedProperty strings (plain_property p) × FitsProperty (plain_property p)

abbrev pub HoldsObject : ℕ → PexObject → Type 0
HoldsObject strings o = IsShapedObject strings (plain_object o) × FitsObject (plain_object o)

abbrev pub HoldsLines : ℕ → PexLines → Type 0
HoldsLines strings e = IsShapedLines strings (plain_lines e) × IsCounted (plain_lines e).lines

-- a function that stands exactly where it is asked for; its least bytes were taken from the room before
pub record ReadsAccessor (strings : ℕ) (spelled : ℕ → List ℕ) (word : List ℕ) (asked : Bool) (old new : Listing) (f : Option PexFunction) : Type 0 where
  pub asked_for : is_some (option_map plain_function f) ≡ asked
  pub shaped : IfSome (option_map plain_function f) (IsShapedFunction strings)
  pub fits : IfSome (option_map plain_function f) FitsFunction
  pub bytes : ℕ
  pub whole : bytes + least_bytes asked ≡ length (spell.optional spell.function (option_map plain_function f))
  pub takes : TakesLines (form.accessor spelled word (option_map plain_function f)) bytes old new

-- the line before the debug information
abbrev pub debug_start : Option ℕ → List ℕ
debug_start None = codes "nodebug" ++ line_end
debug_start (Some time) = codes "debug" ++ number time ++ line_end

-- the bytes of the debug information with no entries, beyond its flag
abbrev pub debug_rest : Option ℕ → ℕ
debug_rest None = 0
debug_rest (Some time) = 10

-- the debug information; the bytes of its flag and its time were taken from the room before
pub record ReadsDebug (strings : ℕ) (spelled : ℕ → List ℕ) (time : Option ℕ) (old new : Listing) (d : Option PexDebug) : Type 0 where
  pub shaped : IfSome (option_map plain_debug d) (IsShapedDebug strings)
  pub fits : IfSome (option_map plain_debug d) FitsDebug
  pub start : debug_start time ≡ form.debug_line (option_map plain_debug d)
  pub bytes : ℕ
  pub whole : bytes + 1 + debug_rest time ≡ length (spell.debug (option_map plain_debug d))
  pub takes : TakesLines (flat_map (form.lines spelled) (form.entries (option_map plain_debug d))) bytes old new
