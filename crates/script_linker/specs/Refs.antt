-- References as pairs of a script's number and a place.
use Rattle.std.specs.Prelude.{ℕ}
use Rattle.script_linker.specs.declared.set.FunctionRef.{FunctionRef}
use Rattle.script_linker.specs.declared.set.PropertyRef.{PropertyRef}

abbrev pub function_pair : FunctionRef → ℕ × ℕ
function_pair found = (found.script, found.place)

abbrev pub property_pair : PropertyRef → ℕ × ℕ
property_pair found = (found.script, found.place)
