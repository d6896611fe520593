-- Types whose scripts are among those of a set.
use Rattle.std.specs.Prelude.{ℕ, ◌<◌}
use Rattle.core_tree.specs.declared.core_type.CoreType.{CoreType}
use Rattle.core_tree.specs.declared.core_type.CoreType.TheVariants as types
use Rattle.pex_verify.specs.declared.value_type.ValueType.{ValueType}
use Rattle.pex_verify.specs.declared.value_type.ValueType.TheVariants.{Of}

-- the script of a type is one of so many
abbrev pub IsTypeAmong : ℕ → CoreType → Type 0
IsTypeAmong count (types.Script n) = n < count
IsTypeAmong count (types.ScriptArray n) = n < count
IsTypeAmong count _ = Unit {0}

-- the script of what a type name means
abbrev pub IsValueTypeAmong : ℕ → ValueType → Type 0
IsValueTypeAmong count (Of found) = IsTypeAmong count found
IsValueTypeAmong count _ = Unit {0}
