-- What holds where code stands, and of what calls look up.
use Rattle.std.specs.Prelude.{ℕ, ◌<◌, vec_len}
use Rattle.pex_verify.specs.declared.operand_rules.Lookup.{Lookup}
use Rattle.pex_verify.specs.declared.operand_rules.Lookup.TheVariants.{Function}
use Rattle.pex_verify.specs.declared.scope.Home.{Home}
use Rattle.pex_verify.specs.Soundness.{Bounds, bounds_with}

-- the bounds of the script in which code stands
abbrev pub bounds_of : Home → Bounds
bounds_of home = bounds_with (vec_len home.set.now.heads) (vec_len home.variables.now.list)

-- the script of a function that was found is one of so many
abbrev pub IsFoundAmong : ℕ → Lookup → Type 0
IsFoundAmong count (Function callee) = callee.place.object < count
IsFoundAmong count _ = Unit {0}
