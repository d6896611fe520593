-- The parents of scripts, by their heads.
use Rattle.std.specs.Prelude.{ℕ, ◌^◌, nat_lt, List, Option, Some, None, slice_get, if◌then◌else◌}
use Rattle.std.specs.Option.{option_and_then}
use Rattle.pex_verify.specs.declared.scripts.ScriptHead.{ScriptHead}

-- the parent of a script by its head
abbrev pub parent_in : List ScriptHead → ℕ → Option ℕ
parent_in heads script = option_and_then (λ head. head.parent) (slice_get heads script)

-- the same number, where it is that of one of so many scripts
abbrev pub parent_among : ℕ → Option ℕ → Option ℕ
parent_among count None = None
parent_among count (Some parent) = if nat_lt parent count then (if nat_lt parent (2 ^ 16) then Some parent else None) else None
