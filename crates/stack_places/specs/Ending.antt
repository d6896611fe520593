-- How many calls of a scene have begun.
use Rattle.std.specs.Prelude.{ℕ, List, count_by, nat_lt}
use Rattle.core_tree.specs.Scenes.{CallShape}

-- how many of these calls begin before a turn
abbrev pub calls_before : ℕ → List CallShape → ℕ
calls_before turn calls = count_by (λ call. nat_lt call.turn turn) calls
