-- The count so far, and no earlier one was over the limit.
use Rattle.std.proofs.Common.{◌≡◌, ℕ, ◌≤◌, take}
use Rattle.line_parser.specs.Nesting.{open_after}
use Rattle.line_parser.proofs.nesting.passes_limit.Given as goal

abbrev pub invariant-loop-spanned : goal.invariant-loop-spanned
invariant-loop-spanned l =
    (l.open ≡ open_after (take l.spanned-index l.tokens)) × ((k : ℕ) → k ≤ l.spanned-index → open_after (take k l.tokens) ≤ 64)
