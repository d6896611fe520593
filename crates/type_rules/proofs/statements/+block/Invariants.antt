-- A call goes on to the statements of a block inside. What was made so far is in range, and there is room for the rest.
use Rattle.std.proofs.Common.{◌≡◌, ◌+◌, ◌*◌, length, vec_len, vec_capacity}
use Rattle.core_tree.specs.InRange.{BlockInRange, BranchesInRange}
use Rattle.core_tree.specs.Tree.{block_of, branches_of}
use Rattle.expression_rules.specs.Scopes.{ScopeInRange, scope_bounds}
use Rattle.type_rules.specs.Ranges.{Grows, PromiseInRange}
use Rattle.type_rules.proofs.statements.+block.Given as goal

abbrev pub decreases-core_block : goal.decreases-core_block
decreases-core_block l = 3 * l.depth

abbrev pub decreases-core_statement : goal.decreases-core_statement
decreases-core_statement l = 3 * l.depth + 2

abbrev pub decreases-branches : goal.decreases-branches
decreases-branches l = 3 * l.depth + 1

abbrev pub invariant-core_block-loop-statement : goal.invariant-core_block-loop-statement
invariant-core_block-loop-statement l = record {
  grows : Grows l.fn.scope l.scope;
  lines : ScopeInRange l.fn.scope → PromiseInRange (scope_bounds l.fn.scope).functions l.promise → BlockInRange (scope_bounds l.scope) (block_of l.found.items);
  count : vec_len l.found ≡ l.statement-index;
  room : vec_capacity l.found ≡ length l.statements;
}

abbrev pub invariant-branches-loop-line : goal.invariant-branches-loop-line
invariant-branches-loop-line l = record {
  grows : Grows l.fn.scope l.scope;
  tests : ScopeInRange l.fn.scope → PromiseInRange (scope_bounds l.fn.scope).functions l.promise → BranchesInRange (scope_bounds l.scope) (branches_of l.found.items);
  count : vec_len l.found ≡ l.line-index;
  room : vec_capacity l.found ≡ length l.tests;
}
