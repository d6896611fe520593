-- Statements and tests that are put behind others.
use Rattle.std.proofs.Common.{◌++◌, ◌∷◌, [], ℕ, List, map, sym, subst}
use Rattle.std.proofs.lemmas.List.{map-append}
use Rattle.std.specs.declared.alloc.Global.{Global}
use Rattle.std.specs.declared.vec.Vec.{Vec}
use Rattle.core_tree.proofs.Ranges.{block-push}
use Rattle.core_tree.specs.declared.expression.Core.{Core}
use Rattle.core_tree.specs.declared.statement.CoreLine.{CoreLine}
use Rattle.core_tree.specs.InRange.{Bounds, BlockInRange, BranchesInRange, StatementInRange}
use Rattle.core_tree.specs.Tree.{Statement, block, block_of, branches_of, line_of}
use Rattle.expression_rules.specs.Ranges.{CoreInRange}

pub block_of-push : (b : Bounds) (lines : List CoreLine) (last : CoreLine) → BlockInRange b (block_of lines) → StatementInRange b (line_of last).1 → BlockInRange b (block_of (lines ++ last ∷ []))
block_of-push b lines last r s =
    subst (λ (all : List (ℕ × Statement)). BlockInRange b (block all)) (sym (map-append line_of lines (last ∷ []))) (block-push b (map line_of lines) (line_of last) r s)

pub branches_of-push : (b : Bounds) (tests : List (ℕ × Core × Vec CoreLine Global)) (last : ℕ × Core × Vec CoreLine Global) → BranchesInRange b (branches_of tests) →
    CoreInRange b last.1 → BlockInRange b (block_of last.2.items) → BranchesInRange b (branches_of (tests ++ last ∷ []))
branches_of-push b [] last r test body = (test, body, tt)
branches_of-push b (first ∷ rest) last r test body = (r.0, r.1, branches_of-push b rest last r.2 test body)
