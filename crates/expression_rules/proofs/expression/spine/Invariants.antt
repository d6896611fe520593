-- Each part is less deep.
use Rattle.line_parser.specs.declared.tree.Expr.{size-Expr}
use Rattle.expression_rules.proofs.expression.spine.Given as goal

abbrev pub decreases-parts : goal.decreases-parts
decreases-parts l = size-Expr l.first
