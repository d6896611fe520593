-- Ranges of trees that are put together, and of trees that were made while there were fewer locals.
use Rattle.std.proofs.Common.{ℕ, ◌≤◌, List, [], ◌∷◌, ◌++◌, arith}
use Rattle.core_tree.specs.InRange.{Bounds, ExpressionInRange, ExpressionsInRange, EffectInRange, StatementInRange, BlockInRange, BranchesInRange}
use Rattle.core_tree.specs.Tree.{Expression, Literal, Local, Field, SelfValue, StateText, And, Or, Apply, Expressions, NoExpression, MoreExpressions, Effect, StoreLocal, StoreField, StoreState, StoreProperty, StoreElement, Drop, GiveBack, Statement, Do, ChangeProperty, ChangeElement, If, While, Block, NoStatement, MoreStatements, Branches, NoBranch, MoreBranches, expressions, block}

-- the same bounds with so many locals
abbrev pub with_locals : Bounds → ℕ → Bounds
with_locals b n = record b { locals = n }

mutual
  pub expression-more_locals : (b : Bounds) (n : ℕ) → b.locals ≤ n → (e : Expression) → ExpressionInRange b e → ExpressionInRange (with_locals b n) e
  expression-more_locals b n h (Literal value) r = r
  expression-more_locals b n h (Local number) r = omega arith
  expression-more_locals b n h (Field number) r = r
  expression-more_locals b n h SelfValue r = r
  expression-more_locals b n h StateText r = r
  expression-more_locals b n h (And left right) r = (expression-more_locals b n h left r.0, expression-more_locals b n h right r.1)
  expression-more_locals b n h (Or left right) r = (expression-more_locals b n h left r.0, expression-more_locals b n h right r.1)
  expression-more_locals b n h (Apply operation operands) r = (r.0, expressions-more_locals b n h operands r.1)

  pub expressions-more_locals : (b : Bounds) (n : ℕ) → b.locals ≤ n → (es : Expressions) → ExpressionsInRange b es → ExpressionsInRange (with_locals b n) es
  expressions-more_locals b n h NoExpression r = r
  expressions-more_locals b n h (MoreExpressions first rest) r = (expression-more_locals b n h first r.0, expressions-more_locals b n h rest r.1)

pub effect-more_locals : (b : Bounds) (n : ℕ) → b.locals ≤ n → (e : Effect) → EffectInRange b e → EffectInRange (with_locals b n) e
effect-more_locals b n h (StoreLocal number) r = omega arith
effect-more_locals b n h (StoreField number) r = r
effect-more_locals b n h StoreState r = r
effect-more_locals b n h (StoreProperty name) r = r
effect-more_locals b n h StoreElement r = r
effect-more_locals b n h Drop r = r
effect-more_locals b n h GiveBack r = r

mutual
  pub statement-more_locals : (b : Bounds) (n : ℕ) → b.locals ≤ n → (s : Statement) → StatementInRange b s → StatementInRange (with_locals b n) s
  statement-more_locals b n h (Do effect operands) r = (effect-more_locals b n h effect r.0, expressions-more_locals b n h operands r.1)
  statement-more_locals b n h (ChangeProperty of name kind operation right) r = (expression-more_locals b n h of r.0, r.1, expression-more_locals b n h right r.2)
  statement-more_locals b n h (ChangeElement array index kind operation right) r =
      (expression-more_locals b n h array r.0, expression-more_locals b n h index r.1, r.2, expression-more_locals b n h right r.3)
  statement-more_locals b n h (If branches otherwise) r = (branches-more_locals b n h branches r.0, block-more_locals b n h otherwise r.1)
  statement-more_locals b n h (While test body end_line) r = (expression-more_locals b n h test r.0, block-more_locals b n h body r.1)

  pub block-more_locals : (b : Bounds) (n : ℕ) → b.locals ≤ n → (s : Block) → BlockInRange b s → BlockInRange (with_locals b n) s
  block-more_locals b n h NoStatement r = r
  block-more_locals b n h (MoreStatements line first rest) r = (statement-more_locals b n h first r.0, block-more_locals b n h rest r.1)

  pub branches-more_locals : (b : Bounds) (n : ℕ) → b.locals ≤ n → (s : Branches) → BranchesInRange b s → BranchesInRange (with_locals b n) s
  branches-more_locals b n h NoBranch r = r
  branches-more_locals b n h (MoreBranches line test body rest) r =
      (expression-more_locals b n h test r.0, block-more_locals b n h body r.1, branches-more_locals b n h rest r.2)

-- one more statement, and one more argument
pub block-push : (b : Bounds) (lines : List (ℕ × Statement)) (last : ℕ × Statement) → BlockInRange b (block lines) → StatementInRange b last.1 → BlockInRange b (block (lines ++ last ∷ []))
block-push b [] last r s = (s, tt)
block-push b (first ∷ rest) last r s = (r.0, block-push b rest last r.1 s)

pub expressions-push : (b : Bounds) (es : List Expression) (last : Expression) → ExpressionsInRange b (expressions es) → ExpressionInRange b last → ExpressionsInRange b (expressions (es ++ last ∷ []))
expressions-push b [] last r s = (s, tt)
expressions-push b (first ∷ rest) last r s = (r.0, expressions-push b rest last r.1 s)
