-- The plain counterpart of each form of statement.
use Rattle.std.proofs.Common.{◌≡◌, ℕ, List, [], ◌∷◌, Option, refl, sym, ap, ◌∙◌, map}
use Rattle.core_tree.specs.declared.core_type.CoreType.{CoreType}
use Rattle.core_tree.specs.declared.expression.Core.{Core}
use Rattle.core_tree.specs.declared.operator.Arith.{Arith}
use Rattle.core_tree.specs.declared.statement.CoreLine.{CoreLine, roll-CoreLine}
use Rattle.core_tree.specs.declared.statement.CoreStatement.{CoreStatement}
use Rattle.core_tree.specs.declared.statement.CoreStatement.TheOpen.{CoreLine-F}
use Rattle.core_tree.specs.declared.statement.CoreStatement.TheVariants as code
use Rattle.core_tree.specs.declared.statement.CoreStatement.TheShapes.{former-CoreStatement-If-0-at-4}
use Rattle.core_tree.specs.declared.statement.CoreStatement.TheFolds.{fold-roll-CoreStatement, fold-roll-CoreLine}
use Rattle.std.specs.declared.alloc.Global.{Global}
use Rattle.std.specs.declared.vec.Vec.{Vec}
use Rattle.core_tree.specs.Tree.{Statement, expression_of, statement_of, line_of, block_of, branches_of, statement_layer, line_layer}
use Rattle.core_tree.specs.Tree as tree

pub statement_of-SetLocal : (number : ℕ) (value : Core) → statement_of (code.SetLocal number value) ≡ tree.Do (tree.StoreLocal number) (tree.one (expression_of value))
unfolding statement_of line_of
statement_of-SetLocal number value = ap statement_of (sym (code.rolls-SetLocal number value)) ∙ fold-roll-CoreStatement Statement (ℕ × Statement) statement_layer line_layer _

pub statement_of-SetField : (number : ℕ) (value : Core) → statement_of (code.SetField number value) ≡ tree.Do (tree.StoreField number) (tree.one (expression_of value))
unfolding statement_of line_of
statement_of-SetField number value = ap statement_of (sym (code.rolls-SetField number value)) ∙ fold-roll-CoreStatement Statement (ℕ × Statement) statement_layer line_layer _

pub statement_of-SetState : (value : Core) → statement_of (code.SetState value) ≡ tree.Do tree.StoreState (tree.one (expression_of value))
unfolding statement_of line_of
statement_of-SetState value = ap statement_of (sym (code.rolls-SetState value)) ∙ fold-roll-CoreStatement Statement (ℕ × Statement) statement_layer line_layer _

pub statement_of-SetProp : (of : Core) (name : List ℕ) (value : Core) → statement_of (code.SetProp of name value) ≡ tree.Do (tree.StoreProperty name) (tree.two (expression_of of) (expression_of value))
unfolding statement_of line_of
statement_of-SetProp of name value = ap statement_of (sym (code.rolls-SetProp of name value)) ∙ fold-roll-CoreStatement Statement (ℕ × Statement) statement_layer line_layer _

pub statement_of-ChangeProp : (of : Core) (name : List ℕ) (kind : CoreType) (operation : Arith) (right : Core) → statement_of (code.ChangeProp of name kind operation right) ≡ tree.ChangeProperty (expression_of of) name kind operation (expression_of right)
unfolding statement_of line_of
statement_of-ChangeProp of name kind operation right = ap statement_of (sym (code.rolls-ChangeProp of name kind operation right)) ∙ fold-roll-CoreStatement Statement (ℕ × Statement) statement_layer line_layer _

pub statement_of-SetElement : (array : Core) (index : Core) (value : Core) → statement_of (code.SetElement array index value) ≡ tree.Do tree.StoreElement (tree.three (expression_of array) (expression_of index) (expression_of value))
unfolding statement_of line_of
statement_of-SetElement array index value = ap statement_of (sym (code.rolls-SetElement array index value)) ∙ fold-roll-CoreStatement Statement (ℕ × Statement) statement_layer line_layer _

pub statement_of-ChangeElement : (array : Core) (index : Core) (kind : CoreType) (operation : Arith) (right : Core) → statement_of (code.ChangeElement array index kind operation right) ≡ tree.ChangeElement (expression_of array) (expression_of index) kind operation (expression_of right)
unfolding statement_of line_of
statement_of-ChangeElement array index kind operation right = ap statement_of (sym (code.rolls-ChangeElement array index kind operation right)) ∙ fold-roll-CoreStatement Statement (ℕ × Statement) statement_layer line_layer _

pub statement_of-Plain : (of : Core) → statement_of (code.Plain of) ≡ tree.Do tree.Drop (tree.one (expression_of of))
unfolding statement_of line_of
statement_of-Plain of = ap statement_of (sym (code.rolls-Plain of)) ∙ fold-roll-CoreStatement Statement (ℕ × Statement) statement_layer line_layer _

pub statement_of-Return : (value : Option Core) → statement_of (code.Return value) ≡ tree.Do tree.GiveBack (tree.returned value)
unfolding statement_of line_of
statement_of-Return value = ap statement_of (sym (code.rolls-Return value)) ∙ fold-roll-CoreStatement Statement (ℕ × Statement) statement_layer line_layer _

-- tests whose statements were turned into their counterparts first
same_branches : (tests : List (ℕ × Core × Vec CoreLine Global)) → tree.branches (map ((former-CoreStatement-If-0-at-4).map CoreLine (ℕ × Statement) line_of) tests) ≡ branches_of tests
same_branches [] = refl
same_branches (first ∷ rest) = ap (tree.MoreBranches first.0 (expression_of first.1) (block_of first.2.items)) (same_branches rest)

pub statement_of-If : (tests : Vec (ℕ × Core × Vec CoreLine Global) Global) (otherwise : Vec CoreLine Global) → statement_of (code.If tests otherwise) ≡ tree.If (branches_of tests.items) (block_of otherwise.items)
unfolding statement_of line_of
statement_of-If tests otherwise = ap statement_of (sym (code.rolls-If tests otherwise)) ∙ fold-roll-CoreStatement Statement (ℕ × Statement) statement_layer line_layer _ ∙ ap (λ bs. tree.If bs (block_of otherwise.items)) (unfold line_of in same_branches tests.items)

pub statement_of-While : (test : Core) (body : Vec CoreLine Global) (end_line : ℕ) → statement_of (code.While test body end_line) ≡ tree.While (expression_of test) (block_of body.items) end_line
unfolding statement_of line_of
statement_of-While test body end_line = ap statement_of (sym (code.rolls-While test body end_line)) ∙ fold-roll-CoreStatement Statement (ℕ × Statement) statement_layer line_layer _

pub line_of-CoreLine : (line : CoreLine-F CoreStatement CoreLine) → line_of (roll-CoreLine line) ≡ (line.line, statement_of line.form)
unfolding statement_of line_of
line_of-CoreLine line = fold-roll-CoreLine Statement (ℕ × Statement) statement_layer line_layer line

pub ruleset statement_views = (statement_of-SetLocal, statement_of-SetField, statement_of-SetState, statement_of-SetProp, statement_of-ChangeProp, statement_of-SetElement, statement_of-ChangeElement, statement_of-Plain, statement_of-Return, statement_of-If, statement_of-While, line_of-CoreLine)
