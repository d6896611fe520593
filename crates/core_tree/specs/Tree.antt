-- The typed trees as plain data: as the types of the program, with lists in place of vectors and
-- without boxes.
use Rattle.std.specs.Prelude.{ℕ, List, [], ◌∷◌, map, Option, Some, None}
use Rattle.core_tree.specs.declared.core_type.CoreType.{CoreType}
use Rattle.core_tree.specs.declared.expression.FunctionPlace.{FunctionPlace}
use Rattle.core_tree.specs.declared.expression.Core.{Core}
use Rattle.core_tree.specs.declared.expression.Core.TheOpen as open_expression
use Rattle.core_tree.specs.declared.expression.Core.TheOpen.{Core-F}
use Rattle.core_tree.specs.declared.expression.Core.TheFolds.{fold-Core}
use Rattle.core_tree.specs.declared.operator.Arith.{Arith}
use Rattle.core_tree.specs.declared.operator.Order.{Order}
use Rattle.core_tree.specs.declared.statement.CoreLine.{CoreLine}
use Rattle.core_tree.specs.declared.statement.CoreStatement.{CoreStatement}
use Rattle.core_tree.specs.declared.statement.CoreStatement.TheOpen as open_statement
use Rattle.core_tree.specs.declared.statement.CoreStatement.TheOpen.{CoreStatement-F, CoreLine-F}
use Rattle.core_tree.specs.declared.statement.CoreStatement.TheFolds.{fold-CoreStatement, fold-CoreLine}
use Rattle.core_tree.specs.declared.value.Value.{Value}
use Rattle.std.specs.declared.alloc.Global.{Global}
use Rattle.std.specs.declared.vec.Vec.{Vec}

-- an operation on operands, whose values are taken from left to right before it is done
pub data Operation : Type 0 where
  Calculate : (operation : Arith) → Operation
  Negate : Operation
  Not : Operation
  -- one text followed by the other
  Join : Operation
  Equal : Operation
  Compare : (order : Order) → Operation
  Cast : (to : CoreType) → Operation
  -- the operands are the target and the arguments. `places` has each argument's parameter
  CallMethod : (name : List ℕ) (places : List ℕ) (result : Option CoreType) → Operation
  CallParent : (name : List ℕ) (places : List ℕ) (result : Option CoreType) → Operation
  -- a Global function with a body
  CallGlobal : (at : FunctionPlace) (places : List ℕ) (result : Option CoreType) → Operation
  -- a Global native function
  CallNative : (at : FunctionPlace) (places : List ℕ) (result : Option CoreType) → Operation
  GetProperty : (name : List ℕ) (kind : CoreType) → Operation
  NewArray : (kind : CoreType) (count : ℕ) → Operation
  Length : Operation
  -- the array and the index
  Element : (kind : CoreType) → Operation
  -- the array, the value and the start
  Find : Operation
  FindBack : Operation

mutual
  pub data Expression : Type 0 where
    Literal : (value : Value) → Expression
    -- a parameter or a local, by its number
    Local : (number : ℕ) → Expression
    -- a variable of the function's script, on the frame's own instance
    Field : (number : ℕ) → Expression
    SelfValue : Expression
    -- the name of the state that the frame's own instance is in
    StateText : Expression
    And : (left right : Expression) → Expression
    Or : (left right : Expression) → Expression
    Apply : (operation : Operation) (operands : Expressions) → Expression

  pub data Expressions : Type 0 where
    NoExpression : Expressions
    MoreExpressions : (first : Expression) (rest : Expressions) → Expressions

-- what is done with the values of a statement's operands, which are taken from left to right
pub data Effect : Type 0 where
  StoreLocal : (number : ℕ) → Effect
  StoreField : (number : ℕ) → Effect
  StoreState : Effect
  -- the target and the value
  StoreProperty : (name : List ℕ) → Effect
  -- the array, the index and the value
  StoreElement : Effect
  -- an expression whose value isn't used
  Drop : Effect
  -- a Return, with a value or without
  GiveBack : Effect

mutual
  pub data Statement : Type 0 where
    Do : (effect : Effect) (operands : Expressions) → Statement
    -- compound assignments, as `of.name += right` and `array[index] += right`
    ChangeProperty : (of : Expression) (name : List ℕ) (kind : CoreType) (operation : Arith) (right : Expression) → Statement
    ChangeElement : (array index : Expression) (kind : CoreType) (operation : Arith) (right : Expression) → Statement
    -- the tests of `If` and of each `ElseIf`, and the statements of `Else`
    If : (branches : Branches) (otherwise : Block) → Statement
    While : (test : Expression) (body : Block) (end_line : ℕ) → Statement

  -- statements in a row, each with its line
  pub data Block : Type 0 where
    NoStatement : Block
    MoreStatements : (line : ℕ) (first : Statement) (rest : Block) → Block

  -- tests in a row, each with its line and what is done where it is the first that holds
  pub data Branches : Type 0 where
    NoBranch : Branches
    MoreBranches : (line : ℕ) (test : Expression) (body : Block) (rest : Branches) → Branches

abbrev pub expressions : List Expression → Expressions
expressions [] = NoExpression
expressions (first ∷ rest) = MoreExpressions first (expressions rest)

abbrev pub block : List (ℕ × Statement) → Block
block [] = NoStatement
block (first ∷ rest) = MoreStatements first.0 first.1 (block rest)

-- one, two and three operands
abbrev pub one : Expression → Expressions
one first = MoreExpressions first NoExpression

abbrev pub two : Expression → Expression → Expressions
two first second = MoreExpressions first (one second)

abbrev pub three : Expression → Expression → Expression → Expressions
three first second third = MoreExpressions first (two second third)

-- ---- the plain counterpart of an expression
abbrev pub expression_layer : Core-F Expression → Expression
expression_layer (open_expression.Lit value) = Literal value
expression_layer (open_expression.Local number) = Local number
expression_layer (open_expression.Field number) = Field number
expression_layer open_expression.SelfValue = SelfValue
expression_layer open_expression.StateText = StateText
expression_layer (open_expression.Arith operation left right) = Apply (Calculate operation) (two left.value right.value)
expression_layer (open_expression.Neg of) = Apply Negate (one of.value)
expression_layer (open_expression.Not of) = Apply Not (one of.value)
expression_layer (open_expression.Join left right) = Apply Join (two left.value right.value)
expression_layer (open_expression.Equal left right) = Apply Equal (two left.value right.value)
expression_layer (open_expression.Order order left right) = Apply (Compare order) (two left.value right.value)
expression_layer (open_expression.And left right) = And left.value right.value
expression_layer (open_expression.Or left right) = Or left.value right.value
expression_layer (open_expression.Cast to of) = Apply (Cast to) (one of.value)
expression_layer (open_expression.CallMethod of name arguments places result) =
    Apply (CallMethod name places.items result) (MoreExpressions of.value (expressions arguments.items))
expression_layer (open_expression.CallParent name arguments places result) =
    Apply (CallParent name places.items result) (expressions arguments.items)
expression_layer (open_expression.CallGlobal at arguments places result) =
    Apply (CallGlobal at places.items result) (expressions arguments.items)
expression_layer (open_expression.CallNative at arguments places result) =
    Apply (CallNative at places.items result) (expressions arguments.items)
expression_layer (open_expression.PropGet of name kind) = Apply (GetProperty name kind) (one of.value)
expression_layer (open_expression.NewArray kind count) = Apply (NewArray kind count) NoExpression
expression_layer (open_expression.Length array) = Apply Length (one array.value)
expression_layer (open_expression.Element array index kind) = Apply (Element kind) (two array.value index.value)
expression_layer (open_expression.Find array value start) = Apply Find (three array.value value.value start.value)
expression_layer (open_expression.FindBack array value start) = Apply FindBack (three array.value value.value start.value)

unfoldable pub expression_of : Core → Expression
expression_of = fold-Core Expression expression_layer

-- the operand of a Return, where it has one
abbrev pub returned : Option Core → Expressions
returned None = NoExpression
returned (Some value) = one (expression_of value)

-- ---- the plain counterpart of a statement
abbrev pub branches : List (ℕ × Core × Vec (ℕ × Statement) Global) → Branches
branches [] = NoBranch
branches (first ∷ rest) = MoreBranches first.0 (expression_of first.1) (block first.2.items) (branches rest)

abbrev pub statement_layer : CoreStatement-F Statement (ℕ × Statement) → Statement
statement_layer (open_statement.SetLocal number value) = Do (StoreLocal number) (one (expression_of value))
statement_layer (open_statement.SetField number value) = Do (StoreField number) (one (expression_of value))
statement_layer (open_statement.SetState value) = Do StoreState (one (expression_of value))
statement_layer (open_statement.SetProp of name value) =
    Do (StoreProperty name) (two (expression_of of) (expression_of value))
statement_layer (open_statement.ChangeProp of name kind operation right) =
    ChangeProperty (expression_of of) name kind operation (expression_of right)
statement_layer (open_statement.SetElement array index value) =
    Do StoreElement (three (expression_of array) (expression_of index) (expression_of value))
statement_layer (open_statement.ChangeElement array index kind operation right) =
    ChangeElement (expression_of array) (expression_of index) kind operation (expression_of right)
statement_layer (open_statement.Plain of) = Do Drop (one (expression_of of))
statement_layer (open_statement.Return value) = Do GiveBack (returned value)
statement_layer (open_statement.If tests otherwise) = If (branches tests.items) (block otherwise.items)
statement_layer (open_statement.While test body end_line) = While (expression_of test) (block body.items) end_line

abbrev pub line_layer : CoreLine-F Statement (ℕ × Statement) → ℕ × Statement
line_layer line = (line.line, line.form)

unfoldable pub statement_of : CoreStatement → Statement
statement_of = fold-CoreStatement Statement (ℕ × Statement) statement_layer line_layer

unfoldable pub line_of : CoreLine → ℕ × Statement
line_of = fold-CoreLine Statement (ℕ × Statement) statement_layer line_layer

-- the plain counterpart of statements in a row, and of tests in a row
abbrev pub block_of : List CoreLine → Block
block_of lines = block (map line_of lines)

abbrev pub branches_of : List (ℕ × Core × Vec CoreLine Global) → Branches
branches_of [] = NoBranch
branches_of (first ∷ rest) = MoreBranches first.0 (expression_of first.1) (block_of first.2.items) (branches_of rest)
