-- What arithmetic signs do with two values.
use Rattle.std.specs.Prelude.{Option, Some, None, if◌then◌else◌}
use Rattle.core_tree.specs.declared.core_type.CoreType.{CoreType}
use Rattle.core_tree.specs.declared.core_type.CoreType.TheVariants as types
use Rattle.core_tree.specs.declared.operator.Arith.{Arith}
use Rattle.core_tree.specs.declared.operator.Arith.TheVariants as operations
use Rattle.script_lexer.specs.declared.sign.Sign.{Sign}
use Rattle.script_lexer.specs.declared.sign.Sign.TheVariants as signs
use Rattle.type_scope.specs.declared.catalog.Kind.{Kind}
use Rattle.type_scope.specs.declared.catalog.Kind.TheVariants as kinds
use Rattle.expression_rules.specs.Conversions.{prints}

-- on two whole numbers
abbrev pub whole_operation : Sign → Option Arith
whole_operation signs.Plus = Some operations.Add
whole_operation signs.Minus = Some operations.Sub
whole_operation signs.Star = Some operations.Mul
whole_operation signs.Slash = Some operations.Div
whole_operation signs.Percent = Some operations.Rem
whole_operation _ = None

-- on a text and a value that converts to one by itself
abbrev pub operation_with_text : Sign → Kind → Option Arith
operation_with_text signs.Plus other = if prints other then Some operations.Join else None
operation_with_text _ other = None

abbrev pub operation_of : Sign → Kind → Kind → Option Arith
operation_of sign (kinds.Of types.Int) (kinds.Of types.Int) = whole_operation sign
operation_of sign (kinds.Of types.Text) right = operation_with_text sign right
operation_of sign left (kinds.Of types.Text) = operation_with_text sign left
operation_of _ _ _ = None

-- the type of the operands and of the result
abbrev pub operand_type : Arith → CoreType
operand_type operations.Join = types.Text
operand_type _ = types.Int

-- the sign that stands between the two values of a compound assignment
abbrev pub sign_of_change : Sign → Option Sign
sign_of_change signs.PlusAssign = Some signs.Plus
sign_of_change signs.MinusAssign = Some signs.Minus
sign_of_change signs.StarAssign = Some signs.Star
sign_of_change signs.SlashAssign = Some signs.Slash
sign_of_change signs.PercentAssign = Some signs.Percent
sign_of_change _ = None
