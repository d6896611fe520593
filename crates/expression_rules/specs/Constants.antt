-- What constants are worth.
use Rattle.core_tree.specs.declared.core_type.CoreType.{CoreType}
use Rattle.core_tree.specs.declared.core_type.CoreType.TheVariants as types
use Rattle.core_tree.specs.declared.value.Value.{Value}
use Rattle.core_tree.specs.declared.value.Value.TheVariants as values
use Rattle.line_parser.specs.declared.tree.Constant.{Constant}
use Rattle.line_parser.specs.declared.tree.Constant.TheVariants as constants
use Rattle.type_scope.specs.declared.catalog.Kind.{Kind}
use Rattle.type_scope.specs.declared.catalog.Kind.TheVariants as kinds

abbrev pub constant_value : Constant → Value
constant_value (constants.Int number) = values.Int number
constant_value (constants.Bool truth) = values.Bool truth
constant_value (constants.Quoted text) = values.Text text
constant_value constants.NoneValue = values.NoneValue

abbrev pub constant_kind : Constant → Kind
constant_kind (constants.Int number) = kinds.Of types.Int
constant_kind (constants.Bool truth) = kinds.Of types.Bool
constant_kind (constants.Quoted text) = kinds.Of types.Text
constant_kind constants.NoneValue = kinds.NoneLiteral
