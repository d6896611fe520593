-- The numbers of the rules.
use Rattle.std.specs.Prelude.{ℕ}
use Rattle.expression_rules.specs.declared.rule.TypeRule.{TypeRule}
use Rattle.expression_rules.specs.declared.rule.TypeRule.TheVariants as rules

abbrev pub rule_number : TypeRule → ℕ
rule_number rules.UnknownName = 1
rule_number rules.UnknownType = 2
rule_number rules.NoFunction = 3
rule_number rules.NoProperty = 4
rule_number rules.Arguments = 5
rule_number rules.NoConversion = 6
rule_number rules.Operand = 7
rule_number rules.NotAssignable = 8
rule_number rules.InstanceInGlobal = 9
rule_number rules.ReturnValue = 10
rule_number rules.PropertyDirection = 11
rule_number rules.ArraySize = 12
rule_number rules.NoParent = 13
rule_number rules.DuplicateLocal = 14
rule_number rules.FunctionTooLarge = 15
rule_number rules.NoValue = 16
