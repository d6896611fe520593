use Rattle.std.proofs.Common.{[], refl, sym}
use Rattle.core_tree.specs.Tree.{GiveBack, NoExpression}
use Rattle.code_lower.proofs.FormsEmit.{if_ok_then}
use Rattle.code_lower.proofs.Operands.{reaches_none}
use Rattle.code_lower.proofs.EffectsEmit.{effect_emits}
use Rattle.core_tree.specs.declared.expression.Core.{Core}
use Rattle.core_tree.specs.Tree.{returned, Do}
use Rattle.std.proofs.Common.{Option, subst}
use Rattle.code_lower.specs.Statements.{StatementEmits}
use Rattle.code_lower.proofs.statements.give.Goals as goal

pub returns-in-Some : goal.returns-in-Some
returns-in-Some c =
    let P : Option Core → Type 0 = λ v. StatementEmits c.args.writer.now.line (Do GiveBack (returned v)) c.args.writer.now c.give_value.new.writer in
    if_ok_then c.give_value.result c.give_value.ensures (λ u emits. subst P (sym c.in-Some.is) emits)

pub returns-in-None : goal.returns-in-None
returns-in-None c =
    let P : Option Core → Type 0 = λ v. StatementEmits c.args.writer.now.line (Do GiveBack (returned v)) c.args.writer.now c.instruct.new.self in
    if_ok_then c.instruct.result c.instruct.ensures (λ u i. subst P (sym c.in-None.is) (effect_emits NoExpression GiveBack c.args.writer.now c.args.writer.now c.instruct.new.self [] _ (reaches_none NoExpression c.args.writer.now) i refl (λ r serves. tt)))
