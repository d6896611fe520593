use Rattle.std.proofs.Common.{refl}
use Rattle.core_tree.specs.Tree.{expression_of, GiveBack}
use Rattle.code_lower.proofs.FormsEmit.{if_ok_then}
use Rattle.code_lower.proofs.Operands.{gives_one}
use Rattle.code_lower.proofs.EffectsEmit.{store_emits}
use Rattle.code_lower.proofs.statements.give_value.Goals as goal

pub instruct-requires : goal.instruct-requires
instruct-requires c = gives_one c.value.new.writer.slots c.in_ok-of.of c.in_ok-of.ensures.emits.given

pub returns : goal.returns
returns c =
    if_ok_then c.instruct.result c.instruct.ensures (λ u i. store_emits (expression_of c.args.of.now) GiveBack c.args.writer.now c.value.new.writer c.instruct.new.self c.in_ok-of.of _ c.in_ok-of.ensures.emits c.in_ok-of.ensures.value i refl (λ r serves. tt))
