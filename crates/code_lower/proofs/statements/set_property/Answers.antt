use Rattle.std.proofs.Common.{[], ◌∷◌, refl}
use Rattle.core_tree.specs.Tree.{expression_of, two, StoreProperty}
use Rattle.code_lower.proofs.FormsEmit.{if_ok_then, second_reach}
use Rattle.code_lower.proofs.EffectsEmit.{effect_emits}
use Rattle.code_lower.proofs.statements.set_property.Goals as goal

pub instruct-requires : goal.instruct-requires
instruct-requires c = (second_reach (expression_of c.args.of.now) (expression_of c.args.to.now) c.args.writer.now c.value.new.writer c.kept.new.self c.value-2.new.writer c.in_ok-of.of c.in_ok-of-2.of c.in_ok-to.to _ c.in_ok-of.ensures.emits c.in_ok-of.ensures.value c.in_ok-of-2.ensures c.contains_call-before_calls.ensures c.in_ok-to.ensures.emits c.in_ok-to.ensures.value).given

pub returns : goal.returns
returns c =
    let reach = second_reach (expression_of c.args.of.now) (expression_of c.args.to.now) c.args.writer.now c.value.new.writer c.kept.new.self c.value-2.new.writer c.in_ok-of.of c.in_ok-of-2.of c.in_ok-to.to _ c.in_ok-of.ensures.emits c.in_ok-of.ensures.value c.in_ok-of-2.ensures c.contains_call-before_calls.ensures c.in_ok-to.ensures.emits c.in_ok-to.ensures.value in
    if_ok_then c.instruct.result c.instruct.ensures (λ u i. effect_emits (two (expression_of c.args.of.now) (expression_of c.args.to.now)) (StoreProperty c.args.name.now) c.args.writer.now c.value-2.new.writer c.instruct.new.self (c.in_ok-of-2.of ∷ c.in_ok-to.to ∷ []) _ reach i refl (λ r serves. tt))
