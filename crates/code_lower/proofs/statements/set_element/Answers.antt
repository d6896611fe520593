use Rattle.std.proofs.Common.{[], ◌∷◌, refl}
use Rattle.core_tree.specs.Tree.{expression_of, three, StoreElement}
use Rattle.code_lower.proofs.FormsEmit.{if_ok_then, third_reach}
use Rattle.code_lower.proofs.EffectsEmit.{effect_emits}
use Rattle.code_lower.proofs.statements.set_element.Goals as goal

pub instruct-requires : goal.instruct-requires
instruct-requires c = (third_reach (expression_of c.args.array.now) (expression_of c.args.index.now) (expression_of c.args.to.now) c.args.writer.now c.value.new.writer c.kept.new.self c.value-2.new.writer c.kept-2.new.self c.value-3.new.writer c.in_ok-array.array c.in_ok-array-2.array c.in_ok-index.index c.in_ok-index-2.index c.in_ok-to.to _ _ c.in_ok-array.ensures.emits c.in_ok-array.ensures.value c.in_ok-array-2.ensures (λ e. (c.any_call-before_index.ensures.first e, c.any_call-before_index.ensures.second e)) c.in_ok-index.ensures.emits c.in_ok-index.ensures.value c.in_ok-index-2.ensures c.contains_call-before_value.ensures c.in_ok-to.ensures.emits c.in_ok-to.ensures.value).given

pub returns : goal.returns
returns c =
    let reach = third_reach (expression_of c.args.array.now) (expression_of c.args.index.now) (expression_of c.args.to.now) c.args.writer.now c.value.new.writer c.kept.new.self c.value-2.new.writer c.kept-2.new.self c.value-3.new.writer c.in_ok-array.array c.in_ok-array-2.array c.in_ok-index.index c.in_ok-index-2.index c.in_ok-to.to _ _ c.in_ok-array.ensures.emits c.in_ok-array.ensures.value c.in_ok-array-2.ensures (λ e. (c.any_call-before_index.ensures.first e, c.any_call-before_index.ensures.second e)) c.in_ok-index.ensures.emits c.in_ok-index.ensures.value c.in_ok-index-2.ensures c.contains_call-before_value.ensures c.in_ok-to.ensures.emits c.in_ok-to.ensures.value in
    if_ok_then c.instruct.result c.instruct.ensures (λ u i. effect_emits (three (expression_of c.args.array.now) (expression_of c.args.index.now) (expression_of c.args.to.now)) StoreElement c.args.writer.now c.value-3.new.writer c.instruct.new.self (c.in_ok-array-2.array ∷ c.in_ok-index-2.index ∷ c.in_ok-to.to ∷ []) _ reach i refl (λ r serves. tt))
