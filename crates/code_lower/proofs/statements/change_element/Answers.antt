use Rattle.std.proofs.Common.{[], ◌∷◌}
use Rattle.core_tree.specs.Tree.{expression_of}
use Rattle.code_lower.proofs.FormsEmit.{if_ok_then}
use Rattle.code_lower.proofs.EffectsEmit.{two_held, held_given, old_given, change_element_emits}
use Rattle.code_lower.proofs.statements.change_element.Goals as goal

pub changed-requires : goal.changed-requires
changed-requires c = old_given c.kept-2.new.self c.take.new.self c.add.new.self c.args.kind c.in_ok-old.old _ c.in_ok-old.ensures c.in_ok-add.ensures

pub instruct-requires : goal.instruct-requires
instruct-requires c =
    let before = two_held (expression_of c.args.array.now) (expression_of c.args.index.now) (expression_of c.args.right.now) c.args.writer.now c.value.new.writer c.kept.new.self c.value-2.new.writer c.kept-2.new.self c.in_ok-array.array c.in_ok-array-2.array c.in_ok-index.index c.in_ok-index-2.index _ _ c.in_ok-array.ensures.emits c.in_ok-array.ensures.value c.in_ok-array-2.ensures (λ e. (c.any_call-before_index.ensures.first e, c.any_call-before_index.ensures.second e)) c.in_ok-index.ensures.emits c.in_ok-index.ensures.value c.in_ok-index-2.ensures c.contains_call-before_right.ensures in
    held_given (expression_of c.args.right.now) c.args.operation c.args.kind c.kept-2.new.self c.take.new.self c.add.new.self c.changed.new.writer (c.in_ok-array-2.array ∷ c.in_ok-index-2.index ∷ []) c.in_ok-old.old c.in_ok-new.new _ before.given before.out c.in_ok-old.ensures c.in_ok-add.ensures c.in_ok-new.ensures

pub returns : goal.returns
returns c =
    if_ok_then c.instruct.result c.instruct.ensures (λ u i. change_element_emits (expression_of c.args.array.now) (expression_of c.args.index.now) (expression_of c.args.right.now) c.args.kind c.args.operation c.args.writer.now c.value.new.writer c.kept.new.self c.value-2.new.writer c.kept-2.new.self c.take.new.self c.add.new.self c.changed.new.writer c.instruct.new.self c.in_ok-array.array c.in_ok-array-2.array c.in_ok-index.index c.in_ok-index-2.index c.in_ok-old.old c.in_ok-new.new _ _ c.in_ok-array.ensures.emits c.in_ok-array.ensures.value c.in_ok-array-2.ensures (λ e. (c.any_call-before_index.ensures.first e, c.any_call-before_index.ensures.second e)) c.in_ok-index.ensures.emits c.in_ok-index.ensures.value c.in_ok-index-2.ensures c.contains_call-before_right.ensures c.in_ok-old.ensures (rw c.read_element.ensures at c.in_ok-add.ensures) c.in_ok-new.ensures i)
