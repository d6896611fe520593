use Rattle.std.proofs.Common.{ap, subst, ◌∙◌}
use Rattle.core_tree.specs.Tree.{NoStatement, block_of}
use Rattle.code_lower.specs.Slots.{Slots}
use Rattle.code_lower.specs.Lowered.{State}
use Rattle.code_lower.specs.Statements.{BlockReaches}
use Rattle.code_lower.proofs.FunctionsCoded.{is_lowered, begun_with}
use Rattle.code_lower.proofs.function.lowered_function.Goals as goal

pub returns : goal.returns
returns c =
    let P : State → Type 0 = λ s. BlockReaches (block_of c.args.of.now.body.items) NoStatement s c.block.new.writer in
    is_lowered c.args.set.now c.args.script.now c.args.of.now c.block.new.writer c.finish.result (subst P (c.new-writer.ensures ∙ ap (λ (x : Slots). begun_with c.args.set.now c.args.script.now x) c.in_ok-slots.ensures) (rw c.deref.ensures.value at c.in_ok-block.ensures)) c.finish.ensures.kinds c.finish.ensures.code
