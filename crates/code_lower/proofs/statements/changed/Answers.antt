use Rattle.core_tree.specs.Tree.{expression_of}
use Rattle.code_lower.proofs.EffectsEmit.{changed_is, read_given, temporaries_out}
use Rattle.code_lower.proofs.statements.changed.Goals as goal

pub instruct-requires : goal.instruct-requires
instruct-requires c =
    read_given (expression_of c.args.right.now) c.args.writer.now c.value.new.writer c.take.new.self c.args.kind c.args.old c.in_ok-right.right c.in_ok-result.result c.requires (temporaries_out c.args.writer.now.slots c.args.old c.requires) c.in_ok-right.ensures.emits c.in_ok-result.ensures

pub returns : goal.returns
returns c =
    changed_is (expression_of c.args.right.now) c.args.operation c.args.kind c.args.writer.now c.value.new.writer c.take.new.self c.instruct.new.self c.args.old c.in_ok-right.right c.in_ok-result.result c.requires c.in_ok-right.ensures.emits c.in_ok-right.ensures.value c.in_ok-result.ensures (rw c.arith_opcode.ensures at c.in_ok-instruct.ensures)
