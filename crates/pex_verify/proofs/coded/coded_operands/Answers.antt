use Rattle.std.proofs.Common.{rules, map-id}
use Rattle.std.proofs.lemmas.Iterator.Adapters.{YieldsList-from_vec}
use Rattle.std.proofs.lemmas.Iterator.Consumers.{YieldsList-end}
use Rattle.pex_verify.specs.Coding.{CodesOperand}
use Rattle.pex_verify.proofs.Coding.{zip_next}
use Rattle.pex_verify.proofs.coded.coded_operands.Goals as goal

pub loop-operand-preserved : goal.loop-operand-preserved
loop-operand-preserved c =
    zip_next CodesOperand _ _ _ _ _ c.in_ok-push.ensures.items c.loop-operand.invariant c.coded_operand.ensures

pub returns : goal.returns
returns c =
    let end = YieldsList-end (YieldsList-from_vec {s = c.into_iter-operand-iterator.result} c.args.operands.items (search rules) (search rules))
    c.loop-operand.yielded c.loop-operand.operand-iterator c.loop-operand.yielded_by c.next.result c.next.new.self c.in-None.is c.next.ensures.steps in
    rw (← end.0, map-id) c.loop-operand.invariant
