use Rattle.std.proofs.Common.{rules, map-id}
use Rattle.std.proofs.lemmas.Iterator.Adapters.{YieldsList-from_vec}
use Rattle.std.proofs.lemmas.Iterator.Consumers.{YieldsList-end}
use Rattle.pex_verify.specs.Coding.{CodesInstruction, outline_in}
use Rattle.pex_verify.proofs.Coding.{zip_next}
use Rattle.pex_verify.proofs.coded.coded_code.Goals as goal

pub loop-instruction-preserved : goal.loop-instruction-preserved
loop-instruction-preserved c =
    zip_next (CodesInstruction (outline_in c.args.scripts.now)) _ _ _ _ _ c.in_ok-push.ensures.items c.loop-instruction.invariant c.in_ok-coded_instruction.ensures

pub returns : goal.returns
returns c =
    let end = YieldsList-end (YieldsList-from_vec {s = c.into_iter-instruction-iterator.result} c.args.code.items (search rules) (search rules))
    c.loop-instruction.yielded c.loop-instruction.instruction-iterator c.loop-instruction.yielded_by c.next.result c.next.new.self c.in-None.is c.next.ensures.steps in
    rw (← end.0, map-id) c.loop-instruction.invariant
