use Rattle.std.proofs.Common.{rules, map-id}
use Rattle.std.proofs.lemmas.Iterator.Adapters.{YieldsList-from_vec}
use Rattle.std.proofs.lemmas.Iterator.Consumers.{YieldsList-end}
use Rattle.pex_verify.specs.Coding.{CodesFunction, outline_in}
use Rattle.pex_verify.proofs.Coding.{zip_next}
use Rattle.pex_verify.proofs.coded.coded_functions.Goals as goal

pub loop-function-preserved : goal.loop-function-preserved
loop-function-preserved c =
    zip_next (CodesFunction (outline_in c.args.scripts.now)) _ _ _ _ _ c.in_ok-push.ensures.items c.loop-function.invariant c.in_ok-coded_function.ensures

pub returns : goal.returns
returns c =
    let end = YieldsList-end (YieldsList-from_vec {s = c.into_iter-function-iterator.result} c.args.functions.items (search rules) (search rules))
    c.loop-function.yielded c.loop-function.function-iterator c.loop-function.yielded_by c.next.result c.next.new.self c.in-None.is c.next.ensures.steps in
    rw (← end.0, map-id) c.loop-function.invariant
