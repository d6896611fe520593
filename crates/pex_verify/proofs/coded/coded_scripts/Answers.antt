use Rattle.std.proofs.Common.{rules, map-id}
use Rattle.std.proofs.lemmas.Iterator.Adapters.{YieldsList-from_vec}
use Rattle.std.proofs.lemmas.Iterator.Consumers.{YieldsList-end}
use Rattle.pex_verify.specs.Coding.{CodesScript, outline_in}
use Rattle.pex_verify.proofs.Coding.{zip_next}
use Rattle.pex_verify.proofs.coded.coded_scripts.Goals as goal

pub loop-script-preserved : goal.loop-script-preserved
loop-script-preserved c =
    zip_next (CodesScript (outline_in c.args.scripts.now)) _ _ _ _ _ c.in_ok-push.ensures.items c.loop-script.invariant c.in_ok-coded_script.ensures

pub returns : goal.returns
returns c =
    let end = YieldsList-end (YieldsList-from_vec {s = c.into_iter-script-iterator.result} c.args.judged.items (search rules) (search rules))
    c.loop-script.yielded c.loop-script.script-iterator c.loop-script.yielded_by c.next.result c.next.new.self c.in-None.is c.next.ensures.steps in
    rw (← end.0, map-id) c.loop-script.invariant
