use Rattle.std.proofs.Common.{rules, map-id, refl}
use Rattle.std.proofs.lemmas.Iterator.Adapters.{YieldsList-from_vec}
use Rattle.std.proofs.lemmas.Iterator.Consumers.{YieldsList-end}
use Rattle.pex_verify.specs.Coding.{CodesState, outline_in}
use Rattle.pex_verify.proofs.Coding.{zip_next}
use Rattle.pex_verify.proofs.coded.coded_states.Goals as goal

pub loop-name-preserved : goal.loop-name-preserved
loop-name-preserved c =
    zip_next (CodesState (outline_in c.args.scripts.now)) _ _ _ _ _ c.in_ok-push.ensures.items c.loop-name.invariant (refl, c.in_ok-functions.ensures)

pub returns : goal.returns
returns c =
    let end = YieldsList-end (YieldsList-from_vec {s = c.into_iter-name-iterator.result} c.args.states.items (search rules) (search rules))
    c.loop-name.yielded c.loop-name.name-iterator c.loop-name.yielded_by c.next.result c.next.new.self c.in-None.is c.next.ensures.steps in
    rw (← end.0, map-id) c.loop-name.invariant
