use Rattle.std.proofs.Common.{rules, map-id}
use Rattle.std.proofs.lemmas.Iterator.Adapters.{YieldsList-from_vec}
use Rattle.std.proofs.lemmas.Iterator.Consumers.{YieldsList-end}
use Rattle.pex_verify.specs.Coding.{CodesProperty, outline_in}
use Rattle.pex_verify.proofs.Coding.{zip_next}
use Rattle.pex_verify.proofs.coded.coded_properties.Goals as goal

pub loop-property-preserved : goal.loop-property-preserved
loop-property-preserved c =
    zip_next (CodesProperty (outline_in c.args.scripts.now)) _ _ _ _ _ c.in_ok-push.ensures.items c.loop-property.invariant c.in_ok-coded_property.ensures

pub returns : goal.returns
returns c =
    let end = YieldsList-end (YieldsList-from_vec {s = c.into_iter-property-iterator.result} c.args.properties.items (search rules) (search rules))
    c.loop-property.yielded c.loop-property.property-iterator c.loop-property.yielded_by c.next.result c.next.new.self c.in-None.is c.next.ensures.steps in
    rw (← end.0, map-id) c.loop-property.invariant
