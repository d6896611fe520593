use Rattle.pex_codec.proofs.Feeding.{ends_with}
use Rattle.pex_codec.proofs.decoder.Decoder.end.Goals as goal

pub returns-in-Ok : goal.returns-in-Ok
returns-in-Ok c =
    ends_with c.self.inside.taken c.self.inside.standing c.args.self c.in-Ok.value c.deref.result.now c.finish.result c.self.invariant c.self.view_is c.deref.ensures.value c.finish.ensures c.in_ok-finish.was c.in-Ok.ensures
