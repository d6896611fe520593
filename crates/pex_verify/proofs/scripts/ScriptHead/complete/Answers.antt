use Rattle.std.proofs.Common.{◌≡◌, ◌<◌, Some, length, sym, ap, ◌∙◌, arith}
use Rattle.std.specs.Option.{option_map}
use Rattle.std.proofs.lemmas.Option.{slice_get-get_or}
use Rattle.pex_verify.specs.Signatures.{declared_by, declared_of}
use Rattle.pex_verify.specs.Heads.{members_of, member_at}
use Rattle.pex_verify.proofs.scripts.ScriptHead.complete.Goals as goal

pub loop-place-preserved : goal.loop-place-preserved
loop-place-preserved c = λ above numbers object rootless given.
    let members = members_of c.args.members.now in
    let place = c.loop-place.place in
    let member = c.member-item.result in
    let within : place < length members.list = omega arith in
    let at : member_at members place ≡ Some (declared_of c.in_ok-signature.signature) =
    ap (option_map (declared_by members.numbers)) (slice_get-get_or members.list place member within ∙ ap Some (sym c.member-item.is)) ∙ ap Some (sym c.in_ok-signature.ensures) in
    c.in_ok-add_lacking.ensures members above numbers object rootless at (c.loop-place.invariant above numbers object rootless given)
