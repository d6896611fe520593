use Rattle.std.proofs.Common.{◌≡◌, ◌<◌, sym, subst, ◌∙◌, arith}
use Rattle.script_meaning.specs.Locks.{stack_of}
use Rattle.stack_places.specs.Places.{PlaceTable}
use Rattle.stack_places.proofs.Seats.{owner_there}
use Rattle.stack_places.proofs.places.Places.owner_of.Goals as goal

pub returns : goal.returns
returns c =
    let i = c.self.inside in
    let within = subst (λ (t : PlaceTable). c.args.instance < t.instances) (sym c.self.view_is) c.requires in
    subst (λ (t : PlaceTable). c.owner_of.result ≡ stack_of t.lists.owners c.args.instance) c.self.view_is (c.owner_of.ensures ∙ sym (owner_there c.args.instance 0 i.locks.instances i.locks.seats (omega arith) (omega (arith, within))))
