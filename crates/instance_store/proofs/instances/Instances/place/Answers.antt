use Rattle.std.proofs.Common.{◌≡◌, ◌<◌, List, length, ap, sym, ◌∙◌, subst, arith}
use Rattle.std.proofs.lemmas.List.{get_or_default}
use Rattle.instance_store.specs.Depths.{IsLevel}
use Rattle.instance_store.specs.Instances.{InstanceState, instance_at, no_instance}
use Rattle.instance_store.proofs.instances.Instances.place.Goals as goal

pub place_at_depth-requires : goal.place_at_depth-requires
place_at_depth-requires c =
    let known : 0 < length c.self.inside.depths.items = grind (arith, c.if-is_empty.ensures) in
    let within : c.args.instance < length c.self.inside.instances.items = subst (λ (all : List InstanceState). c.args.instance < length all) (sym c.self.view_is) c.requires in
    let level : IsLevel c.self.inside.depths.items (instance_at c.self.inside.instances.items c.args.instance).scripts = c.self.invariant known c.args.instance within in
    let read : (instance_at c.self.inside.instances.items c.args.instance) ≡ c.index-found.result.now = get_or_default c.self.inside.instances.items c.args.instance no_instance c.index-found.result.now within ∙ sym c.index-found.ensures in
    let here : (instance_at c.self.inside.instances.items c.args.instance).scripts ≡ c.as_slice-2.result.now = ap (λ instance. instance.scripts) (read ∙ sym c.found.view_is) ∙ sym c.as_slice-2.ensures.value in
    subst (λ depths. IsLevel depths c.as_slice-2.result.now) (sym c.deref.ensures.value) (subst (λ scripts. IsLevel c.self.inside.depths.items scripts) here level)
