use Rattle.std.proofs.Common.{rules, ◌≡◌, IfSome, refl, subst, sym}
use Rattle.scene_binder.specs.Members.{IsNearestProperty}
use Rattle.scene_binder.proofs.binder.Known.bind_entry.Goals as goal

pub returns-clause-meant : goal.returns-clause-meant
returns-clause-meant c =
    let scripts = c.args.self.scripts.now in
    let property = c.in-Some.property.now in
    let found = subst (λ o. IfSome o (λ f. IsNearestProperty scripts c.as_bytes-name.result.now c.args.script f.0 f.1.now)) c.in-Some.is c.in_ok-found.ensures.nearest in
    let named = subst (λ name. IsNearestProperty scripts name c.args.script c.in-Some.owner property) c.as_bytes-name.ensures found in
    let same : c.in_ok-owner.owner ≡ c.in-Some.owner = search rules in
    let nearest = subst (λ owner. IsNearestProperty scripts c.args.name.now c.args.script owner property) (sym same) named in
    λ instances named. record { property = property; nearest = nearest; variable = refl; value = c.in_ok-value.ensures.meant instances named }
