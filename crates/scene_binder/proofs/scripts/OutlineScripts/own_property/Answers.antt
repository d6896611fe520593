use Rattle.std.proofs.Common.{◌≡◌, ◌<◌, ◌≤◌, None, length, get_or, refl, sym, ap, subst, ◌∙◌, arith}
use Rattle.std.proofs.lemmas.Option.{IfSome_then, slice_get_read}
use Rattle.std.specs.Option.{option_copied}
use Rattle.papy_base.specs.Case.{folded}
use Rattle.scene_binder.specs.Members.{HasProperty, own_property}
use Rattle.scene_binder.specs.Names.{first_of, property_name}
use Rattle.scene_binder.proofs.BoundLemmas.{HasProperty-from, own_property-nowhere, own_property-there}
use Rattle.scene_binder.proofs.scripts.OutlineScripts.own_property.Goals as goal

pub returns-clause-there : goal.returns-clause-there
returns-clause-there c =
    let list = c.self.inside.members.items in
    let script = c.args.script in
    let members = c.in_ok-get.field-0.now in
    let lt : script < length list = omega (arith, c.in_ok-get.ensures.lookup.3.0, ap length c.deref.ensures.value) in
    let at : members ≡ get_or list script members = cc (c.in_ok-get.ensures.lookup.1, c.deref.ensures.value) in
    let is = slice_get_read list (length list) script members refl lt at in
    IfSome_then c.find_property.result c.find_property.ensures.there (λ found own. subst (λ scripts. HasProperty scripts script found.now) (c.self.invariant.0 ∙ c.self.view_is) (HasProperty-from list script members found.now is own))

pub returns-in_err-get-clause-first : goal.returns-in_err-get-clause-first
returns-in_err-get-clause-first c =
    let list = c.self.inside.members.items in
    let script = c.args.script in
    let past : length list ≤ script = omega (arith, c.in_err-get.ensures.lookup.3, ap length c.deref.ensures.value) in
    ap option_copied c.from_residual.ensures ∙ sym (subst (λ scripts. own_property scripts (folded c.args.name.now) script ≡ None) (c.self.invariant.0 ∙ c.self.view_is) (own_property-nowhere list script (folded c.args.name.now) past))

pub returns-clause-first : goal.returns-clause-first
returns-clause-first c =
    let list = c.self.inside.members.items in
    let script = c.args.script in
    let members = c.in_ok-get.field-0.now in
    let lt : script < length list = omega (arith, c.in_ok-get.ensures.lookup.3.0, ap length c.deref.ensures.value) in
    let at : members ≡ get_or list script members = cc (c.in_ok-get.ensures.lookup.1, c.deref.ensures.value) in
    let is = slice_get_read list (length list) script members refl lt at in
    let own = own_property-there list script members (folded c.args.name.now) is in
    c.find_property.ensures.first ∙ sym (subst (λ scripts. own_property scripts (folded c.args.name.now) script ≡ first_of property_name members.script.now.properties.items (folded c.args.name.now)) (c.self.invariant.0 ∙ c.self.view_is) own)
