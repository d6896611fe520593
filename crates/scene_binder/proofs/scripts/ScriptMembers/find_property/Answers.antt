use Rattle.std.proofs.Common.{◌≡◌, sym, ap, subst, ◌∙◌}
use Rattle.std.specs.List.{slice_get}
use Rattle.std.specs.Option.{option_and_then, option_copied}
use Rattle.papy_base.specs.Case.{folded}
use Rattle.scene_binder.specs.Names.{property_name}
use Rattle.scene_binder.proofs.NameLemmas.{IsPlaceTable-first, copied_read}
use Rattle.scene_binder.proofs.scripts.ScriptMembers.find_property.Goals as goal

pub returns-in_err-place-clause-first : goal.returns-in_err-place-clause-first
returns-in_err-place-clause-first c =
    let members = c.args.self.now in
    let items = members.script.now.properties.items in
    ap option_copied c.from_residual.ensures ∙ sym (IsPlaceTable-first property_name items members.properties (folded c.args.name.now) members.named_properties ∙ ap (option_and_then (slice_get items)) (sym c.in_err-place.ensures))

pub returns-clause-first : goal.returns-clause-first
returns-clause-first c =
    let members = c.args.self.now in
    let items = members.script.now.properties.items in
    let read = subst (λ xs. option_copied c.get.result ≡ slice_get xs c.in_ok-place.place) c.as_slice.ensures.value (copied_read c.get.result c.as_slice.result.now c.in_ok-place.place c.get.ensures.lookup.0 c.get.ensures.lookup.1) in
    read ∙ sym (IsPlaceTable-first property_name items members.properties (folded c.args.name.now) members.named_properties ∙ ap (option_and_then (slice_get items)) (sym c.in_ok-place.ensures))
