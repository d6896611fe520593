use Rattle.std.proofs.Common.{◌≡◌, sym, ap, subst, get_or, ◌∙◌}
use Rattle.std.specs.List.{slice_get}
use Rattle.std.specs.Option.{option_and_then, option_copied}
use Rattle.std.proofs.lemmas.Option.{IfSome_then}
use Rattle.papy_base.specs.Case.{folded}
use Rattle.scene_binder.specs.Names.{function_name}
use Rattle.scene_binder.proofs.NameLemmas.{IsPlaceTable-first, IsPlaceTable-named, copied_read}
use Rattle.scene_binder.proofs.scripts.ScriptMembers.find_function.Goals as goal

pub returns-in_err-place-clause-first : goal.returns-in_err-place-clause-first
returns-in_err-place-clause-first c =
    let members = c.args.self.now in
    let items = members.script.now.functions.items in
    ap option_copied c.from_residual.ensures ∙ sym (IsPlaceTable-first function_name items members.functions (folded c.args.name.now) members.named_functions ∙ ap (option_and_then (slice_get items)) (sym c.in_err-place.ensures))

pub returns-clause-first : goal.returns-clause-first
returns-clause-first c =
    let members = c.args.self.now in
    let items = members.script.now.functions.items in
    let read = subst (λ xs. option_copied c.get.result ≡ slice_get xs c.in_ok-place.place) c.as_slice.ensures.value (copied_read c.get.result c.as_slice.result.now c.in_ok-place.place c.get.ensures.lookup.0 c.get.ensures.lookup.1) in
    read ∙ sym (IsPlaceTable-first function_name items members.functions (folded c.args.name.now) members.named_functions ∙ ap (option_and_then (slice_get items)) (sym c.in_ok-place.ensures))

pub returns-clause-named : goal.returns-clause-named
returns-clause-named c =
    let members = c.args.self.now in
    let functions = members.script.now.functions.items in
    let place = c.in_ok-place.place in
    IfSome_then c.get.result c.get.ensures.lookup.1 (λ f is.
    let at : f.now ≡ get_or functions place f.now = cc in
    ap (λ function. folded (function_name function)) at ∙ IsPlaceTable-named function_name functions members.functions (folded c.args.name.now) place f.now members.named_functions (sym c.in_ok-place.ensures))
