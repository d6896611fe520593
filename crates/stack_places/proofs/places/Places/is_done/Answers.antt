use Rattle.std.proofs.Common.{◌≡◌, ◌<◌, false, sym, subst, ap, ◌∙◌, arith}
use Rattle.std.specs.Prelude.{slice_index_or}
use Rattle.std.specs.List.{list_any}
use Rattle.std.proofs.lemmas.List.{get_or_read}
use Rattle.run_laws.specs.Exclusive.{is_number}
use Rattle.stack_places.specs.Places.{PlaceTable}
use Rattle.stack_places.proofs.Standing.{done_there}
use Rattle.stack_places.proofs.places.Places.is_done.Goals as goal

pub returns : goal.returns
returns c =
    let i = c.self.inside in
    let ok = i.done.ok.0 in
    let told = c.self.invariant.1 in
    let here = c.from.ensures in
    let within = subst (λ (t : PlaceTable). c.args.stack < t.room) (sym c.self.view_is) c.requires in
    let read = get_or_read i.done.items c.from.result c.index.result.now (omega (arith, ok, told, here, within)) c.index.ensures false in
    subst (λ (t : PlaceTable). c.index.result.now ≡ list_any (is_number c.args.stack) t.lists.done) c.self.view_is (read ∙ (ap (λ n. slice_index_or i.done.items n false) here ∙ sym (done_there i.done.items c.args.stack)))
