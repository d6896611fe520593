use Rattle.std.proofs.Common.{◌++◌, refl, subst, sym}
use Rattle.std.specs.List.{flat_map}
use Rattle.pex_values.specs.Plain.{plain_named, plain_state}
use Rattle.pex_listing.specs.Listing.{named, state_line}
use Rattle.pex_listing.specs.Showing.{Wrote}
use Rattle.pex_listing.specs.Spelled.{spelled_in}
use Rattle.pex_listing.proofs.Shown.{state_text}
use Rattle.pex_listing.proofs.Writing.{adds, all_held, goes_on, one_front, stops_at_once, wrote_as, wrote_err}
use Rattle.pex_listing.proofs.showing.show_state.Goals as goal

pub returns-in_err-put_state_line-clause-written : goal.returns-in_err-put_state_line-clause-written
returns-in_err-put_state_line-clause-written g c = wrote_err _ _ c.from_residual.result _ _ c.from_residual.ensures.0 (stops_at_once _ _ _ refl)

pub returns-clause-written : goal.returns-clause-written
returns-clause-written g c =
    let s = spelled_in c.args.names.now in
    let t = c.args.state.now in
    let old = c.args.out.now.items in
    let line = state_line s (plain_state t) in
    let functions = flat_map (λ f. named s (plain_named f)) t.functions.items in
    let before = g.S.Sink.written c.args.sink.now in
    let now = g.S.Sink.written c.show_all.new.sink in
    let first = c.put_state_line.new.out.items in
    let wrote = subst (λ fs. Wrote (first ++ flat_map (λ f. named s (plain_named f)) fs) c.show_all.result c.show_all.new.out.items before now) c.deref.ensures.value c.show_all.ensures.written in
    let held = adds old line old c.put_state_line.new.out.items before before (all_held old old before before refl refl) c.in_ok-put_state_line.ensures in
    wrote_as ((old ++ line) ++ functions) _ _ c.show_all.result before _ (sym (one_front old line functions _ (state_text s t)))
    (goes_on (old ++ line) functions c.put_state_line.new.out.items _ c.show_all.result before before _ held wrote)
