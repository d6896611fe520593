use Rattle.std.proofs.Common.{◌≡◌, ◌++◌, ◌∙◌, ap, length, map, refl, subst}
use Rattle.std.specs.List.{range_with_len}
use Rattle.pex_values.specs.Plain.{plain}
use Rattle.pex_listing.specs.Lines.{reference}
use Rattle.pex_listing.specs.Listing.{all_lines, listing}
use Rattle.pex_listing.specs.Showing.{HoldsBack}
use Rattle.pex_listing.specs.Spelled.{spelled_in}
use Rattle.pex_listing.proofs.Shown.{spelled_is}
use Rattle.pex_listing.proofs.Writing.{StopsIn, ends, listing_err, stops_at_once}
use Rattle.pex_listing.proofs.showing.show.Goals as goal

pub returns-in_err-names-clause-written : goal.returns-in_err-names-clause-written
returns-in_err-names-clause-written g c = listing_err _ c.from_residual.result _ _ c.from_residual.ensures.0 (stops_at_once _ _ _ refl)

pub returns-in_err-show_parts-clause-written : goal.returns-in_err-show_parts-clause-written
returns-in_err-show_parts-clause-written g c =
    let v = plain c.args.value.now in
    let same = ap (λ s. all_lines s v) (spelled_is c.in_ok-names.names v.strings (subst (λ xs. map (λ bytes. bytes.items) c.in_ok-names.names.spelled.items ≡ map (reference xs) (range_with_len 0 (length xs))) c.deref.ensures.value c.in_ok-names.ensures.spelled)) in
    listing_err _ c.from_residual-in_err-show_parts.result _ _ c.from_residual-in_err-show_parts.ensures.0
    (subst (λ t. StopsIn t (g.S.Sink.written c.args.sink.now) (g.S.Sink.written c.show_parts.new.sink)) (ap (λ t. t ++ all_lines (spelled_in c.in_ok-names.names) v) c.new-out.ensures.items ∙ same) c.in_err-show_parts.ensures.written)

pub returns-clause-written : goal.returns-clause-written
returns-clause-written g c =
    let v = plain c.args.value.now in
    let same = ap (λ s. all_lines s v) (spelled_is c.in_ok-names.names v.strings (subst (λ xs. map (λ bytes. bytes.items) c.in_ok-names.names.spelled.items ≡ map (reference xs) (range_with_len 0 (length xs))) c.deref.ensures.value c.in_ok-names.ensures.spelled)) in
    let before = g.S.Sink.written c.args.sink.now in
    let between = g.S.Sink.written c.show_parts.new.sink in
    let now = g.S.Sink.written c.flush.new.sink in
    let held = subst (λ t. HoldsBack t c.show_parts.new.out.items before between) (ap (λ t. t ++ all_lines (spelled_in c.in_ok-names.names) v) c.new-out.ensures.items ∙ same) c.in_ok-show_parts.ensures.written in
    ends (listing v) c.show_parts.new.out.items _ c.flush.result before between now held c.flush.ensures.written c.flush.ensures.emptied
