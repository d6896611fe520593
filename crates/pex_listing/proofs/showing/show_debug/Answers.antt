use Rattle.std.proofs.Common.{◌++◌, refl, subst, sym}
use Rattle.std.specs.Prelude.{option_map}
use Rattle.std.specs.List.{flat_map}
use Rattle.pex_values.specs.Plain.{plain_debug, plain_lines}
use Rattle.pex_listing.specs.Listing.{debug_line, lines}
use Rattle.pex_listing.specs.Showing.{Wrote, entries_of}
use Rattle.pex_listing.specs.Spelled.{spelled_in}
use Rattle.pex_listing.proofs.Shown.{debug_text}
use Rattle.pex_listing.proofs.Writing.{adds, all_held, goes_on, one_front, stops_at_once, wrote_as, wrote_err}
use Rattle.pex_listing.proofs.showing.show_debug.Goals as goal

pub returns-in_err-put_debug_line-clause-written : goal.returns-in_err-put_debug_line-clause-written
returns-in_err-put_debug_line-clause-written g c = wrote_err _ _ c.from_residual.result _ _ c.from_residual.ensures.0 (stops_at_once _ _ _ refl)

pub returns-clause-written : goal.returns-clause-written
returns-clause-written g c =
    let s = spelled_in c.args.names.now in
    let d = c.args.debug.now in
    let old = c.args.out.now.items in
    let line = debug_line (option_map plain_debug d) in
    let functions = flat_map (λ e. lines s (plain_lines e)) (entries_of d) in
    let before = g.S.Sink.written c.args.sink.now in
    let now = g.S.Sink.written c.show_all.new.sink in
    let first = c.put_debug_line.new.out.items in
    let held = adds old line old first before before (all_held old old before before refl refl) c.in_ok-put_debug_line.ensures in
    let wrote = subst (λ es. Wrote (first ++ flat_map (λ e. lines s (plain_lines e)) es) c.show_all.result c.show_all.new.out.items before now) c.entries_of.ensures c.show_all.ensures.written in
    wrote_as ((old ++ line) ++ functions) _ _ c.show_all.result before _ (sym (one_front old line functions _ (debug_text s d)))
    (goes_on (old ++ line) functions first _ c.show_all.result before before _ held wrote)
