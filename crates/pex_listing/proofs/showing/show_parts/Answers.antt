use Rattle.std.proofs.Common.{◌++◌, ◌∙◌, ap, append_assoc, refl, subst, sym}
use Rattle.std.specs.Prelude.{codes, option_map}
use Rattle.std.specs.List.{flat_map}
use Rattle.pex_values.specs.Plain.{plain, plain_debug, plain_object}
use Rattle.pex_listing.specs.Lines.{string_line}
use Rattle.pex_listing.specs.Listing.{all_lines, debug, flag, heading, object}
use Rattle.pex_listing.specs.Showing.{HoldsBack, Wrote}
use Rattle.pex_listing.specs.Spelled.{spelled_in}
use Rattle.pex_listing.specs.declared.faults.ShowFault.TheVariants.{OutOfMemory}
use Rattle.pex_listing.proofs.Shown.{all_text}
use Rattle.pex_listing.proofs.Writing.{StopsIn, adds, all_held, four_front, goes_on, holds_on, stops_at_once, stops_behind, stops_early, three_front, two_front, wrote_as, wrote_err}
use Rattle.pex_listing.proofs.showing.show_parts.Goals as goal

pub returns-in_err-put_heading-clause-written : goal.returns-in_err-put_heading-clause-written
returns-in_err-put_heading-clause-written g c = wrote_err _ _ c.from_residual.result _ _ c.from_residual.ensures.0 (stops_at_once _ _ _ refl)

pub returns-in_err-show_all-clause-written : goal.returns-in_err-show_all-clause-written
returns-in_err-show_all-clause-written g c =
    let s = spelled_in c.args.names.now in
    let v = c.args.value.now in
    let old = c.args.out.now.items in
    let head = heading (plain v) in
    let table = flat_map (string_line (codes "string")) v.strings.items in
    let info = debug s (option_map plain_debug v.debug) in
    let flags = flat_map (flag s) v.user_flags.items in
    let objects = flat_map (λ o. object s (plain_object o)) v.objects.items in
    let before = g.S.Sink.written c.args.sink.now in
    let now = g.S.Sink.written c.show_all.new.sink in
    let first = c.put_heading.new.out.items in
    let held = adds old head old first before before (all_held old old before before refl refl) c.in_ok-put_heading.ensures in
    wrote_err _ _ c.from_residual-in_err-show_all.result _ _ c.from_residual-in_err-show_all.ensures.0
    (stops_early ((old ++ head) ++ table) (info ++ flags ++ objects) (old ++ all_lines s (plain v)) before _ (two_front old head table (info ++ flags ++ objects) _ (all_text s v ∙ ap (λ t. t ++ objects) (append_assoc (head ++ table) info flags) ∙ append_assoc (head ++ table) (info ++ flags) objects))
    (stops_behind OutOfMemory (old ++ head) table first first before before _ held (subst (λ xs. StopsIn (first ++ flat_map (string_line (codes "string")) xs) before now) c.deref.ensures.value c.in_err-show_all.ensures.written)))

pub returns-in_err-show_debug-clause-written : goal.returns-in_err-show_debug-clause-written
returns-in_err-show_debug-clause-written g c =
    let s = spelled_in c.args.names.now in
    let v = c.args.value.now in
    let old = c.args.out.now.items in
    let head = heading (plain v) in
    let table = flat_map (string_line (codes "string")) v.strings.items in
    let info = debug s (option_map plain_debug v.debug) in
    let flags = flat_map (flag s) v.user_flags.items in
    let objects = flat_map (λ o. object s (plain_object o)) v.objects.items in
    let before = g.S.Sink.written c.args.sink.now in
    let first = c.put_heading.new.out.items in
    let held = adds old head old first before before (all_held old old before before refl refl) c.in_ok-put_heading.ensures in
    let second = c.show_all.new.out.items in
    let after-2 = g.S.Sink.written c.show_all.new.sink in
    let held-2 = holds_on (old ++ head) table first second before before after-2 held (subst (λ xs. HoldsBack (first ++ flat_map (string_line (codes "string")) xs) second before after-2) c.deref.ensures.value c.in_ok-show_all.ensures.written) in
    wrote_err _ _ c.from_residual-in_err-show_debug.result _ _ c.from_residual-in_err-show_debug.ensures.0
    (stops_early (((old ++ head) ++ table) ++ info) (flags ++ objects) (old ++ all_lines s (plain v)) before _ (three_front old head table info (flags ++ objects) _ (all_text s v ∙ append_assoc (head ++ table ++ info) flags objects))
    (stops_behind OutOfMemory ((old ++ head) ++ table) info second second before after-2 _ held-2 c.in_err-show_debug.ensures.written))

pub returns-in_err-show_all-2-clause-written : goal.returns-in_err-show_all-2-clause-written
returns-in_err-show_all-2-clause-written g c =
    let s = spelled_in c.args.names.now in
    let v = c.args.value.now in
    let old = c.args.out.now.items in
    let head = heading (plain v) in
    let table = flat_map (string_line (codes "string")) v.strings.items in
    let info = debug s (option_map plain_debug v.debug) in
    let flags = flat_map (flag s) v.user_flags.items in
    let objects = flat_map (λ o. object s (plain_object o)) v.objects.items in
    let before = g.S.Sink.written c.args.sink.now in
    let now = g.S.Sink.written c.show_all-2.new.sink in
    let first = c.put_heading.new.out.items in
    let held = adds old head old first before before (all_held old old before before refl refl) c.in_ok-put_heading.ensures in
    let second = c.show_all.new.out.items in
    let after-2 = g.S.Sink.written c.show_all.new.sink in
    let held-2 = holds_on (old ++ head) table first second before before after-2 held (subst (λ xs. HoldsBack (first ++ flat_map (string_line (codes "string")) xs) second before after-2) c.deref.ensures.value c.in_ok-show_all.ensures.written) in
    let third = c.show_debug.new.out.items in
    let after-3 = g.S.Sink.written c.show_debug.new.sink in
    let held-3 = holds_on ((old ++ head) ++ table) info second third before after-2 after-3 held-2 c.in_ok-show_debug.ensures.written in
    wrote_err _ _ c.from_residual-in_err-show_all-2.result _ _ c.from_residual-in_err-show_all-2.ensures.0
    (stops_early ((((old ++ head) ++ table) ++ info) ++ flags) objects (old ++ all_lines s (plain v)) before _ (four_front old head table info flags objects _ (all_text s v))
    (stops_behind OutOfMemory (((old ++ head) ++ table) ++ info) flags third third before after-3 _ held-3 (subst (λ xs. StopsIn (third ++ flat_map (flag s) xs) after-3 now) c.deref-2.ensures.value c.in_err-show_all-2.ensures.written)))

pub returns-clause-written : goal.returns-clause-written
returns-clause-written g c =
    let s = spelled_in c.args.names.now in
    let v = c.args.value.now in
    let old = c.args.out.now.items in
    let head = heading (plain v) in
    let table = flat_map (string_line (codes "string")) v.strings.items in
    let info = debug s (option_map plain_debug v.debug) in
    let flags = flat_map (flag s) v.user_flags.items in
    let objects = flat_map (λ o. object s (plain_object o)) v.objects.items in
    let before = g.S.Sink.written c.args.sink.now in
    let now = g.S.Sink.written c.show_objects.new.sink in
    let first = c.put_heading.new.out.items in
    let held = adds old head old first before before (all_held old old before before refl refl) c.in_ok-put_heading.ensures in
    let second = c.show_all.new.out.items in
    let after-2 = g.S.Sink.written c.show_all.new.sink in
    let held-2 = holds_on (old ++ head) table first second before before after-2 held (subst (λ xs. HoldsBack (first ++ flat_map (string_line (codes "string")) xs) second before after-2) c.deref.ensures.value c.in_ok-show_all.ensures.written) in
    let third = c.show_debug.new.out.items in
    let after-3 = g.S.Sink.written c.show_debug.new.sink in
    let held-3 = holds_on ((old ++ head) ++ table) info second third before after-2 after-3 held-2 c.in_ok-show_debug.ensures.written in
    let fourth = c.show_all-2.new.out.items in
    let after-4 = g.S.Sink.written c.show_all-2.new.sink in
    let held-4 = holds_on (((old ++ head) ++ table) ++ info) flags third fourth before after-3 after-4 held-3 (subst (λ xs. HoldsBack (third ++ flat_map (flag s) xs) fourth after-3 after-4) c.deref-2.ensures.value c.in_ok-show_all-2.ensures.written) in
    wrote_as (((((old ++ head) ++ table) ++ info) ++ flags) ++ objects) _ _ c.show_objects.result before _ (sym (four_front old head table info flags objects _ (all_text s v)))
    (goes_on ((((old ++ head) ++ table) ++ info) ++ flags) objects fourth _ c.show_objects.result before after-4 _ held-4 (subst (λ xs. Wrote (fourth ++ flat_map (λ o. object s (plain_object o)) xs) c.show_objects.result c.show_objects.new.out.items after-4 now) c.deref-3.ensures.value c.show_objects.ensures.written))
