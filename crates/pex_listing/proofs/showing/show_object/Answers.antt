use Rattle.std.proofs.Common.{◌++◌, ◌∙◌, append_assoc, refl, subst, sym}
use Rattle.std.specs.List.{flat_map}
use Rattle.pex_values.specs.Plain.{plain_object, plain_property, plain_state}
use Rattle.pex_listing.specs.Listing.{object, object_line, property, state, variable}
use Rattle.pex_listing.specs.Showing.{HoldsBack, Wrote}
use Rattle.pex_listing.specs.Spelled.{spelled_in}
use Rattle.pex_listing.specs.declared.faults.ShowFault.TheVariants.{OutOfMemory}
use Rattle.pex_listing.proofs.Shown.{object_text}
use Rattle.pex_listing.proofs.Writing.{StopsIn, adds, all_held, goes_on, holds_on, stops_at_once, stops_behind, stops_early, three_front, two_front, wrote_as, wrote_err}
use Rattle.pex_listing.proofs.showing.show_object.Goals as goal

pub returns-in_err-put_object_line-clause-written : goal.returns-in_err-put_object_line-clause-written
returns-in_err-put_object_line-clause-written g c = wrote_err _ _ c.from_residual.result _ _ c.from_residual.ensures.0 (stops_at_once _ _ _ refl)

pub returns-in_err-show_all-clause-written : goal.returns-in_err-show_all-clause-written
returns-in_err-show_all-clause-written g c =
    let s = spelled_in c.args.names.now in
    let o = c.args.object.now in
    let old = c.args.out.now.items in
    let line = object_line s (plain_object o) in
    let variables = flat_map (variable s) o.variables.items in
    let properties = flat_map (λ p. property s (plain_property p)) o.properties.items in
    let states = flat_map (λ t. state s (plain_state t)) o.states.items in
    let rest = properties ++ states in
    let before = g.S.Sink.written c.args.sink.now in
    let now = g.S.Sink.written c.show_all.new.sink in
    let first = c.put_object_line.new.out.items in
    let held = adds old line old first before before (all_held old old before before refl refl) c.in_ok-put_object_line.ensures in
    wrote_err _ _ c.from_residual-in_err-show_all.result _ _ c.from_residual-in_err-show_all.ensures.0
    (stops_early ((old ++ line) ++ variables) rest (old ++ object s (plain_object o)) before _ (two_front old line variables rest _ (object_text s o ∙ append_assoc (line ++ variables) properties states))
    (stops_behind OutOfMemory (old ++ line) variables first first before before _ held (subst (λ xs. StopsIn (first ++ flat_map (variable s) xs) before now) c.deref.ensures.value c.in_err-show_all.ensures.written)))

pub returns-in_err-show_all-2-clause-written : goal.returns-in_err-show_all-2-clause-written
returns-in_err-show_all-2-clause-written g c =
    let s = spelled_in c.args.names.now in
    let o = c.args.object.now in
    let old = c.args.out.now.items in
    let line = object_line s (plain_object o) in
    let variables = flat_map (variable s) o.variables.items in
    let properties = flat_map (λ p. property s (plain_property p)) o.properties.items in
    let rest = flat_map (λ t. state s (plain_state t)) o.states.items in
    let before = g.S.Sink.written c.args.sink.now in
    let now = g.S.Sink.written c.show_all-2.new.sink in
    let between = g.S.Sink.written c.show_all.new.sink in
    let first = c.put_object_line.new.out.items in
    let second = c.show_all.new.out.items in
    let held = adds old line old first before before (all_held old old before before refl refl) c.in_ok-put_object_line.ensures in
    let more = holds_on (old ++ line) variables first second before before between held (subst (λ xs. HoldsBack (first ++ flat_map (variable s) xs) second before between) c.deref.ensures.value c.in_ok-show_all.ensures.written) in
    wrote_err _ _ c.from_residual-in_err-show_all-2.result _ _ c.from_residual-in_err-show_all-2.ensures.0
    (stops_early (((old ++ line) ++ variables) ++ properties) rest (old ++ object s (plain_object o)) before _ (three_front old line variables properties rest _ (object_text s o))
    (stops_behind OutOfMemory ((old ++ line) ++ variables) properties second second before between _ more (subst (λ xs. StopsIn (second ++ flat_map (λ p. property s (plain_property p)) xs) between now) c.deref-2.ensures.value c.in_err-show_all-2.ensures.written)))

pub returns-clause-written : goal.returns-clause-written
returns-clause-written g c =
    let s = spelled_in c.args.names.now in
    let o = c.args.object.now in
    let old = c.args.out.now.items in
    let line = object_line s (plain_object o) in
    let variables = flat_map (variable s) o.variables.items in
    let properties = flat_map (λ p. property s (plain_property p)) o.properties.items in
    let states = flat_map (λ t. state s (plain_state t)) o.states.items in
    let before = g.S.Sink.written c.args.sink.now in
    let now = g.S.Sink.written c.show_states.new.sink in
    let between = g.S.Sink.written c.show_all.new.sink in
    let late = g.S.Sink.written c.show_all-2.new.sink in
    let first = c.put_object_line.new.out.items in
    let second = c.show_all.new.out.items in
    let third = c.show_all-2.new.out.items in
    let held = adds old line old first before before (all_held old old before before refl refl) c.in_ok-put_object_line.ensures in
    let more = holds_on (old ++ line) variables first second before before between held (subst (λ xs. HoldsBack (first ++ flat_map (variable s) xs) second before between) c.deref.ensures.value c.in_ok-show_all.ensures.written) in
    let most = holds_on ((old ++ line) ++ variables) properties second third before between late more (subst (λ xs. HoldsBack (second ++ flat_map (λ p. property s (plain_property p)) xs) third between late) c.deref-2.ensures.value c.in_ok-show_all-2.ensures.written) in
    wrote_as ((((old ++ line) ++ variables) ++ properties) ++ states) _ _ c.show_states.result before _ (sym (three_front old line variables properties states _ (object_text s o)))
    (goes_on (((old ++ line) ++ variables) ++ properties) states third _ c.show_states.result before late _ most (subst (λ xs. Wrote (third ++ flat_map (λ t. state s (plain_state t)) xs) c.show_states.result c.show_states.new.out.items late now) c.deref-3.ensures.value c.show_states.ensures.written))
