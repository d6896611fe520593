use Rattle.std.proofs.Common.{Some, take, sym, subst}
use Rattle.std.proofs.lemmas.List.Elements.{All-get_or, All-push}
use Rattle.scene_reader.specs.declared.fault.SceneRule.TheVariants.{DuplicateName}
use Rattle.scene_reader.specs.Limits.{EntryKeeps}
use Rattle.scene_binder.specs.Bound.{IsBoundEntry}
use Rattle.scene_binder.specs.Faults.{entry_breaks, set_name}
use Rattle.scene_binder.specs.Limits.{IsShortEntry}
use Rattle.scene_binder.specs.Meant.{IsEntryMeant}
use Rattle.scene_binder.specs.Scope.{known_script}
use Rattle.scene_binder.proofs.JudgeLemmas.{broken_same, first_here, first_later, judged_err, none_later, none_same, turn_broken, turn_passed, turns_done}
use Rattle.scene_binder.proofs.ListLemmas.{AllZip-done, AllZip-next}
use Rattle.scene_binder.proofs.NameLemmas.{IsPlaceTable-next, is_taken-same}
use Rattle.scene_binder.proofs.binder.Known.bind_entries.Goals as goal

pub loop-place-preserved : goal.loop-place-preserved
loop-place-preserved c =
    let scripts = c.args.self.scripts.now in
    let instances = c.args.self.instances.now.scripts.items in
    let bound = c.loop-place.bound.items in
    let entry = c.index-set-place.result in
    let last = c.in_ok-bind_entry in
    let before = c.loop-place.invariant in
    let breaks = entry_breaks scripts (known_script c.args.self.instances.now) (Some c.args.script) in
    let free = none_same DuplicateName _ _ (is_taken-same set_name (take c.loop-place.place c.args.set.now) c.loop-place.names entry.0 before.named) c.in_ok-note_new.ensures.judged in
    rw c.in_ok-push.ensures.items (record {
      bound = All-push (IsBoundEntry scripts instances c.args.script) bound last.field-0 before.bound last.ensures.bound;
      short = λ h.
          let own = subst EntryKeeps (sym c.index-set-place.is) (All-get_or EntryKeeps c.args.set.now c.loop-place.place entry c.loop-place-test.true h) in
          All-push IsShortEntry bound last.field-0 (before.short h) (last.ensures.short own.1);
      meant = λ named_instances named.
          AllZip-next (IsEntryMeant scripts named_instances c.args.script) c.args.set.now bound c.loop-place.place entry last.field-0 c.loop-place-test.true c.index-set-place.is (before.meant named_instances named) (last.ensures.meant named_instances named);
      named = IsPlaceTable-next set_name c.args.set.now c.loop-place.place entry c.loop-place.names c.note_new.new.names c.loop-place-test.true c.index-set-place.is before.named c.in_ok-note_new.ensures.noted;
      judged = turn_passed breaks c.args.set.now c.loop-place.place entry c.loop-place-test.true c.index-set-place.is before.judged (none_later _ _ free last.ensures.judged);
    })

pub returns-clause-meant : goal.returns-clause-meant
returns-clause-meant c = λ instances named.
    AllZip-done (IsEntryMeant c.args.self.scripts.now instances c.args.script) c.args.set.now c.loop-place.bound.items c.loop-place.place c.loop-place-test.false (c.loop-place.invariant.meant instances named)

pub returns-in_err-note_new-clause-judged : goal.returns-in_err-note_new-clause-judged
returns-in_err-note_new-clause-judged c =
    let breaks = entry_breaks c.args.self.scripts.now (known_script c.args.self.instances.now) (Some c.args.script) in
    let set = c.args.set.now in
    let place = c.loop-place.place in
    let entry = c.index-set-place.result in
    let before = c.loop-place.invariant in
    let fault = c.in_err-note_new.field-0.0 in
    let taken = broken_same DuplicateName _ _ (is_taken-same set_name (take place set) c.loop-place.names entry.0 before.named) fault c.in_err-note_new.ensures.judged in
    judged_err c.from_residual-in_err-note_new.result _ fault c.from_residual-in_err-note_new.ensures.1 (turn_broken breaks set place entry fault c.loop-place-test.true c.index-set-place.is before.judged (first_here _ _ fault taken))

pub returns-in_err-bind_entry-clause-judged : goal.returns-in_err-bind_entry-clause-judged
returns-in_err-bind_entry-clause-judged c =
    let breaks = entry_breaks c.args.self.scripts.now (known_script c.args.self.instances.now) (Some c.args.script) in
    let set = c.args.set.now in
    let place = c.loop-place.place in
    let entry = c.index-set-place.result in
    let before = c.loop-place.invariant in
    let fault = c.in_err-bind_entry.field-0.0 in
    let free = none_same DuplicateName _ _ (is_taken-same set_name (take place set) c.loop-place.names entry.0 before.named) c.in_ok-note_new.ensures.judged in
    judged_err c.from_residual-in_err-bind_entry.result _ fault c.from_residual-in_err-bind_entry.ensures.1 (turn_broken breaks set place entry fault c.loop-place-test.true c.index-set-place.is before.judged (first_later _ _ fault free c.in_err-bind_entry.ensures.judged))

pub returns-clause-judged : goal.returns-clause-judged
returns-clause-judged c =
    turns_done (entry_breaks c.args.self.scripts.now (known_script c.args.self.instances.now) (Some c.args.script)) c.args.set.now c.loop-place.place c.loop-place-test.false c.loop-place.invariant.judged
