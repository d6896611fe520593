use Rattle.std.proofs.Common.{arith, ◌∙◌, map, take, length}
use Rattle.std.proofs.lemmas.Grind.{common_steps}
use Rattle.std.specs.String.{string_bytes}
use Rattle.command_files.proofs.HeldScripts.{names-all, names-more, scripts-more, sources-more}
use Rattle.command_files.proofs.ScriptFaults.{script_ends, script_is_held, script_missed, script_word, source_is_held}
use Rattle.command_files.proofs.scripts.read_sources.Goals as goal

pub loop-place-preserved : goal.loop-place-preserved
loop-place-preserved g c =
    let so_far = c.loop-place.invariant in
    let script = c.index-scripts-place.result in
    let names = names-more c.args.scripts.now c.loop-place.place script c.loop-place-test.true c.index-scripts-place.is in
    let read = rw (so_far.holds, c.as_bytes.ensures.value) at c.in-Ok.ensures.read in
    let source = source_is_held (g.D.Desk.holds c.args.desk.now) (string_bytes script) c.in-Ok.file read in
    let held = script_is_held (g.D.Desk.holds c.args.desk.now) (string_bytes script) c.in-Ok.file source in
    let before = map string_bytes (take c.loop-place.place c.args.scripts.now) in
    record {
      busy = c.in-Ok.ensures.busy;
      holds = c.in-Ok.ensures.holds ∙ so_far.holds;
      write_faults = c.in-Ok.ensures.write_faults ∙ so_far.write_faults;
      read_faults = c.in-Ok.ensures.read_faults ∙ so_far.read_faults;
      each = grind (arith, common_steps);
      held = rw names (scripts-more (g.D.Desk.holds c.args.desk.now) before (string_bytes script) so_far.held held);
      read = rw (names, c.in-Ok-push.ensures.items) (sources-more (g.D.Desk.holds c.args.desk.now) before c.loop-place.files.items (string_bytes script) c.in-Ok.file so_far.read source);
    }

pub returns-in-Err-clause-ends : goal.returns-in-Err-clause-ends
returns-in-Err-clause-ends g c =
    let so_far = c.loop-place.invariant in
    let script = c.index-scripts-place.result in
    let read = rw (so_far.holds, c.as_bytes.ensures.value) at c.in-Err.ensures.read in
    rw c.at_word.ensures (script_ends (g.D.Desk.holds c.args.desk.now) c.args.scripts.now c.loop-place.place script c.in-Err.fault c.loop-place-test.true c.index-scripts-place.is so_far.held read)

pub returns-in-Err-clause-missed : goal.returns-in-Err-clause-missed
returns-in-Err-clause-missed g c =
    let script = c.index-scripts-place.result in
    rw c.at_word.ensures (script_missed c.args.scripts.now c.loop-place.place script c.in-Err.fault _ c.loop-place-test.true c.index-scripts-place.is _ c.as_bytes.ensures.value c.in-Err.ensures.missed)

pub returns-in-Err-clause-word : goal.returns-in-Err-clause-word
returns-in-Err-clause-word g c = rw c.at_word.ensures (script_word (length c.args.scripts.now) c.loop-place.place c.in-Err.fault c.loop-place-test.true)

pub returns-clause-ends : goal.returns-clause-ends
returns-clause-ends g c =
    let all = names-all c.args.scripts.now c.loop-place.place c.loop-place.auto.place-end c.loop-place-test.false in
    rw all at c.loop-place.invariant.held

pub returns-clause-read : goal.returns-clause-read
returns-clause-read g c =
    let all = names-all c.args.scripts.now c.loop-place.place c.loop-place.auto.place-end c.loop-place-test.false in
    rw all at c.loop-place.invariant.read
