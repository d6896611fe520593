use Rattle.std.proofs.Common.{arith, ◌∙◌, map, take, length}
use Rattle.std.proofs.lemmas.Grind.{common_steps}
use Rattle.std.proofs.lemmas.List.Elements.{All-push}
use Rattle.std.specs.String.{string_bytes}
use Rattle.pex_verify.specs.Files.{IsFile}
use Rattle.command_files.proofs.HeldScripts.{names-more, names-all}
use Rattle.run_commands.proofs.ProgramRead.{kept_more, small_more, spelled_more, value_counts, value_ends, value_missed, value_word}
use Rattle.run_commands.proofs.program.read_values.Goals as goal

pub loop-place-preserved : goal.loop-place-preserved
loop-place-preserved g c =
    let so_far = c.loop-place.invariant in
    let name = c.index-names-place.result in
    let names = names-more c.args.names.now c.loop-place.place name c.loop-place-test.true c.index-names-place.is in
    let read = rw (so_far.holds, c.as_bytes.ensures.value) at c.in-Ok.ensures.read in
    let spells = rw (so_far.holds, c.as_bytes.ensures.value) at c.in-Ok.ensures.spelled in
    record {
      busy = c.in-Ok.ensures.busy;
      holds = c.in-Ok.ensures.holds ∙ so_far.holds;
      write_faults = c.in-Ok.ensures.write_faults ∙ so_far.write_faults;
      read_faults = c.in-Ok.ensures.read_faults ∙ so_far.read_faults;
      each = grind (arith, common_steps);
      as_many = grind (arith, common_steps);
      valid = rw c.in-Ok-keep_file.ensures.values (All-push IsFile c.loop-place.files.values.items c.in-Ok.file.value so_far.valid c.in-Ok.ensures.valid);
      small = rw c.in-Ok-keep_file.ensures.kept (small_more c.loop-place.files.kept.items c.in-Ok.file.bytes so_far.small (omega (arith, c.in-Ok.ensures.small, c.in-Ok.file.bytes.ok.0)));
      kept = rw (names, c.in-Ok-keep_file.ensures.kept) (kept_more c.args.keep (g.D.Desk.holds c.args.desk.now) (map string_bytes (take c.loop-place.place c.args.names.now)) c.loop-place.files.kept.items (string_bytes name) c.in-Ok.file so_far.kept read);
      spelled = rw (names, c.in-Ok-keep_file.ensures.values) (spelled_more (g.D.Desk.holds c.args.desk.now) (map string_bytes (take c.loop-place.place c.args.names.now)) c.loop-place.files.values.items (string_bytes name) c.in-Ok.file.value so_far.spelled spells);
    }

pub returns-in-Err-clause-read_faults : goal.returns-in-Err-clause-read_faults
returns-in-Err-clause-read_faults g c =
    let counts = rw c.loop-place.invariant.read_faults at c.in-Err.ensures.read_faults in rw c.at_word.ensures (value_counts _ c.in-Err.fault _ _ counts)

pub returns-in-Err-clause-ends : goal.returns-in-Err-clause-ends
returns-in-Err-clause-ends g c =
    let so_far = c.loop-place.invariant in
    let name = c.index-names-place.result in
    let read = rw (so_far.holds, c.as_bytes.ensures.value) at c.in-Err.ensures.read in
    rw c.at_word.ensures (value_ends c.args.keep (g.D.Desk.holds c.args.desk.now) c.args.first c.args.names.now c.loop-place.place name c.in-Err.fault c.loop-place-test.true c.index-names-place.is read)

pub returns-in-Err-clause-missed : goal.returns-in-Err-clause-missed
returns-in-Err-clause-missed g c =
    let name = c.index-names-place.result in
    rw c.at_word.ensures (value_missed c.args.first c.args.names.now c.loop-place.place name c.in-Err.fault _ c.loop-place-test.true c.index-names-place.is _ c.as_bytes.ensures.value c.in-Err.ensures.missed)

pub returns-in-Err-clause-word : goal.returns-in-Err-clause-word
returns-in-Err-clause-word g c = rw c.at_word.ensures (value_word c.args.first (length c.args.names.now) c.loop-place.place c.in-Err.fault c.loop-place-test.true)

pub returns-clause-kept : goal.returns-clause-kept
returns-clause-kept g c =
    let all = names-all c.args.names.now c.loop-place.place c.loop-place.auto.place-end c.loop-place-test.false in
    rw all at c.loop-place.invariant.kept

pub returns-clause-spelled : goal.returns-clause-spelled
returns-clause-spelled g c =
    let all = names-all c.args.names.now c.loop-place.place c.loop-place.auto.place-end c.loop-place-test.false in
    rw all at c.loop-place.invariant.spelled
