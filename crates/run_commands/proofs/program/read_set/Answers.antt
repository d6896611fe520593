use Rattle.std.proofs.Common.{arith, ◌≡◌, ◌+◌, ap, false, map, length, vec_len}
use Rattle.std.proofs.lemmas.List.{length-map}
use Rattle.std.specs.String.{string_bytes}
use Rattle.run_commands.proofs.ProgramRead.{apart_below, apart_counts, apart_ends, apart_misses, behind_command, kept_are_held, values_end_set}
use Rattle.run_commands.proofs.program.read_set.Goals as goal

pub returns-in-Err-clause-ends : goal.returns-in-Err-clause-ends
returns-in-Err-clause-ends g c = values_end_set 1 (map string_bytes c.args.names.now) (g.D.Desk.holds c.args.desk.now) c.in-Err.ending c.in-Err.ensures.ends

pub returns-in-Err-clause-missed : goal.returns-in-Err-clause-missed
returns-in-Err-clause-missed g c = behind_command (map string_bytes c.args.names.now) c.in-Err.ending _ c.in-Err.ensures.missed

pub returns-in-Ok-judge_values-clause-held : goal.returns-in-Ok-judge_values-clause-held
returns-in-Ok-judge_values-clause-held g c = kept_are_held false (g.D.Desk.holds c.args.desk.now) (map string_bytes c.args.names.now) c.in-Ok.files.kept.items c.in-Ok.ensures.kept

pub returns-in-Ok-judge_values-clause-count : goal.returns-in-Ok-judge_values-clause-count
returns-in-Ok-judge_values-clause-count g c = omega (arith, c.in-Ok.ensures.count, c.in-Ok.files.values.ok.0, ap length c.in-Ok-judge_values.ensures.files)

pub returns-in-Ok-judge_values-clause-spelled : goal.returns-in-Ok-judge_values-clause-spelled
returns-in-Ok-judge_values-clause-spelled g c = rw c.in-Ok-judge_values.ensures.files c.in-Ok.ensures.spelled

pub returns-in-Err-judge_values-clause-read_faults : goal.returns-in-Err-judge_values-clause-read_faults
returns-in-Err-judge_values-clause-read_faults g c = apart_counts 1 _ c.in-Err-judge_values.ending _ _ c.in-Err-judge_values.ensures.verifies c.in-Ok.ensures.read_faults

pub returns-in-Err-judge_values-clause-missed : goal.returns-in-Err-judge_values-clause-missed
returns-in-Err-judge_values-clause-missed g c =
    let names = map string_bytes c.args.names.now in
    behind_command names c.in-Err-judge_values.ending _ (apart_misses 1 _ names c.in-Err-judge_values.ending _ c.in-Err-judge_values.ensures.verifies)

pub returns-in-Err-judge_values-clause-ends : goal.returns-in-Err-judge_values-clause-ends
returns-in-Err-judge_values-clause-ends g c =
    let names = map string_bytes c.args.names.now in
    let holds = g.D.Desk.holds c.args.desk.now in
    let same : length names ≡ length c.args.names.now = length-map c.args.names.now string_bytes in
    let count : vec_len c.in-Ok.files.values ≡ length names = omega (arith, same, c.in-Ok.ensures.count) in
    apart_ends 1 _ names holds c.in-Err-judge_values.ending count (kept_are_held false holds names c.in-Ok.files.kept.items c.in-Ok.ensures.kept) c.in-Err-judge_values.ensures.verifies

pub returns-in-Err-judge_values-clause-word : goal.returns-in-Err-judge_values-clause-word
returns-in-Err-judge_values-clause-word g c = apart_below 1 _ (length c.args.names.now + 1) c.in-Err-judge_values.ending (omega (arith, c.in-Ok.ensures.count)) c.in-Err-judge_values.ensures.verifies
