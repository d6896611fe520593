use Rattle.std.proofs.Common.{arith, ◌≡◌, ◌+◌, ◌∙◌, [], map, length, sym, ap}
use Rattle.std.proofs.lemmas.List.{get_or-map}
use Rattle.std.specs.String.{string_bytes}
use Rattle.papy_base.specs.Bytes.{bytes_of}
use Rattle.command_files.specs.Ending.{word_at}
use Rattle.run_commands.specs.Answers.{HoldAnswers}
use Rattle.run_commands.proofs.EarlyEnds.{early_is_no_usage, early_outputs, early_writes}
use Rattle.run_commands.proofs.HeldRun.{are_there, cut_held, done_outputs, early_held, held_is_no_usage, held_misses, held_outputs, held_reads, held_word, hold_ends, short_held, whole_held}
use Rattle.run_commands.proofs.JournalEnds.{output_counts}
use Rattle.run_commands.proofs.ProgramEnds.{unwritten_outputs}
use Rattle.run_commands.proofs.SceneParts.{read_has_few}
use Rattle.run_commands.proofs.hold_command.hold.Goals as goal

pub play_held-requires-clause-few : goal.play_held-requires-clause-few
play_held-requires-clause-few g c = read_has_few c.in-Ok.program.tree c.in-Ok.ensures.limits

-- ---- the files

pub returns-in-Err-clause-leaves : goal.returns-in-Err-clause-leaves
returns-in-Err-clause-leaves g c = rw c.read_program.ensures.holds (early_held c.args.most (map string_bytes c.args.files.now) (g.D.Desk.holds c.args.desk.now) _ c.in-Err.ending c.in-Err.ensures.ends)

pub returns-in-Err-clause-faults : goal.returns-in-Err-clause-faults
returns-in-Err-clause-faults g c =
    let holds = g.D.Desk.holds c.args.desk.now in
    let writes = early_writes (HoldAnswers (map string_bytes c.args.files.now)) holds c.in-Err.ending _ (hold_ends (map string_bytes c.args.files.now) holds c.in-Err.ending c.in-Err.ensures.ends) in
    rw c.read_program.ensures.write_faults (output_counts c.in-Err.ending _ _ _ writes)

pub returns-in-Err-clause-never_usage : goal.returns-in-Err-clause-never_usage
returns-in-Err-clause-never_usage g c =
    let holds = g.D.Desk.holds c.args.desk.now in
    early_is_no_usage (HoldAnswers (map string_bytes c.args.files.now)) holds c.in-Err.ending (hold_ends (map string_bytes c.args.files.now) holds c.in-Err.ending c.in-Err.ensures.ends)

pub returns-in-Err-clause-output : goal.returns-in-Err-clause-output
returns-in-Err-clause-output g c =
    let holds = g.D.Desk.holds c.args.desk.now in
    early_outputs (HoldAnswers (map string_bytes c.args.files.now)) holds c.in-Err.ending _ (hold_ends (map string_bytes c.args.files.now) holds c.in-Err.ending c.in-Err.ensures.ends)

-- ---- the run

pub returns-in-Err-play_held-clause-leaves : goal.returns-in-Err-play_held-clause-leaves
returns-in-Err-play_held-clause-leaves g c =
    rw c.in-Ok.ensures.holds (short_held c.args.most (map string_bytes c.args.files.now) (map bytes_of c.in-Ok.program.kept.items) c.in-Ok.program.text.items _ c.in-Err-play_held.ending _ _ (g.D.Desk.holds c.args.desk.now) c.in-Err-play_held.ensures.plays)

pub returns-in-Err-play_held-clause-read_faults : goal.returns-in-Err-play_held-clause-read_faults
returns-in-Err-play_held-clause-read_faults g c = held_reads c.args.most (map bytes_of c.in-Ok.program.kept.items) c.in-Ok.program.text.items c.in-Err-play_held.ending _ _ _ _ c.in-Err-play_held.ensures.plays c.in-Ok.ensures.read_faults

pub returns-in-Err-play_held-clause-missed : goal.returns-in-Err-play_held-clause-missed
returns-in-Err-play_held-clause-missed g c = held_misses c.args.most _ (map bytes_of c.in-Ok.program.kept.items) c.in-Ok.program.text.items c.in-Err-play_held.ending _ _ _ c.in-Err-play_held.ensures.plays

pub returns-in-Err-play_held-clause-faults : goal.returns-in-Err-play_held-clause-faults
returns-in-Err-play_held-clause-faults g c = rw c.in-Ok.ensures.write_faults (output_counts c.in-Err-play_held.ending _ _ _ c.in-Err-play_held.ensures.faults)

pub returns-in-Err-play_held-clause-never_usage : goal.returns-in-Err-play_held-clause-never_usage
returns-in-Err-play_held-clause-never_usage g c = held_is_no_usage c.args.most (map bytes_of c.in-Ok.program.kept.items) c.in-Ok.program.text.items c.in-Err-play_held.ending _ _ c.in-Err-play_held.ensures.plays

pub returns-in-Err-play_held-clause-word : goal.returns-in-Err-play_held-clause-word
returns-in-Err-play_held-clause-word g c = held_word c.args.most (length c.args.files.now + 1) (map bytes_of c.in-Ok.program.kept.items) c.in-Ok.program.text.items c.in-Err-play_held.ending _ _ (omega (arith, c.requires.some)) c.in-Err-play_held.ensures.plays

pub returns-in-Err-play_held-clause-output : goal.returns-in-Err-play_held-clause-output
returns-in-Err-play_held-clause-output g c =
    let holds = g.D.Desk.holds c.args.desk.now in
    let words = map string_bytes c.args.files.now in
    held_outputs c.args.most words (map bytes_of c.in-Ok.program.kept.items) c.in-Ok.program.text.items holds c.in-Err-play_held.ending _ _ (are_there words c.in-Ok.program holds c.in-Ok.ensures.held) c.in-Err-play_held.ensures.plays

-- ---- the held file

pub returns-in-Ok-write_file-clause-leaves : goal.returns-in-Ok-write_file-clause-leaves
returns-in-Ok-write_file-clause-leaves g c =
    let file = c.index-files-2.result in
    let named : word_at (map string_bytes c.args.files.now) 2 ≡ string_bytes file =
    get_or-map string_bytes c.args.files.now 2 file [] (omega (arith, c.requires.some)) ∙ ap string_bytes (sym c.index-files-2.is) in
    let wrote = rw (c.as_bytes.ensures.value, c.deref.ensures.value, c.in-Ok.ensures.holds) at c.in-Ok-write_file.ensures.holds in
    let plays = c.in-Ok-play_held.ensures.plays in
    rw named (whole_held c.args.most (map string_bytes c.args.files.now) c.in-Ok.program (string_bytes file) c.in-Ok-play_held.bytes.items (g.D.Desk.holds c.args.desk.now) _ c.in-Ok.ensures.held plays.0 wrote)

pub returns-in-Ok-write_file-clause-output : goal.returns-in-Ok-write_file-clause-output
returns-in-Ok-write_file-clause-output g c =
    let holds = g.D.Desk.holds c.args.desk.now in
    let words = map string_bytes c.args.files.now in
    let plays = c.in-Ok-play_held.ensures.plays in
    done_outputs words holds _ _ (are_there words c.in-Ok.program holds c.in-Ok.ensures.held) plays.1

pub returns-clause-leaves : goal.returns-clause-leaves
returns-clause-leaves g c =
    let file = c.index-files-2.result in
    let named : word_at (map string_bytes c.args.files.now) 2 ≡ string_bytes file =
    get_or-map string_bytes c.args.files.now 2 file [] (omega (arith, c.requires.some)) ∙ ap string_bytes (sym c.index-files-2.is) in
    let wrote = rw (c.as_bytes.ensures.value, c.deref.ensures.value, c.in-Ok.ensures.holds) at c.in-Err-write_file.ensures.holds in
    let plays = c.in-Ok-play_held.ensures.plays in
    rw (named, c.from.ensures) (cut_held c.args.most (map string_bytes c.args.files.now) c.in-Ok.program (string_bytes file) c.in-Ok-play_held.bytes.items c.in-Err-write_file.fault (g.D.Desk.holds c.args.desk.now) _ c.in-Ok.ensures.held plays.0 wrote)

pub returns-clause-output : goal.returns-clause-output
returns-clause-output g c =
    let holds = g.D.Desk.holds c.args.desk.now in
    let words = map string_bytes c.args.files.now in
    let plays = c.in-Ok-play_held.ensures.plays in
    rw c.from.ensures (unwritten_outputs (HoldAnswers words) holds c.in-Err-write_file.fault _ _ (done_outputs words holds _ _ (are_there words c.in-Ok.program holds c.in-Ok.ensures.held) plays.1))
