use Rattle.std.proofs.Common.{arith, ◌≡◌, ◌+◌, ◌∙◌, [], map, length, sym, ap}
use Rattle.std.proofs.lemmas.List.{get_or-map, length-map}
use Rattle.std.specs.String.{string_bytes}
use Rattle.command_files.specs.Ending.{word_at}
use Rattle.run_commands.proofs.ResumedRun.{resume_is_no_usage, resume_misses, resume_outputs, resume_reads, resume_word, unread_counts, unread_held, unread_is_no_usage, unread_outputs, unread_word, unread_writes}
use Rattle.run_commands.proofs.resume_command.resume.Goals as goal

-- ---- the held file

pub returns-in-Err-clause-read_faults : goal.returns-in-Err-clause-read_faults
returns-in-Err-clause-read_faults g c = rw c.at_word.ensures (unread_counts c.in-Err.fault _ _ c.in-Err.ensures.read_faults)

pub returns-in-Err-clause-missed : goal.returns-in-Err-clause-missed
returns-in-Err-clause-missed g c =
    let file = c.index-files-1.result in
    let named : word_at (map string_bytes c.args.files.now) 1 ≡ string_bytes file =
    get_or-map string_bytes c.args.files.now 1 file [] (omega (arith, c.requires.two)) ∙ ap string_bytes (sym c.index-files-1.is) in
    let size : length (map string_bytes c.args.files.now) ≡ length c.args.files.now = length-map c.args.files.now string_bytes in
    rw c.at_word.ensures (unread_held (map string_bytes c.args.files.now) (length (map string_bytes c.args.files.now) + 1) (string_bytes file) _ c.in-Err.fault _ (omega (arith, c.requires.two, size)) named c.as_bytes.ensures.value c.in-Err.ensures.missed)

pub returns-in-Err-clause-faults : goal.returns-in-Err-clause-faults
returns-in-Err-clause-faults g c = rw c.at_word.ensures (unread_writes c.in-Err.fault _)

pub returns-in-Err-clause-never_usage : goal.returns-in-Err-clause-never_usage
returns-in-Err-clause-never_usage g c = rw c.at_word.ensures (unread_is_no_usage c.in-Err.fault)

pub returns-in-Err-clause-word : goal.returns-in-Err-clause-word
returns-in-Err-clause-word g c = rw c.at_word.ensures (unread_word (length c.args.files.now + 1) c.in-Err.fault (omega (arith, c.requires.two)))

pub returns-in-Err-clause-output : goal.returns-in-Err-clause-output
returns-in-Err-clause-output g c =
    let file = c.index-files-1.result in
    let named : word_at (map string_bytes c.args.files.now) 1 ≡ string_bytes file =
    get_or-map string_bytes c.args.files.now 1 file [] (omega (arith, c.requires.two)) ∙ ap string_bytes (sym c.index-files-1.is) in
    let read = rw c.as_bytes.ensures.value at c.in-Err.ensures.read in
    rw (named, c.at_word.ensures) (unread_outputs c.args.most (g.D.Desk.holds c.args.desk.now) (string_bytes file) c.in-Err.fault _ read)

-- ---- the rest of the run

pub returns-clause-read_faults : goal.returns-clause-read_faults
returns-clause-read_faults g c = resume_reads _ c.args.most c.resume_held.result _ _ _ _ c.resume_held.ensures.resumes c.in-Ok.ensures.read_faults

pub returns-clause-missed : goal.returns-clause-missed
returns-clause-missed g c = resume_misses _ c.args.most _ _ c.resume_held.result _ _ _ c.resume_held.ensures.resumes

pub returns-clause-never_usage : goal.returns-clause-never_usage
returns-clause-never_usage g c = resume_is_no_usage _ c.args.most c.resume_held.result _ _ c.resume_held.ensures.resumes

pub returns-clause-word : goal.returns-clause-word
returns-clause-word g c = resume_word _ c.args.most (length c.args.files.now + 1) c.resume_held.result _ _ (omega (arith, c.requires.two)) c.resume_held.ensures.resumes

pub returns-clause-output : goal.returns-clause-output
returns-clause-output g c =
    let file = c.index-files-1.result in
    let named : word_at (map string_bytes c.args.files.now) 1 ≡ string_bytes file =
    get_or-map string_bytes c.args.files.now 1 file [] (omega (arith, c.requires.two)) ∙ ap string_bytes (sym c.index-files-1.is) in
    let read = rw c.as_bytes.ensures.value at c.in-Ok.ensures.read in
    rw named (resume_outputs c.args.most (g.D.Desk.holds c.args.desk.now) (string_bytes file) c.in-Ok.held c.resume_held.result _ _ read c.resume_held.ensures.resumes)
