-- What the status of the top call says of how its command ended.
use Rattle.std.proofs.Common.{arith, ◌<◌, ◌≡◌, ◌≢◌, ◌⊎◌, ◌∙◌, sym, inl, inr, ℕ, List, [], drop}
use Rattle.std.specs.Prelude.{false, Option, None, Some, Ok, Err}
use Rattle.papy_io.specs.declared.fault.IoFault.TheVariants as io
use Rattle.papy_io.specs.Count.{HasRisen}
use Rattle.papy_io.specs.Files.{Files}
use Rattle.papy_io.specs.Sink.{Appended}
use Rattle.papyrus_cmd.specs.declared.command.Command.{Command}
use Rattle.papyrus_cmd.specs.declared.command.Command.TheVariants as command
use Rattle.papyrus_cmd.specs.declared.command.FileCommand.{FileCommand}
use Rattle.papyrus_cmd.specs.declared.command.FileCommand.TheVariants.{Compile, Check, Show, Asm, Upgrade, Waits, Lift}
use Rattle.papyrus_cmd.specs.declared.command.PlayCommand.{PlayCommand}
use Rattle.papyrus_cmd.specs.declared.command.PlayCommand.TheVariants.{Once, Run, Exec, Journal, Hold, Resume, Sample}
use Rattle.run_commands.specs.Hold.{HoldLeaves, MayWriteHeld}
use Rattle.run_commands.specs.Journal.{JournalLeaves, MayHoldNoted}
use Rattle.command_files.specs.declared.ending.Ending.{Ending}
use Rattle.command_files.specs.declared.ending.Ending.TheVariants.{Done, OutOfMemory, Usage, ReadFault, WriteFault, Refused, NotBuilt}
use Rattle.command_files.specs.declared.refusal.Place.{Place}
use Rattle.command_files.specs.declared.refusal.Rule.{Rule}
use Rattle.command_files.specs.declared.refusal.Rule.TheVariants as rules
use Rattle.command_files.specs.Outputs.{Outputs}
use Rattle.papyrus_cmd.specs.Answers.{Answers}
use Rattle.papyrus_cmd.specs.Asm.{AsmLeaves, MayWrite}
use Rattle.papyrus_cmd.specs.Command.{command_of}
use Rattle.papyrus_cmd.specs.Compile.{CompileLeaves, MayCompile}
use Rattle.papyrus_cmd.specs.Lift.{LiftLeaves, MayLift}
use Rattle.papyrus_cmd.specs.Upgrade.{MayUpgrade, UpgradeLeaves}
use Rattle.command_files.specs.Ending.{CountsBoth, CountsReads, word_at}
use Rattle.papyrus_cmd.specs.Missed.{MissesWord}
use Rattle.command_files.specs.Refusal.{rule_status}
use Rattle.papyrus_cmd.specs.TopCall.{Answered, CommandCut, CommandLeaves, FileCommandCut, FileCommandLeaves, FilesCut, FilesLeft, IsAnswer, Noted, NotRead, PlayCommandCut, PlayCommandLeaves, Told, WasCut, WritesNone, file_command_writes, play_command_writes, writes_files}
use Rattle.papy_io.proofs.Appending.{appended_nothing}

-- the line was written where its status tells neither want of memory nor a failed write
noted : (line : List ℕ) (wanted status : ℕ) (before now : Option (List ℕ)) (f f' : ℕ) → Noted line wanted status before now f f' → status ≢ 1 → status ≢ 4 →
    (status ≡ wanted) × Appended line before now
noted line wanted status before now f f' (Ok done, is, writes, counts) memory written = (is, writes)
noted line wanted status before now f f' (Err io.Failed, is, writes, counts) memory written = absurd (written is)
noted line wanted status before now f f' (Err io.OutOfMemory, is, writes, counts) memory written = absurd (memory is)

pub answered : (words : List (List ℕ)) (holds left : Option Files) (ending : Ending) (status : ℕ) (out out' notes notes' : Option (List ℕ)) (f f' : ℕ) →
    Outputs (Answers words) holds ending out out' → Told words ending status notes notes' f f' → FilesLeft words ending out out' holds left → IsAnswer status → Answered words holds left status out out' notes notes'
answered words holds left Done status out out' notes notes' f f' (text, appended, ends) (is, silent, kept) leaves answer =
    record { ending = Done; text = text; status_is = is; out = appended; notes = appended_nothing notes notes' silent; answers = ends; files = leaves }
answered words holds left OutOfMemory status out out' notes notes' f f' outputs (is, tried) leaves answer = absurd (answer.memory is)
answered words holds left WriteFault status out out' notes notes' f f' outputs (is, tried) leaves answer = absurd (answer.was_written is)
answered words holds left Usage status out out' notes notes' f f' (same, ends) told leaves answer =
    let line = noted _ _ status notes notes' f f' told answer.memory answer.was_written in
    record { ending = Usage; text = []; status_is = line.0; out = appended_nothing out out' same; notes = line.1; answers = ends; files = leaves }
answered words holds left NotBuilt status out out' notes notes' f f' (same, ends) told leaves answer =
    let line = noted _ _ status notes notes' f f' told answer.memory answer.was_written in
    record { ending = NotBuilt; text = []; status_is = line.0; out = appended_nothing out out' same; notes = line.1; answers = ends; files = leaves }
answered words holds left (ReadFault word) status out out' notes notes' f f' same (inl told) leaves answer =
    absurd (answer.was_read (noted _ _ status notes notes' f f' told answer.memory answer.was_written).0)
answered words holds left (ReadFault word) status out out' notes notes' f f' same (inr (is, tried)) leaves answer = absurd (answer.memory is)
answered words holds left (Refused word place rule) status out out' notes notes' f f' (inl (same, ends)) (inl told) leaves answer =
    let line = noted _ _ status notes notes' f f' told answer.memory answer.was_written in
    record { ending = Refused word place rule; text = []; status_is = line.0; out = appended_nothing out out' same; notes = line.1; answers = ends; files = leaves }
answered words holds left (Refused word place rule) status out out' notes notes' f f' (inr late) (inl told) leaves answer =
    let line = noted _ _ status notes notes' f f' told answer.memory answer.was_written in
    record { ending = Refused word place rule; text = late.text; status_is = line.0; out = late.appended; notes = line.1; answers = late.ends; files = leaves }
answered words holds left (Refused word place rule) status out out' notes notes' f f' outputs (inr (is, tried)) leaves answer = absurd (answer.memory is)

-- the statuses of rules stand behind those of memory, words, reads and writes
above-four : (rule : Rule) → 4 < rule_status rule
above-four (rules.Pex rule) = omega arith
above-four (rules.Listing rule) = omega arith
above-four (rules.Lexical rule) = omega arith
above-four (rules.Grammar rule) = omega arith
above-four (rules.Link rule) = omega arith
above-four (rules.Typing rule) = omega arith
above-four (rules.Scene rule) = omega arith
above-four (rules.Verification rule) = omega arith
above-four (rules.Held rule) = omega arith
above-four (rules.Journal rule) = omega arith
above-four (rules.Lifting rule) = omega arith

not-three : (rule : Rule) → rule_status rule ≢ 3
not-three rule = λ is. absurd (let above = above-four rule in omega arith)

-- a status that tells of a line
told-wanted : (line : List ℕ) (wanted status : ℕ) (before now : Option (List ℕ)) (f f' : ℕ) → Noted line wanted status before now f f' → status ≡ 3 → (wanted ≡ 3) × Appended line before now
told-wanted line wanted status before now f f' told three =
    let line = noted line wanted status before now f f' told (λ is. absurd (omega arith)) (λ is. absurd (omega arith)) in
    (sym line.0 ∙ three, line.1)

pub not_read : (words : List (List ℕ)) (holds : Option Files) (ending : Ending) (status : ℕ) (out out' notes notes' missed : Option (List ℕ)) (f f' r r' : ℕ) →
    Outputs (Answers words) holds ending out out' → MissesWord words ending missed → CountsReads ending r r' → Told words ending status notes notes' f f' → status ≡ 3 →
    NotRead words missed r r' out out' notes notes'
not_read words holds Done status out out' notes notes' missed f f' r r' outputs misses counts (is, silent, kept) three = absurd (omega arith)
not_read words holds OutOfMemory status out out' notes notes' missed f f' r r' outputs misses counts (is, tried) three = absurd (omega arith)
not_read words holds WriteFault status out out' notes notes' missed f f' r r' outputs misses counts (is, tried) three = absurd (omega arith)
not_read words holds Usage status out out' notes notes' missed f f' r r' outputs misses counts told three =
    absurd (let wanted = (told-wanted _ 2 status notes notes' f f' told three).0 in omega arith)
not_read words holds NotBuilt status out out' notes notes' missed f f' r r' outputs misses counts told three =
    absurd (let wanted = (told-wanted _ 10 status notes notes' f f' told three).0 in omega arith)
not_read words holds (Refused word place rule) status out out' notes notes' missed f f' r r' outputs misses counts (inl told) three =
    absurd (not-three rule (told-wanted _ _ status notes notes' f f' told three).0)
not_read words holds (Refused word place rule) status out out' notes notes' missed f f' r r' outputs misses counts (inr (is, tried)) three = absurd (omega arith)
not_read words holds (ReadFault word) status out out' notes notes' missed f f' r r' same misses counts (inl told) three =
    record {
      file = word_at words word;
      read = misses.read;
      missed_is = misses.missed_is;
      faults = counts;
      out = same;
      notes = (told-wanted _ 3 status notes notes' f f' told three).1;
    }
not_read words holds (ReadFault word) status out out' notes notes' missed f f' r r' same misses counts (inr (is, tried)) three = absurd (omega arith)

-- only want of memory, a failed write and the status of a file that was not read come after a failed read
pub all_read : (words : List (List ℕ)) (ending : Ending) (status : ℕ) (notes notes' : Option (List ℕ)) (f f' r r' : ℕ) → CountsReads ending r r' → Told words ending status notes notes' f f' → IsAnswer status → r' ≡ r
all_read words Done status notes notes' f f' r r' same told answer = same
all_read words OutOfMemory status notes notes' f f' r r' same told answer = same
all_read words Usage status notes notes' f f' r r' same told answer = same
all_read words WriteFault status notes notes' f f' r r' same told answer = same
all_read words NotBuilt status notes notes' f f' r r' same told answer = same
all_read words (Refused word place rule) status notes notes' f f' r r' same told answer = same
all_read words (ReadFault word) status notes notes' f f' r r' risen (inl told) answer =
    absurd (answer.was_read (noted _ _ status notes notes' f f' told answer.memory answer.was_written).0)
all_read words (ReadFault word) status notes notes' f f' r r' risen (inr (is, tried)) answer = absurd (answer.memory is)

-- ---- files

-- an ending of which a status tells that a file was not read leaves the files as that ending says
unread-left : (L : Ending → Type 0) (Same : Type 0) → ((word : ℕ) → L (ReadFault word) → Same) → ((word : ℕ) (place : Place) (rule : Rule) → L (Refused word place rule) → Same) → (L Usage → Same) → (L NotBuilt → Same) →
    (words : List (List ℕ)) (ending : Ending) (status : ℕ) (notes notes' : Option (List ℕ)) (f f' : ℕ) → Told words ending status notes notes' f f' → status ≡ 3 → L ending → Same
unread-left L Same unread refused usage unbuilt words Done status notes notes' f f' (is, silent, kept) three leaves = absurd (omega arith)
unread-left L Same unread refused usage unbuilt words OutOfMemory status notes notes' f f' (is, tried) three leaves = absurd (omega arith)
unread-left L Same unread refused usage unbuilt words WriteFault status notes notes' f f' (is, tried) three leaves = absurd (omega arith)
unread-left L Same unread refused usage unbuilt words Usage status notes notes' f f' told three leaves = usage leaves
unread-left L Same unread refused usage unbuilt words NotBuilt status notes notes' f f' told three leaves = unbuilt leaves
unread-left L Same unread refused usage unbuilt words (ReadFault word) status notes notes' f f' told three leaves = unread word leaves
unread-left L Same unread refused usage unbuilt words (Refused word place rule) status notes notes' f f' told three leaves = refused word place rule leaves

-- the files that a command on files leaves which read none of them
unread-work : (work : FileCommand) (names words : List (List ℕ)) (ending : Ending) (status : ℕ) (old new : Option Files) (notes notes' : Option (List ℕ)) (f f' : ℕ) → Told words ending status notes notes' f f' → status ≡ 3 →
    FileCommandLeaves work names ending old new → new ≡ old
unread-work Asm names words ending status old new notes notes' f f' told three leaves =
    unread-left (λ e. AsmLeaves (word_at names 0) (word_at names 1) e old new) (new ≡ old) (λ word same. same) (λ word place rule same. same) (λ none. absurd none) (λ none. absurd none) words ending status notes notes' f f' told three leaves
unread-work Upgrade names words ending status old new notes notes' f f' told three leaves =
    unread-left (λ e. UpgradeLeaves (word_at names 1) e old new) (new ≡ old) (λ word same. same) (λ word place rule same. same) (λ none. absurd none) (λ none. absurd none) words ending status notes notes' f f' told three leaves
unread-work Compile names words ending status old new notes notes' f f' told three leaves =
    unread-left (λ e. CompileLeaves names e old new) (new ≡ old) (λ word same. same) (λ word place rule same. same) (λ none. absurd none) (λ same. same) words ending status notes notes' f f' told three leaves
unread-work Lift names words ending status old new notes notes' f f' told three leaves =
    unread-left (λ e. LiftLeaves names e old new) (new ≡ old) (λ word same. same) (λ word place rule same. same) (λ none. absurd none) (λ none. absurd none) words ending status notes notes' f f' told three leaves
unread-work Check names words ending status old new notes notes' f f' told three leaves = leaves
unread-work Show names words ending status old new notes notes' f f' told three leaves = leaves
unread-work Waits names words ending status old new notes notes' f f' told three leaves = leaves

-- the same of a command that runs scripts
unread-play : (work : PlayCommand) (names words : List (List ℕ)) (ending : Ending) (status : ℕ) (out out' : Option (List ℕ)) (old new : Option Files) (notes notes' : Option (List ℕ)) (f f' : ℕ) → Told words ending status notes notes' f f' → status ≡ 3 →
    PlayCommandLeaves work names ending out out' old new → new ≡ old
unread-play Journal names words ending status out out' old new notes notes' f f' told three leaves =
    unread-left (λ e. JournalLeaves (word_at names 1) e out out' old new) (new ≡ old) (λ word same. same) (λ word place rule same. same) (λ none. absurd none) (λ none. absurd none) words ending status notes notes' f f' told three leaves
unread-play (Hold turns) names words ending status out out' old new notes notes' f f' told three leaves =
    unread-left (λ e. HoldLeaves turns names (word_at names 2) e old new) (new ≡ old) (λ word same. same) (λ word place rule same. same) (λ none. absurd none) (λ none. absurd none) words ending status notes notes' f f' told three leaves
unread-play Once names words ending status out out' old new notes notes' f f' told three leaves = leaves
unread-play Run names words ending status out out' old new notes notes' f f' told three leaves = leaves
unread-play Exec names words ending status out out' old new notes notes' f f' told three leaves = leaves
unread-play (Resume turns) names words ending status out out' old new notes notes' f f' told three leaves = leaves
unread-play (Sample workers) names words ending status out out' old new notes notes' f f' told three leaves = leaves

unread-by : (found : Option Command) (names words : List (List ℕ)) (ending : Ending) (status : ℕ) (out out' : Option (List ℕ)) (old new : Option Files) (notes notes' : Option (List ℕ)) (f f' : ℕ) → Told words ending status notes notes' f f' → status ≡ 3 →
    CommandLeaves found names ending out out' old new → new ≡ old
unread-by (Some (command.Files work)) names words ending status out out' old new notes notes' f f' told three leaves = unread-work work names words ending status old new notes notes' f f' told three leaves
unread-by (Some (command.Play work)) names words ending status out out' old new notes notes' f f' told three leaves = unread-play work names words ending status out out' old new notes notes' f f' told three leaves
unread-by (Some command.Help) names words ending status out out' old new notes notes' f f' told three leaves = leaves
unread-by (Some command.Version) names words ending status out out' old new notes notes' f f' told three leaves = leaves
unread-by None names words ending status out out' old new notes notes' f f' told three leaves = leaves

-- a file that was not read leaves all files as they were
pub unread_kept : (words : List (List ℕ)) (ending : Ending) (status : ℕ) (out out' : Option (List ℕ)) (old new : Option Files) (notes notes' : Option (List ℕ)) (f f' : ℕ) → Told words ending status notes notes' f f' → status ≡ 3 →
    FilesLeft words ending out out' old new → new ≡ old
unread_kept words ending status out out' old new notes notes' f f' told three left = unread-by (command_of words) (drop 1 words) words ending status out out' old new notes notes' f f' told three left

-- the files of a command that writes none
work-kept : (work : FileCommand) (names : List (List ℕ)) (ending : Ending) (old new : Option Files) → FileCommandLeaves work names ending old new → file_command_writes work ≡ false → new ≡ old
work-kept Check names ending old new leaves none = leaves
work-kept Show names ending old new leaves none = leaves
work-kept Waits names ending old new leaves none = leaves
work-kept Asm names ending old new leaves none = absurd (cc)
work-kept Upgrade names ending old new leaves none = absurd (cc)
work-kept Compile names ending old new leaves none = absurd (cc)
work-kept Lift names ending old new leaves none = absurd (cc)

play-kept : (work : PlayCommand) (names : List (List ℕ)) (ending : Ending) (out out' : Option (List ℕ)) (old new : Option Files) → PlayCommandLeaves work names ending out out' old new → play_command_writes work ≡ false → new ≡ old
play-kept Once names ending out out' old new leaves none = leaves
play-kept Run names ending out out' old new leaves none = leaves
play-kept Exec names ending out out' old new leaves none = leaves
play-kept Journal names ending out out' old new leaves none = absurd (cc)
play-kept (Hold turns) names ending out out' old new leaves none = absurd (cc)
play-kept (Resume turns) names ending out out' old new leaves none = leaves
play-kept (Sample workers) names ending out out' old new leaves none = leaves

kept-by : (found : Option Command) (names : List (List ℕ)) (ending : Ending) (out out' : Option (List ℕ)) (old new : Option Files) → CommandLeaves found names ending out out' old new → writes_files found ≡ false → new ≡ old
kept-by (Some (command.Files work)) names ending out out' old new leaves none = work-kept work names ending old new leaves none
kept-by (Some (command.Play work)) names ending out out' old new leaves none = play-kept work names ending out out' old new leaves none
kept-by (Some command.Help) names ending out out' old new leaves none = leaves
kept-by (Some command.Version) names ending out out' old new leaves none = leaves
kept-by None names ending out out' old new leaves none = leaves

pub files_kept : (words : List (List ℕ)) (ending : Ending) (out out' : Option (List ℕ)) (old new : Option Files) → FilesLeft words ending out out' old new → WritesNone words → new ≡ old
files_kept words ending out out' old new left none = kept-by (command_of words) (drop 1 words) ending out out' old new left none

-- what is left where a status tells that the command was cut short
cut-left : (L : Ending → Type 0) (Cut : Type 0) → (L OutOfMemory → Cut) → (L WriteFault → Cut) → (L Usage → Cut) → (L NotBuilt → Cut) → ((word : ℕ) → L (ReadFault word) → Cut) → ((word : ℕ) (place : Place) (rule : Rule) → L (Refused word place rule) → Cut) →
    (words : List (List ℕ)) (ending : Ending) (status : ℕ) (notes notes' : Option (List ℕ)) (f f' : ℕ) → Told words ending status notes notes' f f' → WasCut status → L ending → Cut
cut-left L Cut memory write usage unbuilt unread refused words Done status notes notes' f f' (is, silent, kept) (inl one) leaves = absurd (omega arith)
cut-left L Cut memory write usage unbuilt unread refused words Done status notes notes' f f' (is, silent, kept) (inr four) leaves = absurd (omega arith)
cut-left L Cut memory write usage unbuilt unread refused words OutOfMemory status notes notes' f f' told cut leaves = memory leaves
cut-left L Cut memory write usage unbuilt unread refused words WriteFault status notes notes' f f' told cut leaves = write leaves
cut-left L Cut memory write usage unbuilt unread refused words Usage status notes notes' f f' told cut leaves = usage leaves
cut-left L Cut memory write usage unbuilt unread refused words NotBuilt status notes notes' f f' told cut leaves = unbuilt leaves
cut-left L Cut memory write usage unbuilt unread refused words (ReadFault word) status notes notes' f f' told cut leaves = unread word leaves
cut-left L Cut memory write usage unbuilt unread refused words (Refused word place rule) status notes notes' f f' told cut leaves = refused word place rule leaves

cut-work : (work : FileCommand) (names words : List (List ℕ)) (ending : Ending) (status : ℕ) (old new : Option Files) (notes notes' : Option (List ℕ)) (f f' : ℕ) → Told words ending status notes notes' f f' → WasCut status →
    FileCommandLeaves work names ending old new → FileCommandCut work names old new
cut-work Asm names words ending status old new notes notes' f f' told cut leaves =
    cut-left (λ e. AsmLeaves (word_at names 0) (word_at names 1) e old new) (MayWrite (word_at names 0) (word_at names 1) old new) (λ may. may) (λ may. may) (λ none. absurd none) (λ none. absurd none) (λ word same. inl same) (λ word place rule same. inl same) words ending status notes notes' f f' told cut leaves
cut-work Upgrade names words ending status old new notes notes' f f' told cut leaves =
    cut-left (λ e. UpgradeLeaves (word_at names 1) e old new) (MayUpgrade (word_at names 1) old new) (λ may. may) (λ may. may) (λ none. absurd none) (λ none. absurd none) (λ word same. inl same) (λ word place rule same. inl same) words ending status notes notes' f f' told cut leaves
cut-work Compile names words ending status old new notes notes' f f' told cut leaves =
    cut-left (λ e. CompileLeaves names e old new) (MayCompile names old new) (λ may. may) (λ may. may) (λ none. absurd none) (λ same. inl same) (λ word same. inl same) (λ word place rule same. inl same) words ending status notes notes' f f' told cut leaves
cut-work Lift names words ending status old new notes notes' f f' told cut leaves =
    cut-left (λ e. LiftLeaves names e old new) (MayLift names old new) (λ may. may) (λ may. may) (λ none. absurd none) (λ none. absurd none) (λ word same. inl same) (λ word place rule same. inl same) words ending status notes notes' f f' told cut leaves
cut-work Check names words ending status old new notes notes' f f' told cut leaves = leaves
cut-work Show names words ending status old new notes notes' f f' told cut leaves = leaves
cut-work Waits names words ending status old new notes notes' f f' told cut leaves = leaves

cut-play : (work : PlayCommand) (names words : List (List ℕ)) (ending : Ending) (status : ℕ) (out out' : Option (List ℕ)) (old new : Option Files) (notes notes' : Option (List ℕ)) (f f' : ℕ) → Told words ending status notes notes' f f' → WasCut status →
    PlayCommandLeaves work names ending out out' old new → PlayCommandCut work names old new
cut-play Journal names words ending status out out' old new notes notes' f f' told cut leaves =
    cut-left (λ e. JournalLeaves (word_at names 1) e out out' old new) (MayHoldNoted (word_at names 1) old new) (λ may. may) (λ may. may) (λ none. absurd none) (λ none. absurd none) (λ word same. inl same) (λ word place rule same. inl same) words ending status notes notes' f f' told cut leaves
cut-play (Hold turns) names words ending status out out' old new notes notes' f f' told cut leaves =
    cut-left (λ e. HoldLeaves turns names (word_at names 2) e old new) (MayWriteHeld turns names (word_at names 2) old new) (λ may. may) (λ may. may) (λ none. absurd none) (λ none. absurd none) (λ word same. inl same) (λ word place rule same. inl same) words ending status notes notes' f f' told cut leaves
cut-play Once names words ending status out out' old new notes notes' f f' told cut leaves = leaves
cut-play Run names words ending status out out' old new notes notes' f f' told cut leaves = leaves
cut-play Exec names words ending status out out' old new notes notes' f f' told cut leaves = leaves
cut-play (Resume turns) names words ending status out out' old new notes notes' f f' told cut leaves = leaves
cut-play (Sample workers) names words ending status out out' old new notes notes' f f' told cut leaves = leaves

cut-by : (found : Option Command) (names words : List (List ℕ)) (ending : Ending) (status : ℕ) (out out' : Option (List ℕ)) (old new : Option Files) (notes notes' : Option (List ℕ)) (f f' : ℕ) → Told words ending status notes notes' f f' → WasCut status →
    CommandLeaves found names ending out out' old new → CommandCut found names old new
cut-by (Some (command.Files work)) names words ending status out out' old new notes notes' f f' told cut leaves = cut-work work names words ending status old new notes notes' f f' told cut leaves
cut-by (Some (command.Play work)) names words ending status out out' old new notes notes' f f' told cut leaves = cut-play work names words ending status out out' old new notes notes' f f' told cut leaves
cut-by (Some command.Help) names words ending status out out' old new notes notes' f f' told cut leaves = leaves
cut-by (Some command.Version) names words ending status out out' old new notes notes' f f' told cut leaves = leaves
cut-by None names words ending status out out' old new notes notes' f f' told cut leaves = leaves

-- a command that was cut short may have written the first part of a file
pub cut_file : (words : List (List ℕ)) (ending : Ending) (status : ℕ) (out out' : Option (List ℕ)) (old new : Option Files) (notes notes' : Option (List ℕ)) (f f' : ℕ) → Told words ending status notes notes' f f' → WasCut status →
    FilesLeft words ending out out' old new → FilesCut words old new
cut_file words ending status out out' old new notes notes' f f' told cut left = cut-by (command_of words) (drop 1 words) words ending status out out' old new notes notes' f f' told cut left

-- ---- counts

-- a line that was written, or whose writing failed
noted-count : (line : List ℕ) (wanted status : ℕ) (before now : Option (List ℕ)) (f f' : ℕ) → Noted line wanted status before now f f' → wanted ≢ 4 → (status ≡ 4 → HasRisen f f') × ((status ≢ 1) → (status ≢ 4) → f' ≡ f)
noted-count line wanted status before now f f' (Ok done, is, writes, counts) other = (λ four. absurd (other (sym is ∙ four)), λ one four. counts)
noted-count line wanted status before now f f' (Err io.Failed, is, writes, counts) other = (λ four. counts, λ one four. absurd (four is))
noted-count line wanted status before now f f' (Err io.OutOfMemory, is, writes, counts) other = (λ four. absurd (omega arith), λ one four. absurd (one is))

not-four : (rule : Rule) → rule_status rule ≢ 4
not-four rule = λ is. absurd (let above = above-four rule in omega arith)

abbrev Risen : ℕ → ℕ → ℕ → ℕ → ℕ → ℕ → Type 0
Risen s s' f f' d d' = HasRisen s s' ⊎ HasRisen f f' ⊎ HasRisen d d'

pub not_written : (words : List (List ℕ)) (ending : Ending) (status : ℕ) (notes notes' : Option (List ℕ)) (s s' f f' d d' : ℕ) → CountsBoth ending s s' d d' → Told words ending status notes notes' f f' → status ≡ 4 → Risen s s' f f' d d'
not_written words Done status notes notes' s s' f f' d d' counts (is, silent, kept) four = absurd (omega arith)
not_written words OutOfMemory status notes notes' s s' f f' d d' counts (is, tried) four = absurd (omega arith)
not_written words WriteFault status notes notes' s s' f f' d d' (inl (risen, same)) told four = inl risen
not_written words WriteFault status notes notes' s s' f f' d d' (inr (same, risen)) told four = inr (inr risen)
not_written words Usage status notes notes' s s' f f' d d' counts told four = inr (inl ((noted-count _ 2 status notes notes' f f' told (λ is. absurd (omega arith))).0 four))
not_written words NotBuilt status notes notes' s s' f f' d d' counts told four = inr (inl ((noted-count _ 10 status notes notes' f f' told (λ is. absurd (omega arith))).0 four))
not_written words (ReadFault word) status notes notes' s s' f f' d d' counts (inl told) four = inr (inl ((noted-count _ 3 status notes notes' f f' told (λ is. absurd (omega arith))).0 four))
not_written words (ReadFault word) status notes notes' s s' f f' d d' counts (inr (is, tried)) four = absurd (omega arith)
not_written words (Refused word place rule) status notes notes' s s' f f' d d' counts (inl told) four = inr (inl ((noted-count _ _ status notes notes' f f' told (not-four rule)).0 four))
not_written words (Refused word place rule) status notes notes' s s' f f' d d' counts (inr (is, tried)) four = absurd (omega arith)

pub quiet : (words : List (List ℕ)) (ending : Ending) (status : ℕ) (notes notes' : Option (List ℕ)) (s s' f f' d d' : ℕ) → CountsBoth ending s s' d d' → Told words ending status notes notes' f f' → ¬ WasCut status →
    (s' ≡ s) × (f' ≡ f) × (d' ≡ d)
quiet words Done status notes notes' s s' f f' d d' counts (is, silent, kept) whole = (counts.0, kept, counts.1)
quiet words OutOfMemory status notes notes' s s' f f' d d' counts (is, tried) whole = absurd (whole (inl is))
quiet words WriteFault status notes notes' s s' f f' d d' counts (is, tried) whole = absurd (whole (inr is))
quiet words Usage status notes notes' s s' f f' d d' counts told whole = (counts.0, (noted-count _ 2 status notes notes' f f' told (λ is. absurd (omega arith))).1 (λ is. whole (inl is)) (λ is. whole (inr is)), counts.1)
quiet words NotBuilt status notes notes' s s' f f' d d' counts told whole = (counts.0, (noted-count _ 10 status notes notes' f f' told (λ is. absurd (omega arith))).1 (λ is. whole (inl is)) (λ is. whole (inr is)), counts.1)
quiet words (ReadFault word) status notes notes' s s' f f' d d' counts (inl told) whole = (counts.0, (noted-count _ 3 status notes notes' f f' told (λ is. absurd (omega arith))).1 (λ is. whole (inl is)) (λ is. whole (inr is)), counts.1)
quiet words (ReadFault word) status notes notes' s s' f f' d d' counts (inr (is, tried)) whole = absurd (whole (inl is))
quiet words (Refused word place rule) status notes notes' s s' f f' d d' counts (inl told) whole = (counts.0, (noted-count _ _ status notes notes' f f' told (not-four rule)).1 (λ is. whole (inl is)) (λ is. whole (inr is)), counts.1)
quiet words (Refused word place rule) status notes notes' s s' f f' d d' counts (inr (is, tried)) whole = absurd (whole (inl is))
