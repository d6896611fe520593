-- How `resume` ends.
use Rattle.std.proofs.Common.{arith, ◌≡◌, ◌≢◌, ◌≤◌, ◌<◌, ◌+◌, ◌∙◌, ℕ, suc, List, [], ◌∷◌, ◌++◌, length, map, take, refl, sym, ap, inl, inr, append-nil, append_assoc}
use Rattle.std.proofs.Math.Seq.{take-append_seam}
use Rattle.std.proofs.lemmas.List.{length-map}
use Rattle.std.proofs.lemmas.List.Elements.{All-cons, All-nil}
use Rattle.std.specs.Prelude.{All, Option, None, Some, Result, Ok, Err, IfOk, IfSome}
use Rattle.std.specs.List.{AllZip}
use Rattle.std.specs.declared.alloc.Global.{Global}
use Rattle.std.specs.declared.vec.Vec.{Vec}
use Rattle.machine_state.specs.Plain.{plain, plain_device}
use Rattle.papy_io.specs.Files.{Files}
use Rattle.papy_io.specs.Sink.{Appended}
use Rattle.pex_values.specs.declared.values.Pex.{Pex}
use Rattle.pex_verify.specs.Files as verified
use Rattle.scene_runner.specs.Report.{Closes, IsClosing, IsReport, turns_line}
use Rattle.scene_runner.proofs.Appending.{reports_behind}
use Rattle.papy_io.proofs.Appending.{appends_nothing}
use Rattle.stack_machine.specs.Written.{AppendsLines}
use Rattle.stack_machine.specs.declared.status.TurnFault.{TurnFault}
use Rattle.stack_save.specs.Held.{HasLayout, IsFile, IsHeld, LoadGives, limit}
use Rattle.stack_save.specs.declared.fault.HeldFault.{HeldFault}
use Rattle.stack_save.specs.declared.fault.HeldFault.TheVariants as held
use Rattle.stack_save.specs.declared.fault.HeldRule.{HeldRule}
use Rattle.stack_save.specs.declared.fault.HeldRule.TheVariants.{TooLarge, BadMagic, BadLayout, BadFiles, BadScene, BadState, OtherDevices}
use Rattle.stack_save.specs.declared.loading.Held.{Held}
use Rattle.command_files.specs.declared.ending.Ending.{Ending}
use Rattle.command_files.specs.declared.ending.Ending.TheVariants.{Done, OutOfMemory, Usage, ReadFault, WriteFault, Refused, NotBuilt}
use Rattle.command_files.specs.declared.file_fault.FileFault.{FileFault}
use Rattle.command_files.specs.declared.file_fault.FileFault.TheVariants as file
use Rattle.command_files.specs.declared.refusal.Place.{Place}
use Rattle.command_files.specs.declared.refusal.Place.TheVariants.{Whole}
use Rattle.command_files.specs.declared.refusal.Rule.{Rule}
use Rattle.command_files.specs.declared.refusal.Rule.TheVariants as rule
use Rattle.command_files.specs.Ending.{CountsReads, CountsWrites, IsWordBelow, word_at}
use Rattle.command_files.specs.FileFault.{CountsFile, MissesFile, ending_at}
use Rattle.command_files.specs.Outputs.{AnswersTo, IsPart, Outputs}
use Rattle.command_files.specs.TextFile.{ReadsText}
use Rattle.run_commands.specs.Answers.{ResumeAnswers}
use Rattle.run_commands.specs.Program.{MissesRead}
use Rattle.run_commands.specs.Resume.{Breaks, GoesOn, IsBehindLoading, IsHeldAt, IsLate, IsReady, IsRest, LoadsHeld, ReadsHeld, RefusesHeld, Resumes, held_ending}

-- ---- a held file that was read or not

pub load_refuses : (bytes : List ℕ) (by : HeldRule) → LoadGives bytes (Err (held.Broken by)) → RefusesHeld bytes Whole (rule.Held by)
load_refuses bytes TooLarge gives = record { by = TooLarge; place_is = refl; rule_is = refl; breaks = gives }
load_refuses bytes BadMagic gives = record { by = BadMagic; place_is = refl; rule_is = refl; breaks = gives }
load_refuses bytes BadLayout gives = record { by = BadLayout; place_is = refl; rule_is = refl; breaks = gives }
load_refuses bytes BadFiles gives = record { by = BadFiles; place_is = refl; rule_is = refl; breaks = gives }
load_refuses bytes BadScene gives = absurd gives
load_refuses bytes BadState gives = absurd gives
load_refuses bytes OtherDevices gives = absurd gives

pub held_unread : (holds : Option Files) (name : List ℕ) (fault : FileFault) → ReadsText holds name 67108864 Whole (rule.Held TooLarge) (Err fault) → ReadsHeld holds name (Err fault)
held_unread None name (file.Refused place broken) read = tt
held_unread None name file.OutOfMemory read = tt
held_unread None name file.ReadFault read = tt
held_unread (Some files) name (file.Refused place broken) (bytes, told, past, place_is, rule_is) = (bytes, told, record { by = TooLarge; place_is = place_is; rule_is = rule_is; breaks = past })
held_unread (Some files) name file.OutOfMemory read = tt
held_unread (Some files) name file.ReadFault read = tt

pub held_loaded : (holds : Option Files) (name : List ℕ) (bytes : Vec ℕ Global) (result : Result Held FileFault) → ReadsText holds name 67108864 Whole (rule.Held TooLarge) (Ok bytes) → LoadsHeld bytes.items result → ReadsHeld holds name result
held_loaded None name bytes result read loads = tt
held_loaded (Some files) name bytes (Ok found) read loads = (bytes.items, read.1, loads.0, loads.1)
held_loaded (Some files) name bytes (Err (file.Refused place broken)) read loads = (bytes.items, read.1, loads)
held_loaded (Some files) name bytes (Err file.OutOfMemory) read loads = tt
held_loaded (Some files) name bytes (Err file.ReadFault) read loads = absurd loads

-- ---- endings

pub late_resumes : (from most : ℕ) (fault : HeldFault) (written : Option (List ℕ)) → IsLate fault → Resumes from most (held_ending fault) written written
late_resumes from most (held.Broken by) written late = (refl, (by, refl, refl, refl, late))
late_resumes from most held.OutOfMemory written late = appends_nothing written written refl

pub late_writes : (fault : HeldFault) (count : ℕ) → CountsWrites (held_ending fault) count count
late_writes (held.Broken by) count = refl
late_writes held.OutOfMemory count = refl

pub went_on : {T : Type 0} (result : Result T TurnFault) (from turns most : ℕ) (before between now : Option (List ℕ)) → from ≤ turns → turns ≤ from + most → AppendsLines before between → IfOk result (λ _. Closes turns between now) → IfOk result (λ _. GoesOn from most before now)
went_on (Ok value) from turns most before between now on within appends closes =
    record { turns = turns; on = on; within = within; reports = reports_behind (Ok value) turns before between now appends closes }
went_on (Err fault) from turns most before between now on within appends closes = tt

-- ---- what it doesn't do

pub resume_reads : (from most : ℕ) (ending : Ending) (written written' : Option (List ℕ)) (before now : ℕ) → Resumes from most ending written written' → now ≡ before → CountsReads ending before now
resume_reads from most (Refused word place broken) written written' before now resumes same = same
resume_reads from most (ReadFault word) written written' before now resumes same = absurd resumes
resume_reads from most OutOfMemory written written' before now resumes same = same
resume_reads from most WriteFault written written' before now resumes same = same
resume_reads from most Done written written' before now resumes same = same
resume_reads from most Usage written written' before now resumes same = same
resume_reads from most NotBuilt written written' before now resumes same = same

pub resume_misses : (from most first : ℕ) (words : List (List ℕ)) (ending : Ending) (written written' missed : Option (List ℕ)) → Resumes from most ending written written' → MissesRead 2 first words ending missed
resume_misses from most first words (Refused word place broken) written written' missed resumes = tt
resume_misses from most first words (ReadFault word) written written' missed resumes = absurd resumes
resume_misses from most first words OutOfMemory written written' missed resumes = tt
resume_misses from most first words WriteFault written written' missed resumes = tt
resume_misses from most first words Done written written' missed resumes = tt
resume_misses from most first words Usage written written' missed resumes = tt
resume_misses from most first words NotBuilt written written' missed resumes = tt

pub resume_is_no_usage : (from most : ℕ) (ending : Ending) (written written' : Option (List ℕ)) → Resumes from most ending written written' → ending ≢ Usage
resume_is_no_usage from most (Refused word place broken) written written' resumes = λ is. cc
resume_is_no_usage from most (ReadFault word) written written' resumes = λ is. cc
resume_is_no_usage from most OutOfMemory written written' resumes = λ is. cc
resume_is_no_usage from most WriteFault written written' resumes = λ is. cc
resume_is_no_usage from most Done written written' resumes = λ is. cc
resume_is_no_usage from most Usage written written' resumes = λ is. resumes
resume_is_no_usage from most NotBuilt written written' resumes = λ is. cc

pub resume_word : (from most count : ℕ) (ending : Ending) (written written' : Option (List ℕ)) → 2 < count → Resumes from most ending written written' → IsWordBelow count ending
resume_word from most count (Refused word place broken) written written' within (same, (by, word_is, place_is, rule_is, late)) = omega (arith, word_is)
resume_word from most count (ReadFault word) written written' within resumes = absurd resumes
resume_word from most count OutOfMemory written written' within resumes = tt
resume_word from most count WriteFault written written' within resumes = tt
resume_word from most count Done written written' within resumes = tt
resume_word from most count Usage written written' within resumes = tt
resume_word from most count NotBuilt written written' within resumes = tt

-- a file that wasn't read
pub unread_held : (words : List (List ℕ)) (first : ℕ) (name bytes : List ℕ) (fault : FileFault) (missed : Option (List ℕ)) → 1 < length words → word_at words 1 ≡ name → bytes ≡ name → MissesFile {T = Held} bytes (Err fault) missed → MissesRead 2 first words (ending_at 2 fault) missed
unread_held words first name bytes file.ReadFault missed within named are misses = (1, refl, within, inl refl, misses ∙ ap Some (are ∙ sym named))
unread_held words first name bytes file.OutOfMemory missed within named are misses = tt
unread_held words first name bytes (file.Refused place broken) missed within named are misses = tt

pub unread_counts : (fault : FileFault) (before now : ℕ) → CountsFile {T = Held} (Err fault) before now → CountsReads (ending_at 2 fault) before now
unread_counts file.ReadFault before now counts = counts
unread_counts file.OutOfMemory before now counts = counts
unread_counts (file.Refused place broken) before now counts = counts

pub unread_writes : (fault : FileFault) (count : ℕ) → CountsWrites (ending_at 2 fault) count count
unread_writes file.ReadFault count = refl
unread_writes file.OutOfMemory count = refl
unread_writes (file.Refused place broken) count = refl

pub unread_is_no_usage : (fault : FileFault) → ending_at 2 fault ≢ Usage
unread_is_no_usage file.ReadFault = λ is. cc
unread_is_no_usage file.OutOfMemory = λ is. cc
unread_is_no_usage (file.Refused place broken) = λ is. cc

pub unread_word : (count : ℕ) (fault : FileFault) → 2 < count → IsWordBelow count (ending_at 2 fault)
unread_word count file.ReadFault within = within
unread_word count file.OutOfMemory within = tt
unread_word count (file.Refused place broken) within = within

appended-nothing : (written : Option (List ℕ)) → Appended [] written written
appended-nothing None = refl
appended-nothing (Some text) = ap Some (sym (append-nil text))

pub unread_outputs : (most : ℕ) (holds : Option Files) (name : List ℕ) (fault : FileFault) (written : Option (List ℕ)) → ReadsHeld holds name (Err fault) → Outputs (AnswersTo (ResumeAnswers most) name) holds (ending_at 2 fault) written written
unread_outputs most holds name file.ReadFault written read = refl
unread_outputs most None name file.OutOfMemory written read = ([], appended-nothing written, tt)
unread_outputs most (Some files) name file.OutOfMemory written read = ([], appended-nothing written, inl refl)
unread_outputs most None name (file.Refused place broken) written read = inl (refl, tt)
unread_outputs most (Some files) name (file.Refused place broken) written (bytes, told, refused) = inl (refl, (bytes, told, (refl, refused, refl)))

-- ---- what it has written

held-at : (bytes : List ℕ) (found : Held) → IsHeld bytes found → IsHeldAt found.state.turn bytes
held-at bytes found (values, spells, files) = record { values = values; scene = found.scene.items; state = plain found.state; turns_are = refl; spells = spells }

has-layout : (bytes : List ℕ) (found : Held) → IsHeld bytes found → HasLayout bytes
has-layout bytes found (values, spells, files) = (values, found.scene.items, plain found.state, spells)

breaks-late : (bytes : List ℕ) (by : HeldRule) → IsBehindLoading by → length bytes ≤ limit → HasLayout bytes → Breaks bytes by
breaks-late bytes TooLarge late few layout = absurd late
breaks-late bytes BadMagic late few layout = absurd late
breaks-late bytes BadLayout late few layout = absurd late
breaks-late bytes BadFiles late few layout = (few, layout)
breaks-late bytes BadScene late few layout = (few, layout)
breaks-late bytes BadState late few layout = (few, layout)
breaks-late bytes OtherDevices late few layout = (few, layout)

-- bytes that a report of a held run may begin with
rest-behind : (most : ℕ) (bytes : List ℕ) (found : Held) (part : List ℕ) → IsHeld bytes found → IsRest most bytes (part ++ 10 ∷ [] ++ turns_line found.state.turn)
rest-behind most bytes found part is =
    let closing : IsClosing found.state.turn (turns_line found.state.turn) = record { rest = []; are_lines = inl refl; text_is = sym (append-nil (turns_line found.state.turn)) } in
    let report : IsReport found.state.turn (part ++ 10 ∷ [] ++ turns_line found.state.turn) = record { lines = part ++ 10 ∷ []; closing = turns_line found.state.turn; are_lines = inr (part, refl); closes = closing; text_is = refl } in
    record { from = found.state.turn; turns = found.state.turn; held = held-at bytes found is; on = omega arith; within = omega arith; report = report }

part-of : (most : ℕ) (holds : Option Files) (name : List ℕ) (found : Held) (part : List ℕ) → ReadsHeld holds name (Ok found) → IfSome holds (λ files. IsPart (AnswersTo (ResumeAnswers most) name files) part)
part-of most None name found part read = tt
part-of most (Some files) name found part (bytes, told, few, is) =
    let behind : List ℕ = 10 ∷ turns_line found.state.turn in
    let whole : part ++ 10 ∷ [] ++ turns_line found.state.turn ≡ part ++ behind = append_assoc part (10 ∷ []) (turns_line found.state.turn) in
    inr (part ++ 10 ∷ [] ++ turns_line found.state.turn, length part, (bytes, told, rest-behind most bytes found part is), sym (take-append_seam part behind) ∙ sym (ap (take (length part)) whole))

done-of : (most : ℕ) (holds : Option Files) (name : List ℕ) (found : Held) (before now : Option (List ℕ)) (on : GoesOn found.state.turn most before now) → ReadsHeld holds name (Ok found) → IfSome holds (λ files. AnswersTo (ResumeAnswers most) name files Done on.reports.text)
done-of most None name found before now on read = tt
done-of most (Some files) name found before now on (bytes, told, few, is) =
    (bytes, told, record { from = found.state.turn; turns = on.turns; held = held-at bytes found is; on = on.on; within = on.within; report = on.reports.report })

refused-of : (most : ℕ) (holds : Option Files) (name : List ℕ) (found : Held) (word : ℕ) (place : Place) (broken : Rule) (by : HeldRule) → word ≡ 2 → place ≡ Whole → broken ≡ rule.Held by → IsBehindLoading by → ReadsHeld holds name (Ok found) →
    IfSome holds (λ files. AnswersTo (ResumeAnswers most) name files (Refused word place broken) [])
refused-of most None name found word place broken by word_is place_is rule_is late read = tt
refused-of most (Some files) name found word place broken by word_is place_is rule_is late (bytes, told, few, is) =
    (bytes, told, (word_is, record { by = by; place_is = place_is; rule_is = rule_is; breaks = breaks-late bytes by late few (has-layout bytes found is) }, refl))

pub resume_outputs : (most : ℕ) (holds : Option Files) (name : List ℕ) (found : Held) (ending : Ending) (before now : Option (List ℕ)) → ReadsHeld holds name (Ok found) → Resumes found.state.turn most ending before now → Outputs (AnswersTo (ResumeAnswers most) name) holds ending before now
resume_outputs most holds name found Done before now read on = (on.reports.text, on.reports.appended, done-of most holds name found before now on read)
resume_outputs most holds name found OutOfMemory before now read appends = (appends.bytes, appends.appended, part-of most holds name found appends.bytes read)
resume_outputs most holds name found WriteFault before now read appends = (appends.bytes, appends.appended, part-of most holds name found appends.bytes read)
resume_outputs most holds name found (Refused word place broken) before now read (same, (by, word_is, place_is, rule_is, late)) = inl (same, refused-of most holds name found word place broken by word_is place_is rule_is late read)
resume_outputs most holds name found NotBuilt before now read resumes = absurd resumes
resume_outputs most holds name found Usage before now read resumes = absurd resumes
resume_outputs most holds name found (ReadFault word) before now read resumes = absurd resumes

-- ---- what a held file has

is-file : (bytes : List ℕ) (value : Pex) → IsFile bytes value → verified.IsFile value
is-file bytes value decoded = record { shaped = decoded.shaped; fits = decoded.fits }

-- each file of one is verified by itself
files-valid : (files : List (List ℕ)) (values : List Pex) → AllZip IsFile files values → All verified.IsFile values
files-valid [] [] each = All-nil verified.IsFile
files-valid [] (value ∷ values) each = absurd each
files-valid (bytes ∷ files) [] each = absurd each
files-valid (bytes ∷ files) (value ∷ values) each = All-cons verified.IsFile value values (is-file bytes value each.0) (files-valid files values each.1)

as-many : (files : List (List ℕ)) (values : List Pex) → AllZip IsFile files values → length values ≡ length files
as-many [] [] each = refl
as-many [] (value ∷ values) each = absurd each
as-many (bytes ∷ files) [] each = absurd each
as-many (bytes ∷ files) (value ∷ values) each = ap suc (as-many files values each.1)

pub held_is_ready : (bytes : List ℕ) (found : Held) → IsHeld bytes found → IsReady found
held_is_ready bytes found (values, spells, each) =
    let many : length found.files.items ≡ length values = as-many values found.files.items each in
    let devices : length (map plain_device found.state.devices.items) ≡ length found.state.devices.items = length-map found.state.devices.items plain_device in
    record { few = omega (arith, spells.fit.count, many); valid = files-valid values found.files.items each; few_devices = omega (arith, spells.savable.devices, devices) }
