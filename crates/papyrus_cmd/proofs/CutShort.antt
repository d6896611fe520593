-- What was written by a command that was cut short.
use Rattle.std.proofs.Common.{arith, ◌≡◌, ◌≢◌, inl, inr, ℕ, List, [], refl}
use Rattle.std.specs.Prelude.{Option, None, Some, IfSome}
use Rattle.papy_io.specs.Files.{Files}
use Rattle.command_files.specs.declared.ending.Ending.{Ending}
use Rattle.command_files.specs.declared.ending.Ending.TheVariants.{Done, OutOfMemory, Usage, ReadFault, WriteFault, Refused, NotBuilt}
use Rattle.command_files.specs.Outputs.{IsPart, Outputs}
use Rattle.papyrus_cmd.specs.Answers.{Answers}
use Rattle.command_files.specs.Ending.{note_of}
use Rattle.papyrus_cmd.specs.TopCall.{CutShort, Told, Tried, WasCut}
use Rattle.papyrus_cmd.proofs.NotedLines.{tried_line}
use Rattle.papy_io.proofs.Appending.{appended_nothing}

nothing_is_part : (words : List (List ℕ)) (holds : Option Files) → IfSome holds (λ files. IsPart (Answers words files) [])
nothing_is_part words None = tt
nothing_is_part words (Some files) = inl refl

not_cut : (status : ℕ) → WasCut status → status ≢ 1 → status ≢ 4 → ⊥
not_cut status (inl one) memory written = memory one
not_cut status (inr four) memory written = written four

-- a command that had written nothing before its line was cut short
silently_cut : (words : List (List ℕ)) (holds : Option Files) (ending : Ending) (out out' notes notes' : Option (List ℕ)) →
    out' ≡ out → Tried (note_of words ending) notes notes' → CutShort words holds out out' notes notes'
silently_cut words holds ending out out' notes notes' same (n, tried) =
    record { part = []; ending = ending; length_noted = n; out = appended_nothing out out' same; notes = tried; is_part = nothing_is_part words holds }

pub cut_short : (words : List (List ℕ)) (holds : Option Files) (ending : Ending) (status : ℕ) (out out' notes notes' : Option (List ℕ)) (f f' : ℕ) →
    Outputs (Answers words) holds ending out out' → Told words ending status notes notes' f f' → WasCut status → CutShort words holds out out' notes notes'
cut_short words holds Done status out out' notes notes' f f' outputs (is, silent, kept) cut = absurd (not_cut status cut (omega arith) (omega arith))
cut_short words holds OutOfMemory status out out' notes notes' f f' (part, appended, is_part) (is, (n, tried)) cut =
    record { part = part; ending = OutOfMemory; length_noted = n; out = appended; notes = tried; is_part = is_part }
cut_short words holds WriteFault status out out' notes notes' f f' (part, appended, is_part) (is, (n, tried)) cut =
    record { part = part; ending = WriteFault; length_noted = n; out = appended; notes = tried; is_part = is_part }
cut_short words holds Usage status out out' notes notes' f f' (same, ends) (wrote, is, writes, counts) cut =
    silently_cut words holds Usage out out' notes notes' same (tried_line wrote _ notes notes' writes)
cut_short words holds NotBuilt status out out' notes notes' f f' (same, ends) (wrote, is, writes, counts) cut =
    silently_cut words holds NotBuilt out out' notes notes' same (tried_line wrote _ notes notes' writes)
cut_short words holds (ReadFault word) status out out' notes notes' f f' same (inl (wrote, is, writes, counts)) cut =
    silently_cut words holds (ReadFault word) out out' notes notes' same (tried_line wrote _ notes notes' writes)
cut_short words holds (ReadFault word) status out out' notes notes' f f' same (inr (is, tried)) cut =
    silently_cut words holds OutOfMemory out out' notes notes' same tried
cut_short words holds (Refused word place rule) status out out' notes notes' f f' (inl (same, ends)) (inl (wrote, is, writes, counts)) cut =
    silently_cut words holds (Refused word place rule) out out' notes notes' same (tried_line wrote _ notes notes' writes)
cut_short words holds (Refused word place rule) status out out' notes notes' f f' (inl (same, ends)) (inr (is, tried)) cut =
    silently_cut words holds OutOfMemory out out' notes notes' same tried
cut_short words holds (Refused word place rule) status out out' notes notes' f f' (inr late) (inl (wrote, is, writes, counts)) cut =
    let tried : Tried (note_of words (Refused word place rule)) notes notes' = tried_line wrote _ notes notes' writes in
    record { part = late.text; ending = Refused word place rule; length_noted = tried.0; out = late.appended; notes = tried.1; is_part = late.part }
cut_short words holds (Refused word place rule) status out out' notes notes' f f' (inr late) (inr (is, (n, tried))) cut =
    record { part = late.text; ending = OutOfMemory; length_noted = n; out = late.appended; notes = tried; is_part = late.part }
