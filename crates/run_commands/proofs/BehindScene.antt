-- A command whose first word names a scene, behind which scripts or compiled files stand.
use Rattle.std.proofs.Common.{arith, ◌≡◌, ◌<◌, ◌≤◌, ◌+◌, ◌-◌, ◌∙◌, ℕ, suc, List, [], ◌∷◌, map, take, drop, length, refl, sym, ap, subst, inl, inr, slice_index_or, String, Global}
use Rattle.std.proofs.lemmas.Grind.{common_steps}
use Rattle.std.specs.Prelude.{Option, None, Some, Ok, Err, IfSome}
use Rattle.std.specs.String.{string_bytes}
use Rattle.core_tree.specs.declared.scene_tree.SceneTree.{SceneTree}
use Rattle.papy_io.specs.Files.{Files}
use Rattle.command_files.specs.declared.ending.Ending.{Ending}
use Rattle.command_files.specs.declared.ending.Ending.TheVariants.{Done, OutOfMemory, Usage, ReadFault, WriteFault, Refused, NotBuilt}
use Rattle.command_files.specs.declared.file_fault.FileFault.{FileFault}
use Rattle.command_files.specs.declared.file_fault.FileFault.TheVariants as file
use Rattle.command_files.specs.declared.refusal.Place.{Place}
use Rattle.command_files.specs.declared.refusal.Rule.{Rule}
use Rattle.command_files.specs.Ending.{CountsReads, IsWordBelow, MissesScript, one_later}
use Rattle.command_files.specs.FileFault.{CountsFile, MissesFile, ending_at}
use Rattle.command_files.specs.Held.{IsHeld}
use Rattle.command_files.specs.SceneFile.{IsSceneRefusal, ReadsScene}
use Rattle.command_files.specs.Scripts.{EndsOnScripts, HoldScripts}
use Rattle.run_commands.specs.Answers.{OnceAnswers, RefusesBehind, RunAnswers}
use Rattle.run_commands.specs.Play.{RefusesScene}
use Rattle.run_commands.specs.Report.{default_turns, most_turns}
use Rattle.run_commands.proofs.EarlyEnds.{EndsEarly, later_word, word_within}
use Rattle.run_commands.proofs.RunEnds.{AnswersRun}

-- the names that stand behind the first
abbrev pub names_behind : List (String Global) → List (List ℕ)
names_behind files = map string_bytes (take (length files - 1) (drop 1 files))

all-behind : (file : String Global) (files : List (String Global)) → files ≡ take (length (file ∷ files) - 1) (drop 1 (file ∷ files))
all-behind file files = grind (arith, common_steps)

pub names_split : (files : List (String Global)) (scene : String Global) → 0 < length files → scene ≡ slice_index_or files 0 scene → map string_bytes files ≡ string_bytes scene ∷ names_behind files
names_split [] scene some is = absurd (omega arith)
names_split (file ∷ files) scene some is =
    ap (λ s. string_bytes s ∷ map string_bytes files) (sym is) ∙ ap (λ others. string_bytes scene ∷ map string_bytes others) (all-behind file files)

behind-count : (files : List (String Global)) → 0 < length files → length (take (length files - 1) (drop 1 files)) + 1 ≡ length files
behind-count [] some = absurd (omega arith)
behind-count (file ∷ files) some =
    let as_many : length files ≡ length (take (length (file ∷ files) - 1) (drop 1 (file ∷ files))) = ap length (all-behind file files) in omega arith

-- words of those names, as they stand behind the scene
pub behind_word : (files : List (String Global)) (ending : Ending) → 0 < length files → IsWordBelow (length (take (length files - 1) (drop 1 files)) + 1) ending →
    IsWordBelow (length files + 1) (one_later ending)
behind_word files ending some below =
    let count = behind-count files some in
    let P : ℕ → Type 0 = λ n. IsWordBelow (n + 1) (one_later ending) in
    subst P count (later_word _ ending below)

pub word_fits : (files : List (String Global)) (ending : Ending) → 0 < length files → length files ≤ 257 → IsWordBelow (length (take (length files - 1) (drop 1 files)) + 1) ending →
    IsWordBelow 65535 ending
word_fits files ending some few below =
    let count = behind-count files some in word_within _ 65535 ending (omega (arith, count)) below

-- ---- a scene that was not read

pub scene_reads : (fault : FileFault) (before now : ℕ) → CountsFile {T = SceneTree} (Err fault) before now → CountsReads (ending_at 1 fault) before now
scene_reads file.ReadFault before now counts = counts
scene_reads file.OutOfMemory before now counts = counts
scene_reads (file.Refused place rule) before now counts = counts

pub scene_missed : (scene : List ℕ) (names : List (List ℕ)) (fault : FileFault) (missed : Option (List ℕ)) (bytes : List ℕ) → bytes ≡ scene → MissesFile {T = SceneTree} bytes (Err fault) missed →
    MissesScript (scene ∷ names) (ending_at 1 fault) missed
scene_missed scene names file.ReadFault missed bytes are misses = (0, refl, omega arith, misses ∙ ap Some are)
scene_missed scene names file.OutOfMemory missed bytes are misses = tt
scene_missed scene names (file.Refused place rule) missed bytes are misses = tt

pub scene_word : (count : ℕ) (fault : FileFault) → 1 < count → IsWordBelow count (ending_at 1 fault)
scene_word count file.ReadFault within = within
scene_word count file.OutOfMemory within = tt
scene_word count (file.Refused place rule) within = within

refused-scene : (place : Place) (rule : Rule) → IsSceneRefusal place rule → RefusesScene 1 1 place rule
refused-scene place rule refusal = record { word_is = refl; refusal = refusal }

pub scene_ends_run : (scene : List ℕ) (names : List (List ℕ)) (holds : Option Files) (fault : FileFault) → ReadsScene {T = SceneTree} holds scene (Err fault) →
    EndsEarly (RunAnswers (scene ∷ names)) holds (ending_at 1 fault)
scene_ends_run scene names holds file.ReadFault read = tt
scene_ends_run scene names holds file.OutOfMemory read = tt
scene_ends_run scene names None (file.Refused place rule) read = tt
scene_ends_run scene names (Some files) (file.Refused place rule) read = (read.0, inl (refused-scene place rule read.1), refl)

pub scene_is_held : (holds : Option Files) (scene : List ℕ) (tree : SceneTree) → ReadsScene holds scene (Ok tree) → IfSome holds (IsHeld scene)
scene_is_held None scene tree read = tt
scene_is_held (Some files) scene tree read = read

-- ---- what stands behind it

pub later_misses : (scene : List ℕ) (names : List (List ℕ)) (ending : Ending) (missed : Option (List ℕ)) → MissesScript names ending missed → MissesScript (scene ∷ names) (one_later ending) missed
later_misses scene names (ReadFault word) missed (place, word_is, within, is) = (suc place, ap suc word_is, omega arith, is)
later_misses scene names (Refused word place rule) missed misses = tt
later_misses scene names OutOfMemory missed misses = tt
later_misses scene names Done missed misses = tt
later_misses scene names Usage missed misses = tt
later_misses scene names WriteFault missed misses = tt
later_misses scene names NotBuilt missed misses = tt

pub scripts_end_run : (scene : List ℕ) (names : List (List ℕ)) (holds : Option Files) (ending : Ending) → IfSome holds (IsHeld scene) → EndsOnScripts names holds ending →
    EndsEarly (RunAnswers (scene ∷ names)) holds (one_later ending)
scripts_end_run scene names None (Refused word place rule) held ends = tt
scripts_end_run scene names (Some files) (Refused word place rule) held ends =
    let behind : RefusesBehind names files (suc word) place rule = record { script = word; word_is = refl; refused = ends } in (held, inr behind, refl)
scripts_end_run scene names holds (ReadFault word) held ends = tt
scripts_end_run scene names holds OutOfMemory held ends = tt
scripts_end_run scene names holds Done held ends = absurd ends
scripts_end_run scene names holds Usage held ends = absurd ends
scripts_end_run scene names holds WriteFault held ends = absurd ends
scripts_end_run scene names holds NotBuilt held ends = absurd ends

-- scripts that stand behind no scene
pub scripts_end_once : (names : List (List ℕ)) (holds : Option Files) (ending : Ending) → EndsOnScripts names holds ending → EndsEarly (OnceAnswers names) holds ending
scripts_end_once names None (Refused word place rule) ends = tt
scripts_end_once names (Some files) (Refused word place rule) ends = (inl ends, refl)
scripts_end_once names holds (ReadFault word) ends = tt
scripts_end_once names holds OutOfMemory ends = tt
scripts_end_once names holds Done ends = absurd ends
scripts_end_once names holds Usage ends = absurd ends
scripts_end_once names holds WriteFault ends = absurd ends
scripts_end_once names holds NotBuilt ends = absurd ends

-- ---- runs of files that are held

pub once_answers_run : (names : List (List ℕ)) (holds : Option Files) → IfSome holds (HoldScripts names) → IfSome holds (AnswersRun (OnceAnswers names) default_turns 0)
once_answers_run names None held = tt
once_answers_run names (Some files) held = record { done = λ text report. (held, report); refused = λ word place rule refuses. (inr (refuses, held), refl) }

pub once_unbuilt : (names : List (List ℕ)) (holds : Option Files) → IfSome holds (HoldScripts names) → IfSome holds (λ files. OnceAnswers names files NotBuilt [])
once_unbuilt names None held = tt
once_unbuilt names (Some files) held = (held, refl)

pub run_answers_run : (scene : List ℕ) (names : List (List ℕ)) (holds : Option Files) → IfSome holds (IsHeld scene) → IfSome holds (HoldScripts names) →
    IfSome holds (AnswersRun (RunAnswers (scene ∷ names)) most_turns 1)
run_answers_run scene names None held behind = tt
run_answers_run scene names (Some files) held behind =
    record { done = λ text report. (held, behind, report); refused = λ word place rule refuses. (held, inl refuses, refl) }

pub run_unbuilt : (scene : List ℕ) (names : List (List ℕ)) (holds : Option Files) → IfSome holds (IsHeld scene) → IfSome holds (HoldScripts names) →
    IfSome holds (λ files. RunAnswers (scene ∷ names) files NotBuilt [])
run_unbuilt scene names None held behind = tt
run_unbuilt scene names (Some files) held behind = (held, behind, refl)
