-- How many scripts, files and parts a sample has, and what its own bytes spell.
use Rattle.std.proofs.Common.{arith, ◌≡◌, ◌∙◌, ℕ, suc, ◌+◌, ◌≤◌, List, [], ◌∷◌, ◌++◌, map, length, sym, ap, subst}
use Rattle.std.specs.List.{range_with_len}
use Rattle.std.specs.Prelude.{Err, Some}
use Rattle.std.proofs.lemmas.List.{length-map, map-append}
use Rattle.std.proofs.lemmas.List.FromFn.{length-map-range_with_len, map-range_with_len_more}
use Rattle.core_tree.specs.declared.scene_tree.SceneTree.{SceneTree}
use Rattle.pex_codec.specs.Spells.{Spells}
use Rattle.pex_values.specs.Plain.{plain}
use Rattle.pex_values.specs.declared.values.Pex.{Pex}
use Rattle.pex_verify.specs.Files.{IsFile}
use Rattle.scene_reader.specs.Default.{call_plan, instance_plan}
use Rattle.command_files.specs.declared.compiled.CompiledSet.{CompiledSet}
use Rattle.command_files.specs.declared.source_texts.NamedText.{NamedText}
use Rattle.command_files.specs.Compiled.{HasFiles, spelled}
use Rattle.papy_base.specs.Bytes.{bytes_of}
use Rattle.command_files.specs.SourceTexts.{text_of}
use Rattle.scene_runner.specs.Report.{Closes, IsClosing}
use Rattle.stack_machine.specs.Machine.{MachineView}
use Rattle.core_tree.specs.declared.scene.Scene.{Scene}
use Rattle.command_files.specs.declared.ending.Ending.{Ending}
use Rattle.command_files.specs.declared.ending.Ending.TheVariants.{Done, OutOfMemory, Usage, ReadFault, WriteFault, Refused, NotBuilt}
use Rattle.run_commands.specs.Play.{HasFewParts, IsStarted, Starts}
use Rattle.run_commands.specs.Report.{IsClosingWithin, most_turns}
use Rattle.run_commands.specs.Sample.{EndsUnreported, IsSampleScene, sample_texts, start_plan, worker_plan, worker_text}

-- the hub's script and one for each worker
pub scripts_counted : (scripts : List NamedText) (workers : ℕ) → map text_of scripts ≡ sample_texts workers → length scripts ≡ workers + 1
scripts_counted scripts workers texts =
    let count : length (map text_of scripts) ≡ suc (length (map worker_text (range_with_len 0 workers))) = ap length texts in
    let mapped : length (map text_of scripts) ≡ length scripts = length-map scripts text_of in
    let ranged : length (map worker_text (range_with_len 0 workers)) ≡ workers = length-map-range_with_len worker_text 0 workers in
    omega arith

-- as many files as values
pub files_counted : (count : ℕ) (set : CompiledSet) → HasFiles count set → length set.files.items ≡ count
files_counted count set has =
    let bytes : length (map bytes_of set.files.items) ≡ length (map spelled set.judged.files) = ap length has.files.bytes in
    sym (length-map set.files.items bytes_of) ∙ bytes ∙ length-map set.judged.files spelled ∙ has.number

-- the hub and its workers, and one call for each worker
pub few_parts : (workers : ℕ) (tree : SceneTree) → workers ≤ 200 → IsSampleScene workers tree → HasFewParts tree
few_parts workers tree few scene =
    let instances : length (map instance_plan tree.instances.items) ≡ suc (length (map worker_plan (range_with_len 0 workers))) = ap length scene.instances in
    let mapped : length (map instance_plan tree.instances.items) ≡ length tree.instances.items = length-map tree.instances.items instance_plan in
    let ranged : length (map worker_plan (range_with_len 0 workers)) ≡ workers = length-map-range_with_len worker_plan 0 workers in
    let calls : length (map call_plan tree.calls.items) ≡ length (map start_plan (range_with_len 0 workers)) = ap length scene.calls in
    let called : length (map call_plan tree.calls.items) ≡ length tree.calls.items = length-map tree.calls.items call_plan in
    let started : length (map start_plan (range_with_len 0 workers)) ≡ workers = length-map-range_with_len start_plan 0 workers in
    record { few_instances = omega arith; few_calls = omega arith }

-- one more thing for the next number
pub one_more : {X Y : Type 0} (f : X → Y) (g : ℕ → Y) (before after : List X) (x : X) (number : ℕ) → after ≡ before ++ x ∷ [] → map f before ≡ map g (range_with_len 0 number) → f x ≡ g number →
    map f after ≡ map g (range_with_len 0 (number + 1))
one_more f g before after x number grown so_far is =
    let place : 0 + number ≡ number = omega arith in
    ap (map f) grown
    ∙ map-append f before (x ∷ [])
    ∙ ap (λ ys. ys ++ f x ∷ []) so_far
    ∙ ap (λ y. map g (range_with_len 0 number) ++ y ∷ []) is
    ∙ sym (map-range_with_len_more g 0 number number place)

-- the same behind the first
pub one_more_behind : {X Y : Type 0} (f : X → Y) (g : ℕ → Y) (first : Y) (before after : List X) (x : X) (number : ℕ) → after ≡ before ++ x ∷ [] →
    map f before ≡ first ∷ map g (range_with_len 0 number) → f x ≡ g number → map f after ≡ first ∷ map g (range_with_len 0 (number + 1))
one_more_behind f g first before after x number grown so_far is =
    let place : 0 + number ≡ number = omega arith in
    ap (map f) grown
    ∙ map-append f before (x ∷ [])
    ∙ ap (λ ys. ys ++ f x ∷ []) so_far
    ∙ ap (λ ys. first ∷ ys) (ap (λ y. map g (range_with_len 0 number) ++ y ∷ []) is ∙ sym (map-range_with_len_more g 0 number number place))

pub decoded_is_file : (bytes : List ℕ) (value : Pex) → Spells (plain value) bytes → IsFile value
decoded_is_file bytes value spells = record { shaped = spells.shaped; fits = spells.fits }

-- ---- the run

-- a sample whose machine can't be started
pub unstarted_ends : (tree : SceneTree) (ending : Ending) → Starts tree 0 (Err ending) → EndsUnreported ending
unstarted_ends tree (Refused word place rule) starts = starts
unstarted_ends tree OutOfMemory starts = tt
unstarted_ends tree Done starts = absurd starts
unstarted_ends tree Usage starts = absurd starts
unstarted_ends tree WriteFault starts = absurd starts
unstarted_ends tree NotBuilt starts = absurd starts
unstarted_ends tree (ReadFault word) starts = absurd starts

closing-behind-nothing : (turns : ℕ) (text : List ℕ) → Closes turns (Some []) (Some text) → IsClosing turns text
closing-behind-nothing turns text closes = let is : closes.text ≡ text = cc in subst (IsClosing turns) is closes.closing

-- a closing report that was written to an empty sink
pub closing_alone : (turns : ℕ) (before text : List ℕ) → before ≡ [] → Closes turns (Some before) (Some text) → IsClosing turns text
closing_alone turns before text none closes = closing-behind-nothing turns text (subst (λ (bytes : List ℕ). Closes turns (Some bytes) (Some text)) none closes)

pub closes_within : (workers : ℕ) (tree : SceneTree) (first machine : MachineView) (text : List ℕ) → IsSampleScene workers tree → IsStarted tree first → machine.scene ≡ first.scene → machine.turns ≤ machine.scene.turns →
    IsClosing machine.turns text → IsClosingWithin most_turns text
closes_within workers tree first machine text sample started same within closing =
    let turns : machine.scene.turns ≡ tree.turns = ap (λ (s : Scene). s.turns) same ∙ started.kept.turns in
    record { turns = machine.turns; within = omega (arith, sample.turns); closing = closing }
