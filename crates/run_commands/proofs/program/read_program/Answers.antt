use Rattle.std.proofs.Common.{arith, ◌≡◌, ◌≤◌, ◌+◌, ◌∙◌, ℕ, map, length, sym, ap}
use Rattle.std.specs.Prelude.{vec_len}
use Rattle.std.specs.declared.alloc.Global.{Global}
use Rattle.std.specs.declared.vec.Vec.{Vec}
use Rattle.std.proofs.lemmas.List.{length-map}
use Rattle.std.specs.String.{string_bytes}
use Rattle.scene_reader.specs.Limits.{KeepsLimits}
use Rattle.run_commands.specs.Program.{AreSmall, files_from}
use Rattle.run_commands.specs.declared.program.Program.{Program}
use Rattle.run_commands.proofs.ProgramRead.{carried, count_from, kept_are_held, names_from, program_held, scene_below, scene_counts, scene_ends, scene_misses, scene_named, together_ends, together_misses, together_reads, together_word, values_end, values_miss}
use Rattle.run_commands.proofs.EarlyEnds.{word_within}
use Rattle.run_commands.proofs.program.read_program.Goals as goal

-- ---- the scene

pub returns-in-Err-clause-read_faults : goal.returns-in-Err-clause-read_faults
returns-in-Err-clause-read_faults g c = rw c.at_word.ensures (scene_counts _ c.in-Err.fault _ _ c.in-Err.ensures.read_faults)

pub returns-in-Err-clause-missed : goal.returns-in-Err-clause-missed
returns-in-Err-clause-missed g c =
    rw c.at_word.ensures (scene_misses c.args.words.now c.args.named c.args.first c.index-words-named.result c.in-Err.fault _ _ c.requires.counted (omega arith) c.index-words-named.is c.as_bytes.ensures.value c.in-Err.ensures.missed)

pub returns-in-Err-clause-ends : goal.returns-in-Err-clause-ends
returns-in-Err-clause-ends g c =
    let words = map string_bytes c.args.words.now in
    let holds = g.D.Desk.holds c.args.desk.now in
    let named = scene_named c.args.words.now c.args.named c.index-words-named.result (omega arith) c.index-words-named.is in
    let read = rw (c.as_bytes.ensures.value, sym named) at c.in-Err.ensures.read in
    rw c.at_word.ensures (scene_ends words c.args.named c.args.first holds c.in-Err.fault read)

pub returns-in-Err-clause-word : goal.returns-in-Err-clause-word
returns-in-Err-clause-word g c = rw c.at_word.ensures (scene_below (length c.args.words.now + 1) c.args.named c.in-Err.fault (omega arith))

-- ---- the files

pub returns-in-Err-read_values-clause-read_faults : goal.returns-in-Err-read_values-clause-read_faults
returns-in-Err-read_values-clause-read_faults g c = rw c.in-Ok.ensures.read_faults at c.in-Err-read_values.ensures.read_faults

pub returns-in-Err-read_values-clause-missed : goal.returns-in-Err-read_values-clause-missed
returns-in-Err-read_values-clause-missed g c =
    let words = map string_bytes c.args.words.now in
    let misses = rw (names_from c.args.words.now c.args.first) at c.in-Err-read_values.ensures.missed in
    values_miss words c.args.named c.args.first c.in-Err-read_values.ending _ (omega arith) misses

pub returns-in-Err-read_values-clause-ends : goal.returns-in-Err-read_values-clause-ends
returns-in-Err-read_values-clause-ends g c =
    let words = map string_bytes c.args.words.now in
    let holds = g.D.Desk.holds c.args.desk.now in
    let named = scene_named c.args.words.now c.args.named c.index-words-named.result (omega arith) c.index-words-named.is in
    let read = rw (c.as_bytes.ensures.value, sym named) at c.in-Ok.ensures.read in
    let ends = rw (names_from c.args.words.now c.args.first, c.in-Ok.ensures.holds) at c.in-Err-read_values.ensures.ends in
    values_end words c.args.named c.args.first holds c.in-Ok.scene c.in-Err-read_values.ending read ends

pub returns-in-Err-read_values-clause-word : goal.returns-in-Err-read_values-clause-word
returns-in-Err-read_values-clause-word g c =
    let count = count_from c.args.words.now c.args.first (omega arith) c.requires.some in
    word_within _ (length c.args.words.now + 1) c.in-Err-read_values.ending (omega (arith, count)) c.in-Err-read_values.ensures.word

-- ---- files together

pub returns-clause-read_faults : goal.returns-clause-read_faults
returns-clause-read_faults g c = together_reads c.args.first _ c.loaded_program.result _ _ c.loaded_program.ensures.ends (c.in-Ok-read_values.ensures.read_faults ∙ c.in-Ok.ensures.read_faults)

pub returns-clause-missed : goal.returns-clause-missed
returns-clause-missed g c = together_misses c.args.named c.args.first _ (map string_bytes c.args.words.now) c.loaded_program.result _ c.loaded_program.ensures.ends (omega (arith, c.requires.counted, c.requires.behind))

pub returns-clause-ends : goal.returns-clause-ends
returns-clause-ends g c =
    let words = map string_bytes c.args.words.now in
    let holds = g.D.Desk.holds c.args.desk.now in
    let named = scene_named c.args.words.now c.args.named c.index-words-named.result (omega arith) c.index-words-named.is in
    let read = rw (c.as_bytes.ensures.value, sym named) at c.in-Ok.ensures.read in
    let kept = rw (names_from c.args.words.now c.args.first, c.in-Ok.ensures.holds) at c.in-Ok-read_values.ensures.kept in
    let names = names_from c.args.words.now c.args.first in
    let count : vec_len c.in-Ok-read_values.files.values ≡ length (files_from c.args.first words) = c.in-Ok-read_values.ensures.count ∙ sym (length-map _ string_bytes) ∙ ap length names in
    together_ends words c.args.named c.args.first _ holds c.in-Ok.scene c.loaded_program.result count read (kept_are_held c.args.keep holds _ c.in-Ok-read_values.files.kept.items kept) c.loaded_program.ensures.ends

pub returns-clause-word : goal.returns-clause-word
returns-clause-word g c =
    let count = count_from c.args.words.now c.args.first (omega arith) c.requires.some in
    together_word c.args.first _ (length c.args.words.now + 1) c.loaded_program.result (omega (arith, count, c.in-Ok-read_values.ensures.count)) c.loaded_program.ensures.ends

-- ---- what was read

pub returns-clause-limits : goal.returns-clause-limits
returns-clause-limits g c = carried (λ (p : Program). p.tree) KeepsLimits c.in-Ok.scene.tree c.loaded_program.result c.loaded_program.ensures.tree c.in-Ok.ensures.limits

pub returns-clause-few_bytes : goal.returns-clause-few_bytes
returns-clause-few_bytes g c = carried (λ (p : Program). p.text) (λ (t : Vec ℕ Global). vec_len t ≤ 16777216) c.in-Ok.scene.text c.loaded_program.result c.loaded_program.ensures.text c.in-Ok.ensures.small

pub returns-clause-few_files : goal.returns-clause-few_files
returns-clause-few_files g c =
    let count = count_from c.args.words.now c.args.first (omega arith) c.requires.some in
    carried (λ (p : Program). p.kept) (λ (k : Vec (Vec ℕ Global) Global). vec_len k ≤ 256) c.in-Ok-read_values.files.kept c.loaded_program.result c.loaded_program.ensures.kept (omega (arith, count, c.in-Ok-read_values.ensures.as_many))

pub returns-clause-small : goal.returns-clause-small
returns-clause-small g c = carried (λ (p : Program). p.kept) (λ (k : Vec (Vec ℕ Global) Global). AreSmall k.items) c.in-Ok-read_values.files.kept c.loaded_program.result c.loaded_program.ensures.kept c.in-Ok-read_values.ensures.small

pub returns-clause-held : goal.returns-clause-held
returns-clause-held g c =
    let words = map string_bytes c.args.words.now in
    let holds = g.D.Desk.holds c.args.desk.now in
    let named = scene_named c.args.words.now c.args.named c.index-words-named.result (omega arith) c.index-words-named.is in
    let read = rw (c.as_bytes.ensures.value, sym named) at c.in-Ok.ensures.read in
    let kept = rw (names_from c.args.words.now c.args.first, c.in-Ok.ensures.holds) at c.in-Ok-read_values.ensures.kept in
    program_held c.args.keep words c.args.named c.args.first holds c.in-Ok.scene c.in-Ok-read_values.files.kept c.loaded_program.result c.loaded_program.ensures.text c.loaded_program.ensures.kept read kept
