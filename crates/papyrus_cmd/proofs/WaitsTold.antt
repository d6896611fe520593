-- What `waits` tells of a journal that it read.
use Rattle.std.proofs.Common.{arith, ◌≡◌, ◌+◌, ◌<◌, ◌≤◌, ◌∙◌, ℕ, suc, List, [], ◌∷◌, ◌++◌, length, map, take, get_or, refl, sym, ap, append_assoc, inl}
use Rattle.std.specs.Prelude.{Option, None, Some, Result, Ok, Err, IfSome}
use Rattle.std.specs.declared.alloc.Global.{Global}
use Rattle.std.specs.declared.vec.Vec.{Vec}
use Rattle.std.specs.List.{flat_map}
use Rattle.std.proofs.lemmas.List.{append-nil, length-map, take_more, take_all}
use Rattle.std.proofs.lemmas.List.Concat.{flat_map-append}
use Rattle.papy_io.specs.Files.{Files}
use Rattle.run_replay.specs.Lines.{JournalLine}
use Rattle.run_replay.specs.Outline.{AreLines, turns_in, names_in}
use Rattle.run_replay.specs.Waiting.{waited}
use Rattle.run_replay.specs.declared.fault.JournalRule.TheVariants.{BadLine}
use Rattle.run_replay.specs.declared.waits.Waits.{Waits}
use Rattle.command_files.specs.declared.ending.Ending.TheVariants.{Done}
use Rattle.command_files.specs.declared.file_fault.FileFault.{FileFault}
use Rattle.command_files.specs.declared.file_fault.FileFault.TheVariants.{ReadFault, OutOfMemory, Refused}
use Rattle.command_files.specs.declared.refusal.Place.TheVariants.{Line}
use Rattle.command_files.specs.declared.refusal.Rule.TheVariants.{Journal}
use Rattle.command_files.specs.Outputs.{AnswersTo}
use Rattle.command_files.specs.TextFile.{ReadsText}
use Rattle.papyrus_cmd.specs.Answers.{WaitsAnswers}
use Rattle.papyrus_cmd.specs.Check.{accepted_line}
use Rattle.papyrus_cmd.specs.Waits.{Checks, Counts, PassesWith, ReadsWaits, RefusesJournal, count_line, count_lines, counted_line, counted_text, waits_text}

-- ---- the text

-- one instance more
pub counted_more : (first text more : List ℕ) (instances items : List (List ℕ × ℕ)) (i : ℕ) (instance : List ℕ × ℕ) → items ≡ instances → i < length items → instance ≡ get_or items i instance →
    text ≡ first ++ flat_map counted_line (take i instances) → more ≡ text ++ counted_line instance → more ≡ first ++ flat_map counted_line (take (i + 1) instances)
counted_more first text more instances items i instance same inside is so_far added =
    let here : instance ≡ get_or instances i instance = is ∙ ap (λ (ps : List (List ℕ × ℕ)). get_or ps i instance) same in
    let longer : take (i + 1) instances ≡ take i instances ++ get_or instances i instance ∷ [] = take_more instances i instance (omega (arith, ap length same)) in
    let lines : flat_map counted_line (take (i + 1) instances) ≡ flat_map counted_line (take i instances) ++ counted_line instance =
    ap (flat_map counted_line) longer ∙ flat_map-append counted_line (take i instances) (get_or instances i instance ∷ [])
    ∙ ap (λ (t : List ℕ). flat_map counted_line (take i instances) ++ t) (append-nil (counted_line (get_or instances i instance)) ∙ ap counted_line (sym here)) in
    added ∙ ap (λ (t : List ℕ). t ++ counted_line instance) so_far ∙ append_assoc first (flat_map counted_line (take i instances)) (counted_line instance) ∙ ap (λ (t : List ℕ). first ++ t) (sym lines)

pub counted_all : (first text : List ℕ) (instances items : List (List ℕ × ℕ)) (i : ℕ) → items ≡ instances → length items ≤ i → text ≡ first ++ flat_map counted_line (take i instances) → text ≡ first ++ flat_map counted_line instances
counted_all first text instances items i same past so_far =
    so_far ∙ ap (λ (ps : List (List ℕ × ℕ)). first ++ flat_map counted_line ps) (take_all i instances (omega (arith, ap length same)))

-- the counts of instances, the first of which has this number
lines-counted : (lines : List JournalLine) (number : ℕ) (instances : List (List ℕ × ℕ)) → ((i : ℕ) → i < length instances → get_or (map (λ p. p.1) instances) i 0 ≡ waited lines (number + i)) →
    flat_map counted_line instances ≡ count_lines lines number (map (λ p. p.0) instances)
lines-counted lines number [] counts = refl
lines-counted lines number (p ∷ instances) counts =
    let zero_more : number + 0 ≡ number = omega arith in
    let here : p.1 ≡ waited lines number = counts 0 (omega arith) ∙ ap (waited lines) zero_more in
    let behind : (i : ℕ) → i < length instances → get_or (map (λ p. p.1) instances) i 0 ≡ waited lines (suc number + i) =
    λ i within. let next : number + suc i ≡ suc number + i = omega arith in counts (suc i) (omega arith) ∙ ap (waited lines) next in
    ap (λ (n : ℕ). count_line p.0 n ++ flat_map counted_line instances) here ∙ ap (λ (t : List ℕ). count_line p.0 (waited lines number) ++ t) (lines-counted lines (suc number) instances behind)

text-counted : (journal : List ℕ) (waits : Waits) → Counts journal waits → (lines : List JournalLine) → AreLines journal lines → counted_text waits ≡ waits_text lines
text-counted journal waits counted lines are =
    let instances : List (List ℕ × ℕ) = waits.instances.items in
    let names : map (λ p. p.0) instances ≡ names_in lines = counted.names lines are in
    let size : length instances ≡ length (names_in lines) = sym (length-map instances (λ p. p.0)) ∙ ap length names in
    let each : (i : ℕ) → i < length instances → get_or (map (λ p. p.1) instances) i 0 ≡ waited lines (0 + i) =
    λ i within. let none_more : i ≡ 0 + i = omega arith in counted.counts lines are i (omega arith) ∙ ap (waited lines) none_more in
    ap (λ (n : ℕ). accepted_line n ++ flat_map counted_line instances) (counted.turns lines are)
    ∙ ap (λ (t : List ℕ). accepted_line (turns_in lines) ++ t) (lines-counted lines 0 instances each ∙ ap (count_lines lines 0) names)

passes : (journal : List ℕ) (waits : Waits) → Counts journal waits → PassesWith journal (counted_text waits)
passes journal waits counted =
    record { legal = counted.legal; told = text-counted journal waits counted; one_holder = counted.one_holder; in_order = counted.in_order; lets_go = counted.lets_go }

pub waits_pass : (holds : Option Files) (name : List ℕ) (waits : Waits) → ReadsWaits holds name (Ok waits) → IfSome holds (λ files. AnswersTo WaitsAnswers name files Done (counted_text waits))
waits_pass None name waits read = tt
waits_pass (Some files) name waits (journal, held, counted) = (journal, held, passes journal waits counted)

-- ---- a journal that was read or not

too-large : (journal : List ℕ) → 134217728 < length journal → RefusesJournal journal (Line 0) (Journal BadLine)
too-large journal many =
    record { line = 0; broken = BadLine; place_is = refl; rule_is = refl; break = inl (many, refl, refl); refused = λ legal. omega (arith, legal.few, many) }

pub journal_unread : (holds : Option Files) (name : List ℕ) (fault : FileFault) → ReadsText holds name 134217728 (Line 0) (Journal BadLine) (Err fault) → ReadsWaits holds name (Err fault)
unfolding too-large
journal_unread None name fault read = tt
journal_unread (Some files) name ReadFault read = tt
journal_unread (Some files) name OutOfMemory read = tt
journal_unread (Some files) name (Refused place rule) (journal, held, many, place_is, rule_is) =
    let refused = too-large journal many in
    (journal, held, record { line = 0; broken = BadLine; place_is = place_is; rule_is = rule_is; break = refused.break; refused = refused.refused })

pub journal_checked : (holds : Option Files) (name : List ℕ) (journal : Vec ℕ Global) (result : Result Waits FileFault) → ReadsText holds name 134217728 (Line 0) (Journal BadLine) (Ok journal) → Checks journal.items result → ReadsWaits holds name result
journal_checked None name journal result read checks = tt
journal_checked (Some files) name journal (Ok waits) (few, held) checks = (journal.items, held, checks)
journal_checked (Some files) name journal (Err (Refused place rule)) (few, held) checks = (journal.items, held, checks)
journal_checked (Some files) name journal (Err OutOfMemory) (few, held) checks = tt
journal_checked (Some files) name journal (Err ReadFault) (few, held) checks = absurd checks
