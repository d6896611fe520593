-- Which rule a set of scripts breaks, said of the texts of its scripts.
use Rattle.std.proofs.Common.{arith, ◌≡◌, inr, ℕ, zero, suc, ◌+◌, ◌<◌, ◌≤◌, List, [], ◌∷◌, ◌++◌, length, take, map, refl, sym, ap, ◌∙◌, subst, slice_index_or, All}
use Rattle.std.specs.Prelude.{Option, None, Some, IfSome}
use Rattle.std.specs.List.{Contains}
use Rattle.std.proofs.lemmas.List.{length-map, map-append, take_all, take_more}
use Rattle.std.proofs.lemmas.List.Elements.{All-cons, All-contains, All-nil, All-weaker}
use Rattle.core_tree.specs.declared.script.CoreScript.{CoreScript}
use Rattle.papy_io.specs.Files.{Files, told_bytes}
use Rattle.script_lexer.specs.Lines.{Lexes, logical_lines}
use Rattle.script_lexer.specs.declared.line.Lines.{Lines}
use Rattle.script_linker.proofs.GeneratedLemmas.{Pairwise-append}
use Rattle.script_linker.specs.Generated.{Pairwise}
use Rattle.script_linker.specs.Link.{IsFaultOf}
use Rattle.script_linker.specs.declared.fault.LinkFault.{LinkFault}
use Rattle.script_linker.specs.declared.fault.LinkFault.TheVariants as link
use Rattle.script_linker.specs.declared.set.SourceFile.{SourceFile}
use Rattle.script_parser.specs.Faults.{IsNumberOf}
use Rattle.script_parser.specs.Lines.{lines_of}
use Rattle.script_parser.specs.declared.script.Script.{Script}
use Rattle.type_rules.specs.Faults.{IsFaultBelow}
use Rattle.type_rules.specs.Heads.{core_script_head, script_head}
use Rattle.type_rules.specs.declared.fault.TypeFault.{TypeFault}
use Rattle.type_rules.specs.declared.fault.TypeFault.TheVariants as typing
use Rattle.command_files.specs.declared.ending.Ending.{Ending}
use Rattle.command_files.specs.declared.ending.Ending.TheVariants as ending
use Rattle.command_files.specs.declared.refusal.Place.{Place}
use Rattle.command_files.specs.declared.refusal.Rule.{Rule}
use Rattle.command_files.specs.declared.refusal.Rule.TheVariants.{Pex, Listing, Lexical, Grammar, Link, Typing, Scene, Verification, Held, Journal, Lifting}
use Rattle.command_files.specs.declared.source_texts.NamedText.{NamedText}
use Rattle.command_files.specs.Ending.{word_at}
use Rattle.command_files.specs.Scripts.{BeginsLine, BreaksSet, DeclaresOn, EndsOnScripts, EndsOnSet, HoldScripts, HoldSources, HoldsLineAt, HoldsSource, IsScriptOf, KeepsForm, RefusesSet, link_ending, type_ending}
use Rattle.command_files.specs.SourceTexts.{AreScriptsOf, BeginsLineAt, EndsOnTexts, text_of}

-- ---- the answers of the two judges of a set

pub link_refuses : (sources : List SourceFile) (fault : LinkFault) → IsFaultOf sources fault → EndsOnSet sources (link_ending fault)
link_refuses sources (link.Broken file line rule) on =
    record { at = file; line = line; word_is = omega arith; within = on.0; place_is = refl; broken = on.1 }
link_refuses sources link.OutOfMemory on = tt

pub types_refuse : (sources : List SourceFile) (count : ℕ) (fault : TypeFault) → count ≡ length sources + 6 → IsFaultBelow count fault → EndsOnSet sources (type_ending fault)
types_refuse sources count (typing.Broken file line rule) counted below =
    record { at = file; line = line; word_is = omega arith; within = omega arith; place_is = refl; broken = tt }
types_refuse sources count typing.OutOfMemory counted below = tt

-- ---- an elaborated set

-- as many scripts as were linked
pub as_many : (set : List SourceFile) (scripts : List CoreScript) → map core_script_head scripts ≡ map (script_head set) set → length scripts ≡ length set
as_many set scripts heads = sym (length-map scripts core_script_head) ∙ ap length heads ∙ length-map set (script_head set)

-- ---- the texts of scripts

-- what a script declares stands on lines of its text
pub declared_begins : (text : List ℕ) (lines : Lines) (script : Script) → KeepsForm text → Lexes text (logical_lines lines.lines.items) lines.last → All (IsNumberOf lines.lines.items) (lines_of script) → IsScriptOf text script
declared_begins text lines script form cut stands =
    record { form = form; lines = All-weaker (IsNumberOf lines.lines.items) (BeginsLine text) (λ line number. record { lines = lines; cut = cut; number = number }) (lines_of script) stands }

-- the thing of the second list that stands beside the one at a place of the first
pub paired-at : {X Y : Type 0} (R : X → Y → Type 0) (xs : List X) (ys : List Y) (n : ℕ) (x : X) → n < length xs → Pairwise R xs ys →
    (y : Y) × R (slice_index_or xs n x) y × (slice_index_or ys n y ≡ y)
paired-at R [] [] n x within pairs = absurd (omega (arith, within))
paired-at R [] (y ∷ ys) n x within pairs = absurd pairs
paired-at R (z ∷ xs) [] n x within pairs = absurd pairs
paired-at R (z ∷ xs) (y ∷ ys) zero x within pairs = (y, pairs.0, refl)
paired-at R (z ∷ xs) (y ∷ ys) (suc n) x within pairs = paired-at R xs ys n x (omega (arith, within)) pairs.1

-- what holds of each pair's first thing
all-first : {X Y : Type 0} (R : X → Y → Type 0) (P : X → Type 0) → ((x : X) (y : Y) → R x y → P x) → (xs : List X) (ys : List Y) → Pairwise R xs ys → All P xs
all-first R P first [] [] pairs = All-nil P
all-first R P first [] (y ∷ ys) pairs = absurd pairs
all-first R P first (x ∷ xs) [] pairs = absurd pairs
all-first R P first (x ∷ xs) (y ∷ ys) pairs = All-cons P x xs (first x y pairs.0) (all-first R P first xs ys pairs.1)

-- a rule that is broken on lines of one kind, where these are lines of another
breaks_on : (A B : ℕ → Type 0) → ((line : ℕ) → A line → B line) → (line : ℕ) (rule : Rule) → BreaksSet A line rule → BreaksSet B line rule
breaks_on A B into line (Link rule) broken = into line broken
breaks_on A B into line (Typing rule) broken = tt
breaks_on A B into line (Lexical rule) broken = absurd broken
breaks_on A B into line (Grammar rule) broken = absurd broken
breaks_on A B into line (Pex rule) broken = absurd broken
breaks_on A B into line (Listing rule) broken = absurd broken
breaks_on A B into line (Scene rule) broken = absurd broken
breaks_on A B into line (Verification rule) broken = absurd broken
breaks_on A B into line (Held rule) broken = absurd broken
breaks_on A B into line (Journal rule) broken = absurd broken
breaks_on A B into line (Lifting rule) broken = absurd broken

refuses_on : (n m : ℕ) (A B : ℕ → ℕ → Type 0) → n ≡ m → ((at : ℕ) → at < m → (line : ℕ) → A at line → B at line) → (word : ℕ) (place : Place) (rule : Rule) → RefusesSet n A word place rule → RefusesSet m B word place rule
refuses_on n m A B same into word place rule refused =
    let within : refused.at < m = omega (arith, same, refused.within) in
    record { at = refused.at; line = refused.line; word_is = refused.word_is; within = within; place_is = refused.place_is; broken = breaks_on (A refused.at) (B refused.at) (into refused.at within) refused.line rule refused.broken }

-- a line on which the script beside a text declares something is one of the text
declared_in : (text : List ℕ) (sources : List SourceFile) (at line : ℕ) (source : SourceFile) → IsScriptOf text source.script → slice_index_or sources at source ≡ source → DeclaresOn sources at line → BeginsLine text line
declared_in text sources at line source is beside declared =
    let here : Contains (lines_of source.script) line = subst (λ (s : SourceFile). Contains (lines_of s.script) line) beside (declared source) in
    All-contains (BeginsLine text) (lines_of source.script) line is.lines here

-- ---- scripts that names hold

held_line : (files : Files) (names : List (List ℕ)) (sources : List SourceFile) → HoldSources files names sources → (at : ℕ) → at < length names → (line : ℕ) → DeclaresOn sources at line → HoldsLineAt names files at line
held_line files names sources hold at within line declared =
    let pair = paired-at (HoldsSource files) names sources at [] within hold in
    let held = pair.1 in
    (held.0, held.1, declared_in held.0 sources at line pair.0 held.2 pair.2 declared)

pub set_ends : (holds : Option Files) (names : List (List ℕ)) (sources : List SourceFile) (found : Ending) → length sources ≡ length names → IfSome holds (HoldScripts names) → IfSome holds (λ files. HoldSources files names sources) → EndsOnSet sources found →
    EndsOnScripts names holds found
set_ends None names sources (ending.Refused word place rule) same keep hold ends = tt
set_ends (Some files) names sources (ending.Refused word place rule) same keep hold ends =
    inr (keep, refuses_on (length sources) (length names) (DeclaresOn sources) (HoldsLineAt names files) same (held_line files names sources hold) word place rule ends)
set_ends holds names sources ending.OutOfMemory same keep hold ends = tt
set_ends holds names sources (ending.ReadFault word) same keep hold ends = absurd ends
set_ends holds names sources ending.Done same keep hold ends = absurd ends
set_ends holds names sources ending.Usage same keep hold ends = absurd ends
set_ends holds names sources ending.WriteFault same keep hold ends = absurd ends
set_ends holds names sources ending.NotBuilt same keep hold ends = absurd ends

-- ---- scripts whose texts are in memory

abbrev pub IsSourceOf : List ℕ → SourceFile → Type 0
IsSourceOf text source = IsScriptOf text source.script

pub texts_keep : (texts : List (List ℕ)) (sources : List SourceFile) → AreScriptsOf texts sources → All KeepsForm texts
texts_keep texts sources are = all-first IsSourceOf KeepsForm (λ text source is. is.form) texts sources are

begun_line : (texts : List (List ℕ)) (sources : List SourceFile) → AreScriptsOf texts sources → (at : ℕ) → at < length texts → (line : ℕ) → DeclaresOn sources at line → BeginsLineAt texts at line
begun_line texts sources are at within line declared =
    let pair = paired-at IsSourceOf texts sources at [] within are in
    declared_in (slice_index_or texts at []) sources at line pair.0 pair.1 pair.2 declared

pub texts_end : (texts : List (List ℕ)) (sources : List SourceFile) (found : Ending) → length sources ≡ length texts → AreScriptsOf texts sources → EndsOnSet sources found → EndsOnTexts texts found
texts_end texts sources (ending.Refused word place rule) same are ends =
    inr (texts_keep texts sources are, refuses_on (length sources) (length texts) (DeclaresOn sources) (BeginsLineAt texts) same (begun_line texts sources are) word place rule ends)
texts_end texts sources ending.OutOfMemory same are ends = tt
texts_end texts sources (ending.ReadFault word) same are ends = absurd ends
texts_end texts sources ending.Done same are ends = absurd ends
texts_end texts sources ending.Usage same are ends = absurd ends
texts_end texts sources ending.WriteFault same are ends = absurd ends
texts_end texts sources ending.NotBuilt same are ends = absurd ends

-- the texts of one script more
pub texts_more : (texts : List NamedText) (place : ℕ) (script : NamedText) → place < length texts → script ≡ slice_index_or texts place script →
    map text_of (take (place + 1) texts) ≡ map text_of (take place texts) ++ text_of script ∷ []
texts_more texts place script within is =
    ap (map text_of) (take_more texts place script within)
    ∙ map-append text_of (take place texts) (slice_index_or texts place script ∷ [])
    ∙ ap (λ s. map text_of (take place texts) ++ text_of s ∷ []) (sym is)

pub texts_grow : (texts : List (List ℕ)) (sources : List SourceFile) (text : List ℕ) (source : SourceFile) → AreScriptsOf texts sources → IsScriptOf text source.script → AreScriptsOf (texts ++ text ∷ []) (sources ++ source ∷ [])
texts_grow texts sources text source are is = Pairwise-append IsSourceOf texts sources (text ∷ []) (source ∷ []) are (is, tt)

-- a script of each text, where none is left
pub texts_all : (texts : List NamedText) (place : ℕ) (sources : List SourceFile) → length texts ≤ place → AreScriptsOf (map text_of (take place texts)) sources → AreScriptsOf (map text_of texts) sources
texts_all texts place sources past are = subst (λ (all : List NamedText). AreScriptsOf (map text_of all) sources) (take_all place texts past) are
