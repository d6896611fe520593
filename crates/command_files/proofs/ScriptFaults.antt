-- Which rule a script breaks, and where, by what the layers answered.
use Rattle.std.proofs.Common.{arith, ◌≡◌, ◌∙◌, inl, ℕ, All, suc, ◌+◌, ◌<◌, List, [], length, take, map, refl, sym, ap, subst, slice_index_or, String, Global}
use Rattle.std.specs.Prelude.{Option, None, Some, Result, Ok, Err, IfSome}
use Rattle.std.specs.String.{string_bytes}
use Rattle.std.specs.declared.vec.Vec.{Vec}
use Rattle.std.proofs.lemmas.List.{get_or-map, length-map, take-map}
use Rattle.papy_io.specs.Files.{Files}
use Rattle.script_lexer.specs.declared.fault.LexRule.TheVariants.{TooLarge}
use Rattle.script_linker.specs.declared.set.SourceFile.{SourceFile}
use Rattle.command_files.specs.declared.file_fault.FileFault.{FileFault}
use Rattle.command_files.specs.declared.file_fault.FileFault.TheVariants.{ReadFault, OutOfMemory, Refused}
use Rattle.command_files.specs.declared.refusal.Place.{Place}
use Rattle.command_files.specs.declared.refusal.Place.TheVariants.{Line}
use Rattle.command_files.specs.declared.refusal.Rule.{Rule}
use Rattle.command_files.specs.declared.refusal.Rule.TheVariants.{Lexical}
use Rattle.command_files.specs.Ending.{IsWordBelow, MissesScript, word_at}
use Rattle.command_files.specs.FileFault.{MissesFile, ending_at}
use Rattle.command_files.specs.Scripts.{EndsOnScripts, HoldScripts, HoldsRefused, HoldsScript, HoldsSource, KeepsForm, ParsesSource, ReadsScript, RefusesScript}
use Rattle.command_files.specs.SourceTexts.{EndsOnTexts, text_of as bytes_in}
use Rattle.command_files.specs.declared.source_texts.NamedText.{NamedText}
use Rattle.command_files.specs.TextFile.{ReadsText}

-- ---- one file

too-large-breaks : (text : List ℕ) (place : Place) (rule : Rule) → 1048576 < length text → place ≡ Line 0 → rule ≡ Lexical TooLarge → RefusesScript text place rule
too-large-breaks text place rule past place_is rule_is =
    let broken : RefusesScript text place (Lexical TooLarge) = record { line = 0; place_is = place_is; broken = inl (past, refl, refl) } in
    subst (λ r. RefusesScript text place r) (sym rule_is) broken

abbrev pub ReadsSource : Option Files → List ℕ → Result (Vec ℕ Global) FileFault → Type 0
ReadsSource holds name result = ReadsText holds name 1048576 (Line 0) (Lexical TooLarge) result

-- a text that was not read, or is too large
pub script_unread : (holds : Option Files) (name : List ℕ) (fault : FileFault) → ReadsSource holds name (Err fault) → ReadsScript holds name (Err fault)
script_unread None name fault read = tt
script_unread (Some files) name (Refused place rule) (bytes, held, past, place_is, rule_is) = (bytes, held, too-large-breaks bytes place rule past place_is rule_is)
script_unread (Some files) name ReadFault read = tt
script_unread (Some files) name OutOfMemory read = tt

-- a text that was read, and parsed or refused
pub script_parsed : (holds : Option Files) (name : List ℕ) (text : Vec ℕ Global) (result : Result SourceFile FileFault) → ReadsSource holds name (Ok text) → ParsesSource text.items result → ReadsScript holds name result
script_parsed None name text result read parses = tt
script_parsed (Some files) name text (Ok file) read parses = (text.items, read.1, parses)
script_parsed (Some files) name text (Err (Refused place rule)) read parses = (text.items, read.1, parses)
script_parsed (Some files) name text (Err OutOfMemory) read parses = tt
script_parsed (Some files) name text (Err ReadFault) read parses = absurd parses

pub source_is_held : (holds : Option Files) (name : List ℕ) (file : SourceFile) → ReadsScript holds name (Ok file) → IfSome holds (λ files. HoldsSource files name file)
source_is_held None name file read = tt
source_is_held (Some files) name file read = read

pub script_is_held : (holds : Option Files) (name : List ℕ) (file : SourceFile) → IfSome holds (λ files. HoldsSource files name file) → IfSome holds (HoldsScript name)
script_is_held None name file read = tt
script_is_held (Some files) name file (text, held, is) = (text, held, is.form)

-- ---- several files

-- the name of the script at this place
named : (scripts : List (String Global)) (place : ℕ) (script : String Global) → place < length scripts → script ≡ slice_index_or scripts place script →
    word_at (map string_bytes scripts) place ≡ string_bytes script
named scripts place script within is = get_or-map string_bytes scripts place script [] within ∙ ap string_bytes (sym is)

-- the scripts before this one keep their lexical form, and this one isn't accepted
pub script_ends : (holds : Option Files) (scripts : List (String Global)) (place : ℕ) (script : String Global) (fault : FileFault) → place < length scripts → script ≡ slice_index_or scripts place script →
    IfSome holds (HoldScripts (map string_bytes (take place scripts))) → ReadsScript holds (string_bytes script) (Err fault) →
    EndsOnScripts (map string_bytes scripts) holds (ending_at (place + 1) fault)
script_ends holds scripts place script ReadFault within is earlier read = tt
script_ends holds scripts place script OutOfMemory within is earlier read = tt
script_ends None scripts place script (Refused p rule) within is earlier read = tt
script_ends (Some files) scripts place script (Refused p rule) within is earlier read =
    let before : HoldScripts (take place (map string_bytes scripts)) files = subst (λ names. HoldScripts names files) (sym (take-map string_bytes place scripts)) earlier in
    let here : HoldsRefused (word_at (map string_bytes scripts) place) files p rule = subst (λ name. HoldsRefused name files p rule) (sym (named scripts place script within is)) read in
    let size : length (map string_bytes scripts) ≡ length scripts = length-map scripts string_bytes in
    inl (record { at = place; word_is = omega arith; within = omega arith; earlier = before; refused = here })

pub script_missed : (scripts : List (String Global)) (place : ℕ) (script : String Global) (fault : FileFault) (missed : Option (List ℕ)) → place < length scripts → script ≡ slice_index_or scripts place script →
    (name : List ℕ) → name ≡ string_bytes script → MissesFile {T = SourceFile} name (Err fault) missed → MissesScript (map string_bytes scripts) (ending_at (place + 1) fault) missed
script_missed scripts place script ReadFault missed within is name named_is misses =
    let size : length (map string_bytes scripts) ≡ length scripts = length-map scripts string_bytes in
    let word : place + 1 ≡ suc place = omega arith in
    (place, word, omega arith, misses ∙ ap Some (named_is ∙ sym (named scripts place script within is)))
script_missed scripts place script OutOfMemory missed within is name named_is misses = tt
script_missed scripts place script (Refused p rule) missed within is name named_is misses = tt

pub script_word : (count place : ℕ) (fault : FileFault) → place < count → IsWordBelow (count + 1) (ending_at (place + 1) fault)
script_word count place ReadFault within = omega arith
script_word count place OutOfMemory within = tt
script_word count place (Refused p rule) within = omega arith

-- ---- several texts

-- the texts before this one keep their lexical form, and this one breaks a rule
pub text_ends : (texts : List NamedText) (place : ℕ) (bytes : List ℕ) (fault : FileFault) → place < length texts →
    slice_index_or (map bytes_in texts) place [] ≡ bytes → All KeepsForm (take place (map bytes_in texts)) → ParsesSource bytes (Err fault) → EndsOnTexts (map bytes_in texts) (ending_at (place + 1) fault)
text_ends texts place bytes (Refused found rule) within is before broken =
    let counted : length (map bytes_in texts) ≡ length texts = length-map texts bytes_in in
    inl (record { at = place; word_is = omega arith; within = omega arith; earlier = before; refused = subst (λ text. RefusesScript text found rule) (sym is) broken })
text_ends texts place bytes OutOfMemory within is before broken = tt
text_ends texts place bytes ReadFault within is before broken = absurd broken
