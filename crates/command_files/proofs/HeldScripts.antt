-- Names that are held, one after another.
use Rattle.std.proofs.Common.{arith, ◌≡◌, ◌≤◌, ◌<◌, ◌+◌, ℕ, List, [], ◌∷◌, ◌++◌, sym, ap, ◌∙◌, map, take, length, slice_index_or, String, Global}
use Rattle.std.specs.String.{string_bytes}
use Rattle.std.proofs.lemmas.List.{take_more, map-append}
use Rattle.std.proofs.lemmas.Grind.{common_steps}
use Rattle.std.specs.Prelude.{Option, None, Some, IfSome}
use Rattle.papy_io.specs.Files.{Files, told_bytes}
use Rattle.std.proofs.lemmas.List.Elements.{All-push}
use Rattle.command_files.specs.Held.{Hold, IsHeld, AreHeld}
use Rattle.script_linker.proofs.GeneratedLemmas.{Pairwise-append}
use Rattle.script_linker.specs.declared.set.SourceFile.{SourceFile}
use Rattle.command_files.specs.Scripts.{HoldScripts, HoldSources, HoldsScript, HoldsSource}

hold-more : (files : Files) (names contents : List (List ℕ)) (name bytes : List ℕ) → Hold files names contents → told_bytes (Some files) name ≡ Some bytes →
    Hold files (names ++ name ∷ []) (contents ++ bytes ∷ [])
hold-more files [] [] name bytes hold held = (held, tt)
hold-more files [] (c ∷ contents) name bytes hold held = absurd hold
hold-more files (n ∷ names) [] name bytes hold held = absurd hold
hold-more files (n ∷ names) (c ∷ contents) name bytes hold held = (hold.0, hold-more files names contents name bytes hold.1 held)

pub held-more : (holds : Option Files) (names : List (List ℕ)) (name : List ℕ) → IfSome holds (AreHeld names) → IfSome holds (IsHeld name) →
    IfSome holds (AreHeld (names ++ name ∷ []))
held-more None names name are is = tt
held-more (Some files) names name (contents, hold) (bytes, held) = (contents ++ bytes ∷ [], hold-more files names contents name bytes hold held)

-- the same of scripts that keep their lexical form
pub scripts-more : (holds : Option Files) (names : List (List ℕ)) (name : List ℕ) → IfSome holds (HoldScripts names) → IfSome holds (HoldsScript name) →
    IfSome holds (HoldScripts (names ++ name ∷ []))
scripts-more None names name are is = tt
scripts-more (Some files) names name are is = All-push (λ n. HoldsScript n files) names name are is

-- the same of names that hold texts of scripts
pub sources-more : (holds : Option Files) (names : List (List ℕ)) (sources : List SourceFile) (name : List ℕ) (source : SourceFile) → IfSome holds (λ files. HoldSources files names sources) → IfSome holds (λ files. HoldsSource files name source) →
    IfSome holds (λ files. HoldSources files (names ++ name ∷ []) (sources ++ source ∷ []))
sources-more None names sources name source are is = tt
sources-more (Some files) names sources name source are is = Pairwise-append (HoldsSource files) names sources (name ∷ []) (source ∷ []) are (is, tt)

-- the names of one script more
pub names-more : (scripts : List (String Global)) (place : ℕ) (script : String Global) → place < length scripts → script ≡ slice_index_or scripts place script →
    map string_bytes (take (place + 1) scripts) ≡ map string_bytes (take place scripts) ++ string_bytes script ∷ []
names-more scripts place script within is =
    ap (map string_bytes) (take_more scripts place script within)
    ∙ map-append string_bytes (take place scripts) (slice_index_or scripts place script ∷ [])
    ∙ ap (λ s. map string_bytes (take place scripts) ++ string_bytes s ∷ []) (sym is)

pub names-all : (scripts : List (String Global)) (place : ℕ) → place ≤ length scripts → length scripts ≤ place →
    map string_bytes (take place scripts) ≡ map string_bytes scripts
names-all scripts place within past = ap (map string_bytes) (grind (arith, common_steps))
