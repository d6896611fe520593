-- The strings of files and their numbers, as the table of names grows.
use Rattle.std.proofs.Common.{◌≡◌, ℕ, ◌+◌, ◌<◌, List, [], ◌∷◌, ◌++◌, length, get_or, map, take, sym, ap, ◌∙◌}
use Rattle.std.proofs.lemmas.List.{map-append}
use Rattle.pex_values.specs.declared.values.Pex.{Pex}
use Rattle.pex_set.specs.Names.{IsGrown}
use Rattle.pex_set.proofs.NameLemmas.{numbers-grown}
use Rattle.pex_verify.specs.declared.sources.FileStrings.{FileStrings}
use Rattle.pex_verify.specs.declared.sources.SetFile.{SetFile}
use Rattle.pex_verify.specs.Sources.{AreStrings, AreNamed}
use Rattle.pex_verify.proofs.Pairs.{take_next}

pub AreStrings-grown : (earlier later : List (List ℕ)) (texts : List (List ℕ)) (strings : FileStrings) → IsGrown earlier later → AreStrings earlier texts strings → AreStrings later texts strings
AreStrings-grown earlier later texts strings grown old =
    record { titles = old.titles; numbers = numbers-grown earlier later strings.names texts grown old.numbers }

pub AreNamed-grown : (earlier later : List (List ℕ)) (files : List Pex) (strings : List FileStrings) → IsGrown earlier later → AreNamed earlier files strings → AreNamed later files strings
AreNamed-grown earlier later files strings grown old =
    record { count = old.count; each = λ k f s h. AreStrings-grown earlier later _ _ grown (old.each k f s h) }

-- one file more behind the prelude
pub files-next : (prelude : Pex) (sources later : List SetFile) (files : List Pex) (i : ℕ) (source : SetFile) (file : Pex)
    → later ≡ sources ++ source ∷ [] → i < length files → file ≡ get_or files i file → source.pex.now ≡ file
    → map (λ (s : SetFile). s.pex.now) sources ≡ prelude ∷ take i files → map (λ (s : SetFile). s.pex.now) later ≡ prelude ∷ take (i + 1) files
files-next prelude sources later files i source file grown within is same before =
    let pex_of : SetFile → Pex = λ s. s.pex.now in
    ap (map pex_of) grown
    ∙ map-append pex_of sources (source ∷ [])
    ∙ ap (λ (l : List Pex). l ++ source.pex.now ∷ []) before
    ∙ ap (λ (p : Pex). (prelude ∷ take i files) ++ p ∷ []) same
    ∙ ap (λ (l : List Pex). prelude ∷ l) (sym (take_next files i file file within is))
