-- The table of names of a set, as it grows.
use Rattle.std.proofs.Common.{◌≡◌, ℕ, ◌+◌, ◌<◌, List, [], ◌∷◌, ◌++◌, length, get_or, take, Result, Ok, Err, OnOk, ap, sym, ◌∙◌}
use Rattle.std.proofs.lemmas.List.Sums.{fold-append}
use Rattle.pex_meaning.specs.Prelude as meant
use Rattle.pex_set.specs.Names.{with_names}
use Rattle.pex_values.specs.declared.values.Pex.{Pex}
use Rattle.pex_values.specs.Plain.{PlainPex, plain}
use Rattle.pex_verify.specs.NameTables.{with_files, names_in}
use Rattle.pex_verify.proofs.Pairs.{take_next}

-- one file more
pub with_files-next : (first before after : List (List ℕ)) (files : List Pex) (i : ℕ) (file : Pex) → i < length files → file ≡ get_or files i file → before ≡ with_files first (take i files) → after ≡ with_names before file.strings.items → after ≡ with_files first (take (i + 1) files)
with_files-next first before after files i file within is so_far grown =
    grown
    ∙ ap (λ (names : List (List ℕ)). with_names names file.strings.items) so_far
    ∙ sym (fold-append (λ (table : List (List ℕ)) (f : Pex). with_names table f.strings.items) first (take i files) (file ∷ []))
    ∙ ap (with_files first) (sym (take_next files i file file within is))

pub always : {T E : Type 0} {P : Type 0} (result : Result T E) → P → OnOk result P
always (Ok x) p = p
always (Err e) p = tt

-- the prelude's strings behind the empty name, and then those of the files
pub names_made : (first earlier names : List (List ℕ)) (prelude : Pex) (files : List Pex) → first ≡ [] ∷ [] → plain prelude ≡ meant.prelude → earlier ≡ with_names first prelude.strings.items → names ≡ with_files earlier files → names ≡ names_in files
names_made first earlier names prelude files empty is own all =
    all
    ∙ ap (λ (t : List (List ℕ)). with_files t files) own
    ∙ ap (λ (t : List (List ℕ)). with_files (with_names t prelude.strings.items) files) empty
    ∙ ap (λ (p : PlainPex). with_files (with_names ([] ∷ []) p.strings) files) is
