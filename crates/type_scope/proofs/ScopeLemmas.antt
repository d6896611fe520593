-- A table of the scripts' names.
use Rattle.std.proofs.Common.{◌≡◌, ℕ, ◌<◌, ◌+◌, List, length, take, get_or, sym, ap, subst, arith, ⊎_elim}
use Rattle.std.proofs.lemmas.List.{length-take-le, take_more}
use Rattle.std.proofs.lemmas.Option.{slice_get_cases}
use Rattle.script_linker.specs.Lookup.{script_name}
use Rattle.papy_base.proofs.TableLemmas.{IsPlaceTable-push}
use Rattle.papy_base.specs.Table.{IsPlaceTable, Notes}
use Rattle.papy_base.specs.declared.name_table.NameTable.{NameTable}
use Rattle.script_linker.specs.declared.set.SourceFile.{SourceFile}
use Rattle.script_parser.specs.declared.script.Script.{Script}

pub noted-more : (files : List SourceFile) (n : ℕ) (script : Script) (old new : NameTable) → n < length files → ((file : SourceFile) → script ≡ (get_or files n file).script) → Notes old new script.name n →
    IsPlaceTable script_name (take n files) old → IsPlaceTable script_name (take (n + 1) files) new
noted-more files n script old new within is noted table =
    ⊎_elim
    (λ some.
    let file : SourceFile = get_or files n some.0 in
    let count : length (take n files) ≡ n = length-take-le n files (omega arith) in
    let named : Notes old new (script_name file) n = subst (λ (name : List ℕ). Notes old new name n) (ap (λ (s : Script). s.name) (is some.0)) noted in
    let placed : Notes old new (script_name file) (length (take n files)) = subst (λ (m : ℕ). Notes old new (script_name file) m) (sym count) named in
    subst (λ (xs : List SourceFile). IsPlaceTable script_name xs new) (sym (take_more files n some.0 within)) (IsPlaceTable-push script_name (take n files) file old new table placed))
    (λ none. absurd (omega (arith, none.0, within)))
    (slice_get_cases files n).1
