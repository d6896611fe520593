use Rattle.std.proofs.Common.{true, false, ⊎_elim, ◌≡◌, ◌-◌, None, IsSome, map, get_or, subst, sym, ap, refl, ◌∙◌}
use Rattle.std.proofs.lemmas.List.{get_or_default, get_or-map}
use Rattle.std.proofs.lemmas.Bool.{cases_Bool}
use Rattle.papy_base.specs.Case.{folded}
use Rattle.script_parser.specs.Lines.{heading_lines, import_line}
use Rattle.script_linker.specs.Link.{IsResolved}
use Rattle.script_linker.specs.Lookup.{parent_in}
use Rattle.script_linker.specs.Rules.{IsBelow}
use Rattle.script_linker.specs.declared.set.SourceFile.{SourceFile}
use Rattle.script_linker.proofs.FoundLemmas.{FindsAmong-nothing, FindsAmong-then, IfNone-from, IfSome-found_on, unbroken, AreAmong-first, AreAmong-rest}
use Rattle.script_linker.proofs.LinkLemmas.{IfSome-at, parent_found}
use Rattle.script_linker.proofs.rules.script_fault.Goals as goal

pub returns-clause-line : goal.returns-clause-line
returns-clause-line c =
    let files = c.args.files.now in
    let file = get_or files c.args.number c.index-files-number.result in
    let imports = map import_line file.script.imports.items in
    let line = AreAmong-first file.script.line imports in
    let first = FindsAmong-then line (FindsAmong-nothing _ _) c.note_if.ensures.among in
    let scripts = FindsAmong-then line (FindsAmong-then line (FindsAmong-then line first c.note_if-2.ensures.among) c.note_if-3.ensures.among) c.note_if-4.ensures.among in
    let all = FindsAmong-then (AreAmong-rest file.script.line imports) scripts (rw c.as_slice.ensures.value at c.judge_imports.ensures.among) in
    let is = get_or_default files c.args.number c.index-files-number.result file c.requires.file in
    IfSome-at heading_lines files c.args.number file c.requires.file is c.judge_imports.new.first.found (IfSome-found_on refl all)

pub returns-clause-resolved : goal.returns-clause-resolved
returns-clause-resolved c =
    let files = c.args.files.now in
    let number = c.args.number in
    let script = (get_or files number c.index-files-number.result).script in
    IfNone-from c.judge_imports.new.first.found ((file : SourceFile) → IsResolved files number (get_or files number file).script) (λ none file.
    let after4 : c.note_if-4.new.self.found ≡ None = c.judge_imports.ensures.among.stays none in
    let after3 : c.note_if-3.new.self.found ≡ None = c.note_if-4.ensures.among.stays after4 in
    let after2 : c.note_if-2.new.self.found ≡ None = c.note_if-3.ensures.among.stays after3 in
    let after1 : c.note_if.new.self.found ≡ None = c.note_if-2.ensures.among.stays after2 in
    let repeats = unbroken c.is_below-repeats.result c.note_if.new.self.found c.note_if.ensures.noted after1 in
    let is_prelude = unbroken c.is_below-is_prelude.result c.note_if-2.new.self.found c.note_if-2.ensures.noted after2 in
    let lacks = unbroken c.lacks_parent-lacks_parent.result c.note_if-3.new.self.found c.note_if-3.ensures.noted after3 in
    let known = rw c.as_slice.ensures.value at (c.judge_imports.ensures.known none) in
    let found = ap (λ parents. get_or parents number None) c.requires.parents_of ∙ get_or-map (parent_in files) files number c.index-files-number.result None c.requires.file in
    let at = get_or_default files number c.index-files-number.result file c.requires.file in
    subst (λ source. IsResolved files number source.script) at (record {
      own_name = λ below. is_prelude (c.is_below-is_prelude.ensures.1 (subst (IsBelow 6) (sym (c.find-2.ensures ∙ c.requires.names (folded script.name))) below));
      new_name = λ below. repeats (c.is_below-repeats.ensures.1 (subst (IsBelow (number - 6)) (sym (c.find.ensures ∙ c.requires.file_names (folded script.name))) below));
      parent = parent_found files script.parent (get_or c.args.parents.now number None) found (λ both. lacks (c.lacks_parent-lacks_parent.ensures.1 both));
      imports = λ k d below. subst IsSome (c.requires.names (folded (get_or script.imports.items k d).1)) (known k d below);
    }))

pub returns-clause-rooted : goal.returns-clause-rooted
returns-clause-rooted c =
    let mark = get_or c.args.circles.now c.args.number false in
    IfNone-from c.judge_imports.new.first.found (mark ≡ false) (λ none.
    let after4 : c.note_if-4.new.self.found ≡ None = c.judge_imports.ensures.among.stays none in
    let stays = unbroken mark c.note_if-4.new.self.found c.note_if-4.ensures.noted after4 in
    ⊎_elim (λ (is : mark ≡ true). absurd (stays is)) (λ (is : mark ≡ false). is) (cases_Bool mark))
