use Rattle.std.proofs.Common.{◌≡◌, ◌∙◌, ℕ, List, ◌∷◌, map, All, refl, ap, sym, subst}
use Rattle.pex_set.specs.Names.{with_names}
use Rattle.pex_values.specs.declared.values.Pex.{Pex}
use Rattle.pex_verify.specs.declared.sources.FileStrings.{FileStrings}
use Rattle.pex_verify.specs.declared.sources.SetFile.{SetFile}
use Rattle.pex_verify.specs.Sources.{AreStrings, AreNamed, HaveParts, IsNamed}
use Rattle.pex_verify.proofs.NameTables.{always, names_made}
use Rattle.pex_verify.proofs.Named.{named_given}
use Rattle.pex_verify.proofs.Parts.{plain_parts, files_parts}
use Rattle.pex_verify.proofs.Whole.{source_named, stands_first, judged_given}
use Rattle.pex_verify.proofs.verifier.load_behind.Goals as goal

pub returns-clause-judged : goal.returns-clause-judged
returns-clause-judged c =
    let earlier = c.of.new.table in
    let names = c.strings_of_files.new.table in
    let prelude = c.args.prelude.now.file in
    let files = c.args.files.now in
    let own = c.in_ok-prelude_strings.prelude_strings in
    let first = c.source_of-first.result in
    let from = c.source_of-first.ensures in
    let sources = c.as_slice-4.result.now in
    let made = c.in_ok-all.ensures in
    let is : sources ≡ c.in_ok-all.all.items = c.as_slice-4.ensures.value in
    let own_strings : AreStrings earlier prelude.strings.items own = subst (λ (texts : List (List ℕ)). AreStrings earlier texts own) c.as_slice.ensures.value c.in_ok-prelude_strings.ensures.strings in
    let own_named : IsNamed names first = source_named earlier names prelude own first c.in_ok-strings.ensures.grows own_strings from.pex from.names from.titles in
    let strings : AreNamed names files c.as_slice-2.result.now = subst (λ (l : List FileStrings). AreNamed names files l) (sym c.as_slice-2.ensures.value) c.in_ok-strings.ensures.strings in
    let named : All (IsNamed names) sources = subst (λ (l : List SetFile). All (IsNamed names) l) (sym is) (made.named names own_named strings) in
    let own_parts : HaveParts first.pex.now = subst (λ (p : Pex). HaveParts p) (sym from.pex) (plain_parts prelude c.requires.plain) in
    let parts : All (λ (s : SetFile). HaveParts s.pex.now) sources = subst (λ (l : List SetFile). All (λ (s : SetFile). HaveParts s.pex.now) l) (sym is) (made.parts own_parts (files_parts files c.requires.valid)) in
    let files_are = subst (λ (l : List SetFile). map (λ (s : SetFile). s.pex.now) l ≡ first.pex.now ∷ files) (sym is) made.files in
    judged_given c.load_set.result names _ sources first.pex.now files files_are (stands_first _ _ _ _ from.pex c.as_slice-3.ensures.value refl c.requires.file c.requires.members) c.load_set.ensures.empty named own_named parts c.load_set.ensures.loaded

pub returns-clause-named : goal.returns-clause-named
returns-clause-named c =
    let earlier = c.of.new.table in
    let names = c.strings_of_files.new.table in
    let prelude = c.args.prelude.now.file in
    let files = c.args.files.now in
    let own = c.in_ok-prelude_strings.prelude_strings in
    let first = c.source_of-first.result in
    let from = c.source_of-first.ensures in
    let sources = c.as_slice-4.result.now in
    let made = c.in_ok-all.ensures in
    let is : sources ≡ c.in_ok-all.all.items = c.as_slice-4.ensures.value in
    let own_strings : AreStrings earlier prelude.strings.items own = subst (λ (texts : List (List ℕ)). AreStrings earlier texts own) c.as_slice.ensures.value c.in_ok-prelude_strings.ensures.strings in
    let own_named : IsNamed names first = source_named earlier names prelude own first c.in_ok-strings.ensures.grows own_strings from.pex from.names from.titles in
    let strings : AreNamed names files c.as_slice-2.result.now = subst (λ (l : List FileStrings). AreNamed names files l) (sym c.as_slice-2.ensures.value) c.in_ok-strings.ensures.strings in
    let named : All (IsNamed names) sources = subst (λ (l : List SetFile). All (IsNamed names) l) (sym is) (made.named names own_named strings) in
    let own_parts : HaveParts first.pex.now = subst (λ (p : Pex). HaveParts p) (sym from.pex) (plain_parts prelude c.requires.plain) in
    let parts : All (λ (s : SetFile). HaveParts s.pex.now) sources = subst (λ (l : List SetFile). All (λ (s : SetFile). HaveParts s.pex.now) l) (sym is) (made.parts own_parts (files_parts files c.requires.valid)) in
    let files_are = subst (λ (l : List SetFile). map (λ (s : SetFile). s.pex.now) l ≡ first.pex.now ∷ files) (sym is) made.files in
    named_given c.load_set.result names _ sources first.pex.now files files_are (stands_first _ _ _ _ from.pex c.as_slice-3.ensures.value refl c.requires.file c.requires.members) c.load_set.ensures.empty named own_named parts c.load_set.ensures.loaded c.requires.valid c.load_set.ensures.sound c.load_set.ensures.numbered

pub returns-clause-names : goal.returns-clause-names
returns-clause-names c = λ empty.
    let prelude = c.args.prelude.now.file in
    let own = c.in_ok-prelude_strings.ensures.table ∙ ap (with_names c.args.table.now) c.as_slice.ensures.value in
    always c.load_set.result (names_made c.args.table.now c.of.new.table c.strings_of_files.new.table prelude c.args.files.now empty c.requires.file own c.in_ok-strings.ensures.table)
