use Rattle.std.proofs.Common.{◌≡◌, ◌∙◌, ℕ, List, length, ap, refl, sym, subst}
use Rattle.pex_values.specs.declared.values.Pex.{Pex}
use Rattle.pex_verify.specs.Kept.{IsJudgedBy}
use Rattle.pex_verify.specs.NameTables.{names_in}
use Rattle.pex_verify.specs.Sets.{AreSoundScripts}
use Rattle.pex_verify.proofs.judged_files.judge.Goals as goal

pub invariant_of-result : goal.invariant_of-result
invariant_of-result c =
    let files = c.args.files.items in
    let tables = c.in_ok-tables.tables in
    let outlines = tables.parts.outlines.items in
    let scripts = tables.parts.scripts.items in
    let names = c.load_all.new.table in
    let sound : AreSoundScripts (length scripts) outlines scripts = subst (λ (n : ℕ). AreSoundScripts n outlines scripts) tables.parts.scripts.ok.0 c.in_ok-tables.ensures.sound in
    let by : IsJudgedBy files scripts outlines names tables.members = subst (λ (l : List Pex). IsJudgedBy l scripts outlines names tables.members) c.as_slice.ensures.value c.in_ok-tables.ensures.judged in
    record {
      whole = record { sound = record { files = c.requires.valid; scripts = sound }; judged = by.judged };
      scripts = c.in_ok-tables.ensures.named;
      by_files = c.in_ok-tables.ensures.names c.in_ok-names.ensures ∙ ap names_in c.as_slice.ensures.value;
      names_are = by.names_are;
      members_are = by.members_are;
    }
