use Rattle.std.proofs.Common.{◌≡◌, ◌∙◌, List, sym, subst}
use Rattle.core_tree.specs.declared.outline.OutlineScript.{OutlineScript}
use Rattle.pex_verify.specs.Kept.{KeepsTables}
use Rattle.pex_verify.proofs.WholeCode.{whole_coded}
use Rattle.pex_verify.proofs.judged_files.JudgedFiles.load.Goals as goal

pub invariant_of-result : goal.invariant_of-result
invariant_of-result c =
    let files = c.self.inside.files.items in
    let names = c.self.inside.names in
    let parts = c.self.inside.tables.parts in
    let coded = c.in_ok-coded.coded in
    let kept = c.self.invariant in
    subst (λ (l : List OutlineScript). KeepsTables (record { outline = l; files = files; scripts = coded.scripts.items }) names coded.members) (sym c.in_ok-coded.ensures.outlines)
    (record {
      whole = whole_coded parts.outlines.items files parts.scripts.items coded.scripts.items kept.whole c.in_ok-coded.ensures.scripts;
      by_files = kept.by_files;
      names_are = kept.names_are;
      members_are = kept.members_are ∙ sym c.in_ok-coded.ensures.members;
    })
