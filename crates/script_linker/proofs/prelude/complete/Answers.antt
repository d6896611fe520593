use Rattle.std.proofs.Common.{◌≡◌, true, false, is_some, not, ap, subst, ◌∙◌}
use Rattle.script_linker.specs.Generated.{AreMembers, lacking}
use Rattle.script_linker.proofs.GeneratedLemmas.{given-added, given-kept}
use Rattle.script_linker.proofs.prelude.complete.Goals as goal

pub returns-in_ok-append-clause-given : goal.returns-in_ok-append-clause-given
returns-in_ok-append-clause-given c =
    let file = c.args.file.now in
    let added = c.in_ok-added.added.items in
    let orphan : is_some file.script.parent ≡ false = c.is_none.ensures ∙ ap not c.if-is_none.true in
    let members = subst (λ own. AreMembers (lacking own) added) c.as_slice.ensures.value c.in_ok-added.ensures in
    given-added file.script.parent file.script.functions.items c.append.new.self.items added orphan c.in_ok-append.ensures.items members

pub returns-else-is_none-clause-given : goal.returns-else-is_none-clause-given
returns-else-is_none-clause-given c =
    let file = c.args.file.now in
    let child : is_some file.script.parent ≡ true = c.is_none.ensures ∙ ap not c.if-is_none.false in
    given-kept file.script.parent file.script.functions.items child
