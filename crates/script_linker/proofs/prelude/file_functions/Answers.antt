use Rattle.std.proofs.Common.{◌≡◌, ◌||◌, ◌∙◌, [], true, ap, is_some, map, subst, sym}
use Rattle.std.proofs.lemmas.Result.{IfOk-weaker}
use Rattle.script_linker.specs.Generated.{AreMembers}
use Rattle.script_linker.specs.Rows.{lacking_among, member_of, standard_of}
use Rattle.script_linker.proofs.GeneratedLemmas.{own_members}
use Rattle.script_linker.proofs.prelude.file_functions.Goals as goal
use Rattle.script_linker.proofs.prelude.file_functions.Goals.{then-row, else-row}

pub returns-then-is_some : goal.returns-then-is_some
returns-then-is_some c =
    let row = c.args.row.now in
    let own : (row.is_library || is_some row.parent) ≡ true = elim c.if-row.branch [
      | then-row w ↦ ap (λ b. b || is_some row.parent) w.if-row.true
      | else-row w ↦ ap (λ b. b || is_some row.parent) w.if-row.false ∙ sym w.is_some.ensures ∙ sym w.value-is ∙ c.if-is_some.true
    ] in
    IfOk-weaker c.lacking_functions.result (λ functions. AreMembers (lacking_among (map member_of row.functions.now) []) functions.items) (λ functions. AreMembers (standard_of row).members functions.items)
    (λ functions are. subst (λ members. AreMembers members functions.items) (own_members row own) are) c.lacking_functions.ensures
