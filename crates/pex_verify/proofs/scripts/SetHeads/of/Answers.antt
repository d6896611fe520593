use Rattle.std.proofs.Common.{◌≡◌, ℕ, List, sym, subst, ◌∙◌, vec_len}
use Rattle.pex_verify.specs.Heads.{placed_objects}
use Rattle.pex_verify.specs.Meanings.{Meanings, result_meaning}
use Rattle.pex_verify.specs.Types.{IsValueTypeAmong}
use Rattle.pex_verify.proofs.Tables.{no_members-at, IsTable-of}
use Rattle.pex_set.specs.declared.objects.Head.{Head}
use Rattle.pex_verify.specs.TypesMeant.{AreTypes}
use Rattle.pex_verify.proofs.scripts.SetHeads.of.Goals as goal

pub returns-clause-meanings : goal.returns-clause-meanings
returns-clause-meanings c = λ name.
    let types = c.in_ok-types.types in
    let heads = c.in_ok-all_heads.field-0 in
    let count : types.scripts ≡ vec_len heads = c.in_ok-types.ensures.scripts ∙ c.requires ∙ sym c.in_ok-all_heads.ensures.count in
    subst (λ (t : Meanings). IsValueTypeAmong (vec_len heads) (result_meaning t name)) (sym c.types.view_is)
    (subst (λ (n : ℕ). IsValueTypeAmong n (result_meaning types name)) count (c.in_ok-types.ensures.meanings name))

pub returns-clause-table : goal.returns-clause-table
returns-clause-table c = λ among rooted.
    let start = c.in_ok-lists.lists in
    let given = c.in_ok-lists.ensures in
    let heads = c.in_ok-all_heads.field-0.items in
    let made = c.in_ok-inherited.ensures in
    let all = c.in_ok-all_heads.ensures.lists start.descent (no_members-at start given.methods given.properties) in
    IsTable-of c.args.parents.now (placed_objects c.args.sources.now) heads start.descent c.all_heads.new.lists c.in_ok-inherited.field-0 given.count (given.descent among rooted) all made.descent made.methods made.properties

pub returns-clause-types : goal.returns-clause-types
returns-clause-types c =
    subst (λ (o : List Head). AreTypes c.args.table.now o (record { scripts = c.types.inside.scripts; meanings = c.types.inside.meanings.items })) (sym c.objects.view_is)
    (subst (λ (t : Meanings). AreTypes c.args.table.now c.args.objects t) (sym c.types.view_is) c.in_ok-types.ensures.meant)
