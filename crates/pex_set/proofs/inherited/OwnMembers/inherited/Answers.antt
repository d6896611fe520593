use Rattle.std.proofs.Common.{rules, ◌≡◌, ◌↔◌, ℕ, None, sym, subst}
use Rattle.std.specs.Prelude.{All}
use Rattle.std.specs.List.Sorted.{IsPermutation, IsSortedByKey, IsStableByKey}
use Rattle.std.specs.Result.{IfOk}
use Rattle.std.proofs.lemmas.List.Sorted.{answers_always}
use Rattle.std.proofs.lemmas.Result.{IfOk-weaker}
use Rattle.pex_set.specs.Inherited.{Names, position_cmp, found_in, Reaches, AreLaminar, IsNearest}
use Rattle.pex_set.specs.Sweep.{start_of, AreSorted, AreInOrder, AreCovered}
use Rattle.pex_set.proofs.Members.{AreSorted-from_key, nearest_from_sorted, absent_where_nearest}
use Rattle.pex_set.proofs.inherited.OwnMembers.inherited.Goals as goal

pub swept-requires : goal.swept-requires
swept-requires c =
    let sorted : IsSortedByKey start_of position_cmp c.sort_by_key.new.self.items = c.in_ok-sort_by_key.ensures.sorted start_of (answers_always _ _ _ (λ f a r q k. search rules)) in
    subst AreSorted (sym c.as_slice.ensures.value) (AreSorted-from_key c.sort_by_key.new.self.items sorted)

pub returns-clause-nearest : goal.returns-clause-nearest
returns-clause-nearest c =
    let added = c.self.inside.members.items in
    let members = c.as_slice.result.now in
    let same = c.as_slice.ensures.value in
    let moved : IsPermutation added members = subst (IsPermutation added) (sym same) c.in_ok-sort_by_key.ensures.permutation in
    let stable : IsStableByKey start_of position_cmp added members =
    subst (IsStableByKey start_of position_cmp added) (sym same) (c.in_ok-sort_by_key.ensures.stable start_of (answers_always _ _ _ (λ f a r q k. search rules)))
    in
    let sorted : IsSortedByKey start_of position_cmp members =
    subst (IsSortedByKey start_of position_cmp) (sym same) (c.in_ok-sort_by_key.ensures.sorted start_of (answers_always _ _ _ (λ f a r q k. search rules)))
    in
    subst (λ l. IfOk c.swept.result (λ found. AreLaminar l → (names : Names) (rank : ℕ) → IsNearest l names rank (found_in found names rank))) c.self.view_is (IfOk-weaker c.swept.result (λ found. AreInOrder members → AreCovered members found) (λ found. AreLaminar added → (names : Names) (rank : ℕ) → IsNearest added names rank (found_in found names rank)) (λ found covered laminar names rank. nearest_from_sorted added members found moved stable (AreSorted-from_key members sorted) covered laminar names rank) c.swept.ensures)

pub returns-clause-absent : goal.returns-clause-absent
returns-clause-absent c =
    let members = c.args.self in
    IfOk-weaker c.swept.result (λ found. AreLaminar members → (names : Names) (rank : ℕ) → IsNearest members names rank (found_in found names rank)) (λ found. AreLaminar members → (names : Names) (rank : ℕ) → (found_in found names rank ≡ None) ↔ All (λ m. ¬ Reaches m names rank) members) (λ found nearest laminar names rank. absent_where_nearest members names rank (found_in found names rank) (nearest laminar names rank)) (returns-clause-nearest c)
