use Rattle.std.proofs.Common.{None, rules, ◌∙◌, sym, ap}
use Rattle.std.proofs.lemmas.List.Sorted.{IsPartitionPoint-from_clause}
use Rattle.pex_set.specs.Inherited.{Position, is_up_to, found_from, Ascends}
use Rattle.pex_set.specs.Sweep.{member_of}
use Rattle.pex_set.proofs.Stretches.{Ascends-partitioned, found_from-point}
use Rattle.pex_set.proofs.inherited.Inherited.find.Goals as goal

pub returns : goal.returns
returns c =
    let position : Position = (c.args.names, c.args.rank) in
    let stretches = c.as_slice-stretches.result.now in
    let same = c.as_slice-stretches.ensures.value in
    let ascends : Ascends stretches = rw same c.self.invariant in
    let behind = c.partition_point-behind.ensures in
    let point = IsPartitionPoint-from_clause (λ stretch. is_up_to stretch.start position) stretches _ behind.partitioned (Ascends-partitioned stretches position ascends) (λ a r q k. search rules) in
    c.member_of.ensures ∙ ap member_of c.last.ensures ∙ sym (found_from-point stretches position _ behind.bound point) ∙ ap (λ l. found_from l position None) (same ∙ c.self.view_is)
