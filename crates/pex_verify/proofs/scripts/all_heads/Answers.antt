use Rattle.std.proofs.Common.{◌≡◌, ◌+◌, ◌<◌, List, [], ◌++◌, length, take, sym, ap, subst, ◌∙◌, arith}
use Rattle.std.proofs.lemmas.Grind.{common_steps}
use Rattle.std.proofs.lemmas.List.{flat_map_more}
use Rattle.pex_verify.specs.Heads.{Placed, AreHeads, members_of, placed_in, placed_objects}
use Rattle.pex_verify.specs.Tables.{all_members}
use Rattle.pex_verify.proofs.Pairs.{take_next}
use Rattle.pex_verify.proofs.scripts.all_heads.Goals as goal

pub loop-source-preserved : goal.loop-source-preserved
loop-source-preserved c =
    let sources = c.args.sources.now in
    let members = members_of c.args.members.now in
    let i = c.loop-source.source-index in
    let done = take i sources in
    let source = c.source-item.result in
    let within : i < length sources = omega arith in
    let wider : placed_objects done ++ placed_in source ≡ placed_objects (take (i + 1) sources) =
    flat_map_more placed_in [] done source ∙ ap placed_objects (sym (take_next sources i source source within c.source-item.is)) in (
      grind (arith, common_steps),
      subst (λ (l : List Placed). AreHeads members c.args.parents.now l c.add_heads.new.heads.items) wider (c.in_ok-add_heads.ensures.heads (placed_objects done) c.loop-source.invariant.1),
      λ descent given.
          subst (λ (l : List Placed). c.add_heads.new.lists ≡ all_members descent l c.add_heads.new.heads.items) wider (c.in_ok-add_heads.ensures.lists descent (placed_objects done) (omega (arith, c.loop-source.invariant.1.count)) (c.loop-source.invariant.2 descent given)),
    )
