use Rattle.std.proofs.Common.{◌≡◌, ◌+◌, ◌<◌, List, [], ◌++◌, length, take, sym, ap, subst, ◌∙◌, arith}
use Rattle.std.proofs.lemmas.Grind.{common_steps}
use Rattle.std.proofs.lemmas.List.{flat_map_more}
use Rattle.pex_set.specs.declared.objects.Head.{Head}
use Rattle.pex_verify.specs.Heads.{Placed, placed_in, placed_objects, AreNumbered}
use Rattle.pex_verify.proofs.Objects.{AreNumbered-file}
use Rattle.pex_verify.proofs.Pairs.{take_next}
use Rattle.pex_verify.proofs.sources.objects_of.Goals as goal

pub loop-source-preserved : goal.loop-source-preserved
loop-source-preserved c =
    let sources = c.args.sources.now in
    let i = c.loop-source.source-index in
    let done = take i sources in
    let source = c.source-item.result in
    let within : i < length sources = omega arith in
    let heads = c.in_ok-add_file.ensures.heads in
    let wider : placed_objects done ++ placed_in source ≡ placed_objects (take (i + 1) sources) =
    flat_map_more placed_in [] done source ∙ ap placed_objects (sym (take_next sources i source source within c.source-item.is)) in (
      grind (arith, common_steps),
      subst (λ (l : List Placed). AreNumbered l c.add_file.new.self) wider
          (subst (λ (l : List Head). AreNumbered (placed_objects done ++ placed_in source) l) (sym heads.1) (AreNumbered-file source heads.0 source.pex.now.objects.items (placed_objects done) c.loop-source.objects c.loop-source.invariant.1)),
    )
