use Rattle.std.proofs.Common.{◌≡◌, ◌+◌, ◌<◌, List, [], ◌++◌, length, take, sym, ap, subst, ◌∙◌, arith}
use Rattle.std.proofs.lemmas.Grind.{common_steps}
use Rattle.std.proofs.lemmas.List.{flat_map_more}
use Rattle.pex_verify.specs.Heads.{Placed, placed_in, placed_objects}
use Rattle.pex_verify.specs.Loading.{judged_by, AreObjects}
use Rattle.pex_verify.proofs.Pairs.{take_next}
use Rattle.pex_verify.proofs.verifier.load_files.Goals as goal

pub loop-source-preserved : goal.loop-source-preserved
loop-source-preserved c =
    let sources = c.args.sources.now in
    let i = c.loop-source.source-index in
    let done = take i sources in
    let source = c.source-item.result in
    let within : i < length sources = omega arith in
    let parts = c.load_file.new.parts in
    let wider : placed_objects done ++ placed_in source ≡ placed_objects (take (i + 1) sources) =
    flat_map_more placed_in [] done source ∙ ap placed_objects (sym (take_next sources i source source within c.source-item.is)) in
    (grind (arith, common_steps), c.in_ok-load_file.ensures.sound c.loop-source.invariant.1, subst (λ (l : List Placed). AreObjects (judged_by c.args.loader.now) l parts.scripts.items parts.outlines.items) wider (c.in_ok-load_file.ensures.objects (placed_objects done) c.loop-source.invariant.2))
