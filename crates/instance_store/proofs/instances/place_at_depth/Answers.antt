use Rattle.std.proofs.Common.{ap, sym, ◌∙◌, arith}
use Rattle.instance_store.proofs.Levels.{unknown, too_deep, other, found, number_in}
use Rattle.instance_store.proofs.instances.place_at_depth.Goals as goal

pub returns-in_default-clause-found : goal.returns-in_default-clause-found
returns-in_default-clause-found c =
    sym (unknown c.args.depths.now c.args.scripts.now c.args.script c.requires (grind (arith, c.depth_of.ensures, c.in_default.is, c.in_default.ensures)))

pub returns-then-depth-scripts-clause-found : goal.returns-then-depth-scripts-clause-found
returns-then-depth-scripts-clause-found c =
    sym (too_deep c.args.depths.now c.args.scripts.now c.args.script c.in-Some.depth c.requires (sym c.depth_of.ensures ∙ c.in-Some.is) c.if-depth-scripts.true)

pub returns-then-found-script-clause-found : goal.returns-then-found-script-clause-found
returns-then-found-script-clause-found c =
    sym (other c.args.depths.now c.args.scripts.now c.args.script c.in-Some.depth c.requires (sym c.depth_of.ensures ∙ c.in-Some.is) c.if-depth-scripts.false (λ same. c.if-found-script.true (ap (λ part. part.script) (c.found.view_is ∙ c.index-scripts-place.is) ∙ (number_in c.args.scripts.now _ c.index-scripts-place.result (omega (arith, c.if-depth-scripts.false)) ∙ same))))

pub returns-clause-found : goal.returns-clause-found
returns-clause-found c =
    sym (found c.args.depths.now c.args.scripts.now c.args.script c.in-Some.depth c.requires (sym c.depth_of.ensures ∙ c.in-Some.is) c.if-depth-scripts.false (sym (ap (λ part. part.script) (c.found.view_is ∙ c.index-scripts-place.is) ∙ number_in c.args.scripts.now _ c.index-scripts-place.result (omega (arith, c.if-depth-scripts.false))) ∙ c.if-found-script.false))
