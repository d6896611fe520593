use Rattle.core_tree.proofs.Views.{expression_views}
use Rattle.expression_rules.specs.Ranges.{bounds_of}
use Rattle.expression_rules.proofs.scope.Context.element.Goals as goal

pub returns-in-Some : goal.returns-in-Some
returns-in-Some c = λ of at.
    let b = bounds_of c.args.self.now in
    let element = c.in-Some.ensures b.functions of.kind in
    c.known.ensures (simp expression_views (element, (of.core, (c.in_ok-at.ensures b tt at, tt)))) element
