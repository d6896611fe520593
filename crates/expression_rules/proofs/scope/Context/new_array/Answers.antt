use Rattle.std.proofs.Common.{subst}
use Rattle.core_tree.proofs.Views.{expression_views}
use Rattle.core_tree.specs.InRange.{ResultInRange}
use Rattle.expression_rules.specs.Ranges.{bounds_of}
use Rattle.expression_rules.proofs.scope.Context.new_array.Goals as goal

pub returns : goal.returns
returns c =
    let functions = (bounds_of c.args.self.now).functions in
    let element = subst (ResultInRange functions) c.in-Some.is c.element_type.ensures.in_range in
    c.known.ensures (simp expression_views (element, tt)) (c.array_of.ensures.in_range functions element)
