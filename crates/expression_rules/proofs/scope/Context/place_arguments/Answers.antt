use Rattle.std.proofs.Common.{Some, ℕ, subst}
use Rattle.std.proofs.lemmas.List.Elements.{All-pop}
use Rattle.expression_rules.specs.Ranges.{ArgumentsInRange, TypedInRange, bounds_of}
use Rattle.expression_rules.proofs.scope.Context.place_arguments.Goals as goal

pub given-init : goal.given-init
given-init c = λ given known.
    let b = bounds_of c.args.self.now in
    (given, subst (λ (count : ℕ). ArgumentsInRange b count c.in_ok-found.found) c.count.ensures (c.in_ok-found.ensures b))

pub given-preserved : goal.given-preserved
given-preserved c = λ given known.
    let b = bounds_of c.args.self.now in
    let so_far = c.given.invariant given known in
    let popped = All-pop (λ one. TypedInRange b one.value) c.given.given.items c.pop.new.self.items (Some c.in-Some.field-0) c.in-Some.ensures.items so_far.0 in
    (popped.0, c.in_ok-place_argument.ensures known so_far.1 popped.1)
