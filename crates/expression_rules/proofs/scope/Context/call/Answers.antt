use Rattle.std.proofs.Common.{◌≡◌, ℕ, ap, length, subst, IfSome}
use Rattle.std.specs.Prelude.{Option}
use Rattle.expression_rules.specs.declared.calls.Arguments.{Arguments}
use Rattle.expression_rules.specs.Ranges.{CompleteInRange, bounds_of, heading_count}
use Rattle.expression_rules.proofs.scope.Context.call.Goals as goal

pub returns-in_ok-call_tree-in-Some : goal.returns-in_ok-call_tree-in-Some
returns-in_ok-call_tree-in-Some c = λ form given.
    let b = bounds_of c.args.self.now in
    let heading = c.args.heading.now in
    let count : length c.as_slice.result.now ≡ heading_count heading = ap length c.as_slice.ensures.value in
    let here : CompleteInRange b (length c.as_slice.result.now) c.in-Some.found = subst (λ (f : Option Arguments). IfSome f (CompleteInRange b (length c.as_slice.result.now))) c.in-Some.is (c.in_ok-found.ensures given tt) in
    let complete = subst (λ (n : ℕ). CompleteInRange b n c.in-Some.found) count here in
    c.typed.ensures (c.in_ok-call_tree-in-Some.ensures b (heading_count heading) form complete c.result_of-result_type.ensures.0) c.result_of-result_type.ensures.1
