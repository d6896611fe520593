use Rattle.std.proofs.Common.{◌≡◌, arith, length}
use Rattle.expression_rules.proofs.ArgumentLemmas.{arguments-none}
use Rattle.expression_rules.proofs.calls.Arguments.new.Goals as goal

pub returns : goal.returns
returns c = λ b.
    let counted : length c.in_ok-vec.field-0.items ≡ c.args.parameters = omega (arith, c.in_ok-vec.field-0.ok.0, c.in_ok-vec.ensures.len) in
    arguments-none b c.args.parameters _ c.in_ok-with_capacity.ensures.items c.in_ok-with_capacity-2.ensures.items counted
