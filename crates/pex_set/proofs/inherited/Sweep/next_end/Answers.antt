use Rattle.std.proofs.Common.{None, ◌∙◌, sym, ap, arith}
use Rattle.std.specs.List.{last_or}
use Rattle.pex_set.proofs.Stretches.{popped, last_or-nonempty}
use Rattle.pex_set.proofs.inherited.Sweep.next_end.Goals as goal

pub returns-clause-ends : goal.returns-clause-ends
returns-clause-ends c =
    let ends = c.args.self.now.ends in
    let seen = ap (last_or None) (sym c.as_slice.ensures.value) ∙ sym c.last.ensures ∙ c.in_ok-end.was in
    let some = c.pop.ensures.variant.1 (omega (arith, last_or-nonempty ends.items c.in_ok-end.end seen, ends.ok.0)) in
    (popped ends.items c.pop.new.self.items c.pop.result c.in_ok-end.end seen c.pop.ensures.items some, sym c.is_up_to.ensures ∙ c.if-not-is_up_to.false)
