use Rattle.std.proofs.Common.{arith}
use Rattle.stack_machine.proofs.Planning.{begun_at_first}
use Rattle.stack_machine.proofs.machine.Machine.start.Goals as goal

pub invariant_of-result : goal.invariant_of-result
invariant_of-result g c =
    let first = c.in_ok-first.ensures in
    let fresh = first.fresh in
    let none = fresh.stacks in
    let same = c.args.scene.calls.ok.0 in
    let few = c.requires.calls in
    (c.requires.instances, few, omega arith, omega (arith, none), λ _. begun_at_first _ _ _ _ _ first.planned fresh (omega (arith, same)) (omega (arith, same, few)))
