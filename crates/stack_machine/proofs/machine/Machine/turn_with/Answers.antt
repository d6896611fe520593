use Rattle.std.proofs.Common.{◌≡◌, ap, arith}
use Rattle.stack_machine.specs.Machine.{MachineView}
use Rattle.stack_machine.proofs.machine.Machine.turn_with.Goals as goal

pub overflow_add-self : goal.overflow_add-self
overflow_add-self g c =
    let same : c.self.inside.turns ≡ c.args.self.now.turns = ap (λ (machine : MachineView). machine.turns) c.self.view_is in
    omega (arith, same, c.has_ended.ensures.room c.if-has_ended.false)
