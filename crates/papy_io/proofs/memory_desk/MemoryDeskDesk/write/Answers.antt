use Rattle.std.proofs.Common.{Ok, Some, ap, sym, subst}
use Rattle.papy_io.specs.Desk.{WritesOn}
use Rattle.papy_io.specs.MemoryWork.{WorksOn, activity_in}
use Rattle.papy_io.proofs.DeskSteps.{append_changes, is_held}
use Rattle.papy_io.proofs.memory_desk.MemoryDeskDesk.write.Goals as goal

pub invariant_of-self-2 : goal.invariant_of-self-2
invariant_of-self-2 c =
    let grown = rw c.as_slice.ensures.value at c.in_ok-append-in-Writing.ensures.ok in
    subst (WorksOn c.append.new.self) (sym c.in-Writing.is) (is_held _ c.append.new.self c.in-Writing.name.items _ grown)

pub returns-clause-holds : goal.returns-clause-holds
returns-clause-holds c =
    let files = c.self.inside.files in
    let name = c.in-Writing.name.items in
    let grown = rw c.as_slice.ensures.value at c.in_ok-append-in-Writing.ensures.ok in
    let held = subst (WorksOn files) c.in-Writing.is c.self.invariant in
    let busy = ap (activity_in files) c.in-Writing.is in
    rw (← c.self.view_is) (subst (λ a. WritesOn a (Ok tt) c.args.bytes.now (Some files) (Some c.append.new.self)) (sym busy) (append_changes name c.args.bytes.now files c.append.new.self held grown))
