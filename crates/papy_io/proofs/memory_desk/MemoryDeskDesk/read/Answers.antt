use Rattle.std.proofs.Common.{subst, sym}
use Rattle.papy_io.specs.Activity.{IsReading}
use Rattle.papy_io.specs.MemoryDesk.{MemoryState}
use Rattle.papy_io.proofs.DeskSteps.{reads_missed}
use Rattle.papy_io.proofs.memory_desk.MemoryDeskDesk.read.Goals as goal

pub invariant_of-self : goal.invariant_of-self
invariant_of-self c = c.miss.ensures.place c.self.inside.files c.self.invariant

pub returns-then-is_to_fail-clause-after : goal.returns-then-is_to_fail-clause-after
returns-then-is_to_fail-clause-after c =
    let reading = subst (λ (s : MemoryState). IsReading s.busy) (sym c.self.view_is) c.requires.reading in
    rw (← c.self.view_is) (reads_missed _ _ _ _ reading (c.miss.ensures.missed c.self.inside.files _) (cc (c.miss.ensures.busy c.self.inside.files)))
