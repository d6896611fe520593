use Rattle.std.proofs.Common.{◌≡◌, ◌+◌, ◌≤◌, ◌<◌, vec_len}
use Rattle.stack_machine.specs.Moves.{AreStarts, Noted}
use Rattle.stack_machine.specs.Plans.{planned_before}
use Rattle.stack_machine.specs.Standing.{Stands}
use Rattle.stack_machine.proofs.world.World.start_stacks.Given as goal

abbrev pub invariant-loop-planned : goal.invariant-loop-planned
invariant-loop-planned g l =
    let notes = g.N.MoveSink in
    record {
      stands : Stands (vec_len l.self.stacks) l.self.last l.self.places;
      room : l.self.places.room ≡ l.fn.self.places.room;
      started : vec_len l.self.stacks ≡ vec_len l.fn.self.stacks + l.planned-index;
      few : vec_len l.self.stacks ≤ planned_before (l.turn + 1) l.plan.calls.items;
      noted : Noted (AreStarts (vec_len l.fn.self.stacks) (vec_len l.self.stacks)) (notes.noted l.fn.notes) (notes.noted l.notes);
    }
