use Rattle.std.proofs.Common.{◌≡◌, length, vec_len}
use Rattle.stack_places.specs.Places.{due_in}
use Rattle.stack_machine.specs.Standing.{Stands}
use Rattle.stack_machine.proofs.Waking.{Woken}
use Rattle.stack_machine.proofs.world.World.wake.Given as goal

abbrev pub invariant-loop-stack : goal.invariant-loop-stack
invariant-loop-stack g l =
    let notes = g.N.MoveSink in
    record {
      stands : Stands (vec_len l.fn.self.stacks) l.self.last l.self.places;
      stacks : l.self.stacks ≡ l.fn.self.stacks;
      room : l.self.places.room ≡ l.fn.self.places.room;
      woken : Woken l.turn (vec_len l.fn.self.stacks) l.self.places (notes.noted l.fn.notes) (notes.noted l.notes);
    }

abbrev pub decreases-loop-stack : goal.decreases-loop-stack
decreases-loop-stack g l = length (due_in l.turn l.self.places.lists)
