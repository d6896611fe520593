use Rattle.std.proofs.Common.{◌≡◌, length}
use Rattle.script_meaning.specs.World.{World}
use Rattle.script_meaning.specs.Turns.{all_wait}
use Rattle.stack_places.specs.Places.{due_in, placed, without_due}
use Rattle.stack_places.specs.Waking.{AreThere, SleepAlone}
use Rattle.stack_places.proofs.waking.wake_all.Given as goal

abbrev pub invariant-loop-stack : goal.invariant-loop-stack
invariant-loop-stack g l =
    let here = l.places.lists in
    let first = l.fn.places.lists in
    let stacks = g.T.Stacks.stacks l.stacks in
    record {
      alone : SleepAlone l.turn here;
      there : AreThere l.turn l.places.instances stacks here;
      instances : l.places.instances ≡ l.fn.places.instances;
      room : l.places.room ≡ l.fn.places.room;
      woke : (w : World) → all_wait stacks (due_in l.turn here) (placed (without_due l.turn here) w) ≡ all_wait stacks (due_in l.turn first) (placed (without_due l.turn first) w);
    }

abbrev pub decreases-loop-stack : goal.decreases-loop-stack
decreases-loop-stack g l = length (due_in l.turn l.places.lists)
