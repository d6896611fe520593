-- Which stacks have started in a world that goes on from a state.
use Rattle.std.proofs.Common.{◌≡◌, ℕ, ◌<◌, ◌≤◌, List, length, vec_len, ◌∙◌, arith}
use Rattle.std.specs.declared.alloc.Global.{Global}
use Rattle.std.specs.declared.vec.Vec.{Vec}
use Rattle.core_tree.specs.declared.scene.BoundCall.{BoundCall}
use Rattle.lock_queue.specs.LockTable.{start_after}
use Rattle.stack_machine.specs.declared.plan.PlannedCall.{PlannedCall}
use Rattle.stack_machine.specs.declared.world.World.{World}
use Rattle.stack_machine.specs.Plans.{ArePlanned, HasBegun, calls_before}
use Rattle.stack_machine.specs.Standing.{ArePlaced}
use Rattle.stack_machine.proofs.Standings.{placed_stands}

pub has_begun : (planned : List PlannedCall) (calls : Vec BoundCall Global) (world : World) (instances turn count : ℕ) → ArePlanned planned calls.items → vec_len calls < 65536 → ArePlaced instances (vec_len calls) (vec_len world.stacks) world.places → start_after world.last ≤ vec_len world.stacks → vec_len world.stacks ≡ count → count ≡ calls_before turn calls.items → count ≤ vec_len calls → HasBegun planned calls.items world turn
has_begun planned calls world instances turn count plan few placed last started before within =
    let same = calls.ok.0 in
    record {
      calls_planned = plan;
      few = omega (arith, same, few);
      room = let r = placed.room_is in omega (arith, same, r);
      started = started ∙ before;
      stands = placed_stands instances (vec_len calls) (vec_len world.stacks) world.last world.places placed (omega (arith, started, within)) last;
    }
