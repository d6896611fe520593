use Rattle.std.proofs.Common.{◌≡◌, ◌<◌, length, map, take}
use Rattle.std.specs.List.{All}
use Rattle.core_tree.specs.declared.scene.BoundCall.{BoundCall}
use Rattle.stack_machine.specs.declared.plan.PlannedCall.{PlannedCall}
use Rattle.stack_machine.proofs.plan.planned_calls.Given as goal

abbrev pub invariant-loop-number : goal.invariant-loop-number
invariant-loop-number l =
    record {
      turns : map (λ (call : PlannedCall). call.turn) l.planned.items ≡ map (λ (call : BoundCall). call.turn) (take l.number l.calls);
      numbers : All (λ (call : PlannedCall). call.number < length l.calls) l.planned.items;
    }
