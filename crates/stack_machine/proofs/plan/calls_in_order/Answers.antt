use Rattle.std.proofs.Common.{rules}
use Rattle.std.proofs.lemmas.List.Sorted.{IsNonDecreasingBy-from_sort_by_key}
use Rattle.stack_machine.specs.declared.plan.PlannedCall.{PlannedCall}
use Rattle.stack_machine.proofs.Planning.{are_planned}
use Rattle.stack_machine.proofs.plan.calls_in_order.Goals as goal

pub returns : goal.returns
returns c =
    are_planned _ _ _ c.in_ok-planned.ensures.turns c.in_ok-planned.ensures.numbers c.sort_by_key.ensures.permutation (IsNonDecreasingBy-from_sort_by_key (λ (call : PlannedCall). call.turn) _ c.in_ok-sort_by_key.ensures.sorted (λ a r q k. search rules))
