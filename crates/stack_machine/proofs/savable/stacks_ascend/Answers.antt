use Rattle.std.specs.Prelude.{Bool, nat_lt}
use Rattle.std.specs.List.{IsAllAdjacentAnswer}
use Rattle.std.specs.List.Sorted.{IsStrictlyIncreasing}
use Rattle.std.proofs.Common.{◌≡◌, ℕ, List, subst, rules, of_calls}
use Rattle.std.proofs.lemmas.Fn.{always_returns_same}
use Rattle.std.proofs.lemmas.List.{map-id}
use Rattle.machine_state.proofs.Growing.{adjacent_ascend}
use Rattle.stack_machine.proofs.savable.stacks_ascend.Goals as goal

pub returns : goal.returns
returns c = λ passed.
    let answer = c.is_sorted_by.ensures.cases (λ a b. nat_lt a b) (always_returns_same _ _ _ (λ a r f k. search (rules, of_calls))) in
    subst (λ (xs : List ℕ). IsStrictlyIncreasing xs) (map-id c.args.stacks.now)
    (adjacent_ascend (λ (stack : ℕ). stack) c.args.stacks.now (subst (λ (r : Bool). IsAllAdjacentAnswer (λ x y b. b ≡ nat_lt x y) c.args.stacks.now r) passed answer))
