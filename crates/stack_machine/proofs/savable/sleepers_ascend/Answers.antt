use Rattle.std.specs.Prelude.{Bool, nat_lt}
use Rattle.std.specs.List.{IsAllAdjacentAnswer}
use Rattle.std.proofs.Common.{◌≡◌, ℕ, subst, rules, of_calls}
use Rattle.std.proofs.lemmas.Fn.{always_returns_same}
use Rattle.machine_state.proofs.Growing.{adjacent_ascend}
use Rattle.stack_machine.proofs.savable.sleepers_ascend.Goals as goal

pub returns : goal.returns
returns c = λ passed.
    let answer = c.is_sorted_by.ensures.cases (λ a b. nat_lt a.0 b.0) (always_returns_same _ _ _ (λ a r f k. search (rules, of_calls))) in
    adjacent_ascend (λ (sleeper : ℕ × ℕ). sleeper.0) c.args.sleepers.now (subst (λ (r : Bool). IsAllAdjacentAnswer (λ x y b. b ≡ nat_lt x.0 y.0) c.args.sleepers.now r) passed answer)
