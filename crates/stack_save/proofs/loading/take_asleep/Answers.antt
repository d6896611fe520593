use Rattle.std.specs.Prelude.{nat_lt}
use Rattle.std.specs.declared.alloc.Global.{Global}
use Rattle.std.specs.declared.vec.Vec.{Vec}
use Rattle.std.proofs.Common.{ℕ, List, sym, ap, ◌∙◌, rules, of_calls}
use Rattle.std.proofs.lemmas.Fn.{always_returns_same}
use Rattle.machine_state.specs.Ranges.{IsSleeperInRange}
use Rattle.machine_state.specs.Savable.{firsts}
use Rattle.pex_values.specs.Spelling.{list}
use Rattle.stack_save.specs.Reading.{ascending, list_at, sleeper_at}
use Rattle.stack_save.specs.Spelling.{sleeper}
use Rattle.stack_save.proofs.Ascends.{ascending_taken, descending_missing, sorted_answer}
use Rattle.stack_save.proofs.loading.take_asleep.Goals as goal

pub returns-then-not-is_sorted_by : goal.returns-then-not-is_sorted_by
returns-then-not-is_sorted_by c =
    let answer = sorted_answer (λ (sleeper : ℕ × ℕ). sleeper.0) c.deref.result.now c.is_sorted_by.result (c.is_sorted_by.ensures.cases (λ a b. nat_lt a.0 b.0) (always_returns_same _ _ _ (λ a r f k. search (rules, of_calls)))) in
    let failed = ap (λ (xs : List (ℕ × ℕ)). ascending (firsts xs)) (sym c.deref.ensures.value) ∙ (sym answer ∙ c.if-not-is_sorted_by.true) in
    descending_missing (λ (taken : Vec (ℕ × ℕ) Global). taken.items) firsts IsSleeperInRange (list sleeper) (list_at sleeper_at) c.refused.result c.in_ok-asleep.asleep.items c.args.cursor.now.rest.now c.take_list.new.cursor.rest.now
    c.refused.ensures c.in_ok-asleep.ensures.found failed

pub returns : goal.returns
returns c =
    let answer = sorted_answer (λ (sleeper : ℕ × ℕ). sleeper.0) c.deref.result.now c.is_sorted_by.result (c.is_sorted_by.ensures.cases (λ a b. nat_lt a.0 b.0) (always_returns_same _ _ _ (λ a r f k. search (rules, of_calls)))) in
    let passed = ap (λ (xs : List (ℕ × ℕ)). ascending (firsts xs)) (sym c.deref.ensures.value) ∙ (sym answer ∙ c.if-not-is_sorted_by.false) in
    ascending_taken firsts IsSleeperInRange (list sleeper) (list_at sleeper_at c.args.cursor.now.rest.now) c.in_ok-asleep.asleep.items c.args.cursor.now.rest.now c.take_list.new.cursor.rest.now c.in_ok-asleep.ensures passed
