use Rattle.std.specs.Prelude.{nat_lt}
use Rattle.std.specs.declared.alloc.Global.{Global}
use Rattle.std.specs.declared.vec.Vec.{Vec}
use Rattle.std.proofs.Common.{ℕ, List, sym, ap, ◌∙◌, rules, of_calls}
use Rattle.std.proofs.lemmas.Fn.{always_returns_same}
use Rattle.std.proofs.lemmas.List.{map-id}
use Rattle.machine_state.specs.Ranges.{IsU16}
use Rattle.pex_values.specs.Spelling.{list, two_bytes}
use Rattle.stack_save.specs.Reading.{ascending, list_at, number_at}
use Rattle.stack_save.proofs.Ascends.{ascending_taken, descending_missing, sorted_answer}
use Rattle.stack_save.proofs.loading.take_free.Goals as goal

pub returns-then-not-is_sorted_by : goal.returns-then-not-is_sorted_by
returns-then-not-is_sorted_by c =
    let answer = sorted_answer (λ (stack : ℕ). stack) c.deref.result.now c.is_sorted_by.result (c.is_sorted_by.ensures.cases (λ a b. nat_lt a b) (always_returns_same _ _ _ (λ a r f k. search (rules, of_calls)))) in
    let failed = ap ascending (sym c.deref.ensures.value) ∙ (ap ascending (sym (map-id c.deref.result.now)) ∙ (sym answer ∙ c.if-not-is_sorted_by.true)) in
    descending_missing (λ (taken : Vec ℕ Global). taken.items) (λ (free : List ℕ). free) IsU16 (list two_bytes) (list_at (number_at 2)) c.refused.result c.in_ok-free.free.items c.args.cursor.now.rest.now c.take_list.new.cursor.rest.now
    c.refused.ensures c.in_ok-free.ensures.found failed

pub returns : goal.returns
returns c =
    let answer = sorted_answer (λ (stack : ℕ). stack) c.deref.result.now c.is_sorted_by.result (c.is_sorted_by.ensures.cases (λ a b. nat_lt a b) (always_returns_same _ _ _ (λ a r f k. search (rules, of_calls)))) in
    let passed = ap ascending (sym c.deref.ensures.value) ∙ (ap ascending (sym (map-id c.deref.result.now)) ∙ (sym answer ∙ c.if-not-is_sorted_by.false)) in
    ascending_taken (λ (free : List ℕ). free) IsU16 (list two_bytes) (list_at (number_at 2) c.args.cursor.now.rest.now) c.in_ok-free.free.items c.args.cursor.now.rest.now c.take_list.new.cursor.rest.now c.in_ok-free.ensures passed
