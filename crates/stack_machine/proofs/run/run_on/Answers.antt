use Rattle.std.proofs.Common.{◌≡◌, ◌-◌, ◌∙◌, suc, zero, true, false, refl, sym, arith, rules}
use Rattle.std.proofs.lemmas.Result.{err_from_is_err_and, IfOk-weaker}
use Rattle.body_runner.proofs.Kept.{loans_twice}
use Rattle.stack_machine.proofs.Passes.{act_before, engine_stops, last_pass, one_pass, passes_begun, pred_same, ran_loans, ready_after}
use Rattle.stack_machine.proofs.Sinks.{fault_behind_lines, lines_before, lines_more, lines_none}
use Rattle.stack_machine.proofs.run.run_on.Goals as goal

pub loop-left-init : goal.loop-left-init
loop-left-init g c = record {
  appended = lines_none _;
  count = refl;
  kinds = refl;
  ran = λ ready. passes_begun c.args.home.now _ c.saturating_sub-left.result c.args.from _ _ c.args.inner.now (c.saturating_sub-left.ensures ∙ sym (pred_same c.args.home.now.turn.now.setting.now.scene.quantum));
}

pub returns-in_err-halt-clause-appended : goal.returns-in_err-halt-clause-appended
returns-in_err-halt-clause-appended g c =
    let told = err_from_is_err_and c.from_residual.result c.from_residual.ensures.1 in
    fault_behind_lines c.from_residual.result told.0 _ _ _ told.1 c.loop-left.invariant.appended c.in_err-halt.ensures.appended

pub returns-then-not-is_pass : goal.returns-then-not-is_pass
returns-then-not-is_pass g c =
    let less : c.loop-left.left ≡ suc (c.loop-left.left - 1) = omega (arith, c.loop-left-test.true) in
    let no : c.is_pass.result ≡ false = search rules in
    record {
      appended = lines_more _ _ _ c.loop-left.invariant.appended c.in_ok-halt.ensures.appended;
      count = c.in_ok-halt.ensures.count ∙ c.loop-left.invariant.count;
      kinds = c.run_pass.ensures.kinds ∙ c.loop-left.invariant.kinds;
      ran = λ ready.
          let before = c.loop-left.invariant.ran ready in
          let here = ready_after c.args.home.now c.args.inner.now c.loop-left.inner before.kept ready in
          act_before c.args.home.now _ c.loop-left.place c.in_ok-halt.halt _ _ _ _ _ c.args.inner.now c.loop-left.inner c.run_pass.new.inner c.loop-left.left (c.loop-left.left - 1) less before (c.in_ok-halt.ensures.ran here) (sym c.is_pass.ensures ∙ no);
      loans = λ ready.
          let before = c.loop-left.invariant.ran ready in
          let here = ready_after c.args.home.now c.args.inner.now c.loop-left.inner before.kept ready in
          loans_twice c.args.inner.now c.loop-left.inner c.run_pass.new.inner before.kept.loans (c.in_ok-halt.ensures.ran here).kept.loans;
      stops = λ place body ready.
          let before = c.loop-left.invariant.ran ready in
          let here = ready_after c.args.home.now c.args.inner.now c.loop-left.inner before.kept ready in
          engine_stops c.args.home.now place body c.args.from c.in_ok-halt.halt _ _ _ _ c.args.inner.now c.run_pass.new.inner (act_before c.args.home.now _ c.loop-left.place c.in_ok-halt.halt _ _ _ _ _ c.args.inner.now c.loop-left.inner c.run_pass.new.inner c.loop-left.left (c.loop-left.left - 1) less before (c.in_ok-halt.ensures.ran here) (sym c.is_pass.ensures ∙ no));
    }

pub loop-left-preserved : goal.loop-left-preserved
loop-left-preserved g c =
    let less : c.loop-left.left ≡ suc (c.loop-left.left - 1) = omega (arith, c.loop-left-test.true) in
    let yes : c.is_pass.result ≡ true = search rules in
    record {
      appended = lines_more _ _ _ c.loop-left.invariant.appended c.in_ok-halt.ensures.appended;
      count = c.in_ok-halt.ensures.count ∙ c.loop-left.invariant.count;
      kinds = c.run_pass.ensures.kinds ∙ c.loop-left.invariant.kinds;
      ran = λ ready.
          let before = c.loop-left.invariant.ran ready in
          let here = ready_after c.args.home.now c.args.inner.now c.loop-left.inner before.kept ready in
          one_pass c.args.home.now _ c.loop-left.place c.in_ok-halt.halt _ _ _ _ _ c.args.inner.now c.loop-left.inner c.run_pass.new.inner c.loop-left.left (c.loop-left.left - 1) less before (c.in_ok-halt.ensures.ran here) (sym c.is_pass.ensures ∙ yes);
    }

pub returns-clause-appended : goal.returns-clause-appended
returns-clause-appended g c =
    lines_before c.run_pass-2.result _ _ _ c.loop-left.invariant.appended c.run_pass-2.ensures.appended

pub returns-clause-ran : goal.returns-clause-ran
returns-clause-ran g c = λ ready.
    let none : c.loop-left.left ≡ zero = omega (arith, c.loop-left-test.false) in
    let before = c.loop-left.invariant.ran ready in
    let here = ready_after c.args.home.now c.args.inner.now c.loop-left.inner before.kept ready in
    IfOk-weaker c.run_pass-2.result _ _ (λ halt r. last_pass c.args.home.now _ c.loop-left.place halt _ _ _ _ _ c.args.inner.now c.loop-left.inner c.run_pass-2.new.inner c.loop-left.left none before r) (c.run_pass-2.ensures.ran here)

pub returns-clause-loans : goal.returns-clause-loans
returns-clause-loans g c = λ ready.
    let before = c.loop-left.invariant.ran ready in
    let here = ready_after c.args.home.now c.args.inner.now c.loop-left.inner before.kept ready in
    ran_loans c.run_pass-2.result _ _ (λ halt r. loans_twice c.args.inner.now c.loop-left.inner c.run_pass-2.new.inner before.kept.loans r.kept.loans) (c.run_pass-2.ensures.ran here)

pub returns-clause-stops : goal.returns-clause-stops
returns-clause-stops g c = λ place body ready.
    let none : c.loop-left.left ≡ zero = omega (arith, c.loop-left-test.false) in
    let before = c.loop-left.invariant.ran ready in
    let here = ready_after c.args.home.now c.args.inner.now c.loop-left.inner before.kept ready in
    IfOk-weaker c.run_pass-2.result _ _ (λ halt r. engine_stops c.args.home.now place body c.args.from halt _ _ _ _ c.args.inner.now c.run_pass-2.new.inner (last_pass c.args.home.now _ c.loop-left.place halt _ _ _ _ _ c.args.inner.now c.loop-left.inner c.run_pass-2.new.inner c.loop-left.left none before r)) (c.run_pass-2.ensures.ran here)
