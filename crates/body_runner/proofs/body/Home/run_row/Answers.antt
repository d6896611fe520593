use Rattle.std.proofs.Common.{◌<◌, ◌≤◌, subst, arith, rules}
use Rattle.body_runner.specs.Steps.{Steps}
use Rattle.body_runner.proofs.InRows.{at_end, begins, on_ahead, on_back, on_done, on_halt, sized, there_after}
use Rattle.body_runner.proofs.body.Home.run_row.Goals as goal

pub loop-place-init : goal.loop-place-init
loop-place-init c = record { ahead = search rules; room = search rules; ran = λ there coded. begins c.args.self.now c.args.from c.args.inner.now }

pub loop-place-preserved-in-Done : goal.loop-place-preserved-in-Done
loop-place-preserved-in-Done c =
    let home = c.args.self.now in
    let i = c.index-code-place.result in
    let all = c.as_slice-code.result.now in
    let same = c.as_slice-code.ensures.value in
    record {
      ahead = search rules;
      room = search rules;
      ran = λ there coded.
          let before = c.loop-place.invariant.ran there coded in
          let step = c.in_ok-halt.ensures (there_after home c.args.inner.now c.loop-place.inner before.kept there) (sized home c.loop-place.place i all same c.loop-place-test.true c.index-code-place.is coded) in
          on_done home c.loop-place.place i all same c.loop-place-test.true c.index-code-place.is c.args.inner.now c.args.from c.loop-place.inner c.step.new.inner (subst (λ s. Steps home i s c.loop-place.inner c.step.new.inner) c.in-Done.is step) before;
    }

pub loop-place-preserved : goal.loop-place-preserved
loop-place-preserved c =
    let home = c.args.self.now in
    let i = c.index-code-place.result in
    let all = c.as_slice-code.result.now in
    let same = c.as_slice-code.ensures.value in
    let over : c.loop-place.place < c.in-Jump.landing = omega (arith, c.if-from-place.false, c.from.ensures) in
    record {
      ahead = omega (arith, over, c.from-place.ensures, c.loop-place.invariant.ahead);
      room = search rules;
      ran = λ there coded.
          let before = c.loop-place.invariant.ran there coded in
          let step = c.in_ok-halt.ensures (there_after home c.args.inner.now c.loop-place.inner before.kept there) (sized home c.loop-place.place i all same c.loop-place-test.true c.index-code-place.is coded) in
          on_ahead home c.loop-place.place i all same c.loop-place-test.true c.index-code-place.is c.args.inner.now c.args.from c.in-Jump.landing c.from-place.result c.loop-place.inner c.step.new.inner coded (subst (λ s. Steps home i s c.loop-place.inner c.step.new.inner) c.in-Jump.is step) over c.from-place.ensures before;
    }

pub returns-then-from-place-clause-means : goal.returns-then-from-place-clause-means
returns-then-from-place-clause-means c =
    let home = c.args.self.now in
    let i = c.index-code-place.result in
    let all = c.as_slice-code.result.now in
    let same = c.as_slice-code.ensures.value in
    let behind : c.in-Jump.landing ≤ c.loop-place.place = omega (arith, c.if-from-place.true, c.from.ensures) in
    λ there coded.
    let before = c.loop-place.invariant.ran there coded in
    let step = c.in_ok-halt.ensures (there_after home c.args.inner.now c.loop-place.inner before.kept there) (sized home c.loop-place.place i all same c.loop-place-test.true c.index-code-place.is coded) in
    on_back home c.loop-place.place i all same c.loop-place-test.true c.index-code-place.is c.args.inner.now c.args.from c.in-Jump.landing c.loop-place.inner c.step.new.inner coded (subst (λ s. Steps home i s c.loop-place.inner c.step.new.inner) c.in-Jump.is step) behind before

pub returns-in_default-clause-means : goal.returns-in_default-clause-means
returns-in_default-clause-means c =
    let home = c.args.self.now in
    let i = c.index-code-place.result in
    let all = c.as_slice-code.result.now in
    let same = c.as_slice-code.ensures.value in
    λ there coded.
    let before = c.loop-place.invariant.ran there coded in
    let step = c.in_ok-halt.ensures (there_after home c.args.inner.now c.loop-place.inner before.kept there) (sized home c.loop-place.place i all same c.loop-place-test.true c.index-code-place.is coded) in
    on_halt home c.loop-place.place i all same c.loop-place-test.true c.index-code-place.is c.args.inner.now c.args.from c.in_ok-halt.halt c.loop-place.inner c.step.new.inner step c.in_default.not-Done c.in_default.not-Jump before

pub returns-clause-means : goal.returns-clause-means
returns-clause-means c =
    let home = c.args.self.now in
    λ there coded.
    at_end home c.args.from c.loop-place.place c.args.inner.now c.loop-place.inner (omega (arith, c.loop-place-test.false, c.as_slice-code.ensures.len, home.function.now.code.ok.0)) (c.loop-place.invariant.ran there coded)
