use Rattle.std.proofs.Common.{◌≡◌, ◌+◌, ◌≤◌, ◌∙◌, suc, length, refl, arith}
use Rattle.std.proofs.lemmas.Result.{err_from_is_err_and}
use Rattle.stack_machine.proofs.Passes.{ready_after}
use Rattle.stack_machine.proofs.Runs.{begun, is_halt, on_end, row_comes, row_goes, run_comes}
use Rattle.stack_machine.proofs.Sinks.{fault_behind_lines, lines_more, lines_none}
use Rattle.stack_machine.proofs.run.run_pass.Goals as goal

pub loop-place-init : goal.loop-place-init
loop-place-init g c = record { appended = lines_none _; count = refl; kinds = refl; ran = λ ready. begun c.args.home.now c.args.from _ _ c.args.inner.now }

pub returns-in_err-halt-clause-appended : goal.returns-in_err-halt-clause-appended
returns-in_err-halt-clause-appended g c =
    let told = err_from_is_err_and c.from_residual-in_err-halt.result c.from_residual-in_err-halt.ensures.1 in
    fault_behind_lines c.from_residual-in_err-halt.result told.0 _ _ _ told.1 c.loop-place.invariant.appended c.in_err-halt.ensures.appended

pub returns-in-Some-clause-appended : goal.returns-in-Some-clause-appended
returns-in-Some-clause-appended g c =
    lines_more _ _ _ c.loop-place.invariant.appended c.in_ok-halt.ensures.appended

pub returns-in-Some-clause-ran : goal.returns-in-Some-clause-ran
returns-in-Some-clause-ran g c = λ ready.
    let home = c.args.home.now in
    let before = c.loop-place.invariant.ran ready in
    let here = ready_after home c.args.inner.now c.loop-place.inner before.kept ready in
    let row = c.in_ok-row.ensures.means here.there here.coded in
    let middle = ready_after home c.loop-place.inner c.run_row.new.inner row.kept here in
    row_comes home _ c.loop-place.place c.in_ok-row.row.place c.in_ok-row.row.halt c.in-Some.halt _ _ _ _ _ c.args.inner.now c.loop-place.inner c.run_row.new.inner c.follow.new.inner before row c.in_ok-halt.field-0 (c.in_ok-halt.ensures.follows middle (is_halt home c.loop-place.place c.in_ok-row.row.place c.in_ok-row.row.halt c.loop-place.inner c.run_row.new.inner row.means)) c.in-Some.is

pub loop-place-preserved : goal.loop-place-preserved
loop-place-preserved g c =
    let next : c.in_ok-row.row.place + 1 ≡ suc c.in_ok-row.row.place = omega arith in
    record {
      appended = lines_more _ _ _ c.loop-place.invariant.appended c.in_ok-halt.ensures.appended;
      count = c.in_ok-halt.ensures.count ∙ c.loop-place.invariant.count;
      kinds = c.follow.ensures.kinds ∙ c.loop-place.invariant.kinds;
      ran = λ ready.
          let home = c.args.home.now in
          let before = c.loop-place.invariant.ran ready in
          let here = ready_after home c.args.inner.now c.loop-place.inner before.kept ready in
          let row = c.in_ok-row.ensures.means here.there here.coded in
          let middle = ready_after home c.loop-place.inner c.run_row.new.inner row.kept here in
          row_goes home _ c.loop-place.place c.in_ok-row.row.place (c.in_ok-row.row.place + 1) c.in_ok-row.row.halt _ _ _ _ _ c.args.inner.now c.loop-place.inner c.run_row.new.inner c.follow.new.inner before row c.in_ok-halt.field-0 (c.in_ok-halt.ensures.follows middle (is_halt home c.loop-place.place c.in_ok-row.row.place c.in_ok-row.row.halt c.loop-place.inner c.run_row.new.inner row.means)) c.in_default.is next;
    }

pub returns-clause-ran : goal.returns-clause-ran
returns-clause-ran g c = λ ready.
    let home = c.args.home.now in
    let before = c.loop-place.invariant.ran ready in
    let past : length home.function.now.code.items ≤ c.loop-place.place = omega (arith, c.loop-place-test.false, c.as_slice-code.ensures.len, home.function.now.code.ok.0) in
    run_comes home _ c.loop-place.place c.in_ok-returned.field-0 _ _ _ _ _ c.args.inner.now c.loop-place.inner c.loop-place.inner before (on_end home c.loop-place.place c.in_ok-returned.field-0 _ _ c.loop-place.inner past c.in_ok-returned.ensures)
