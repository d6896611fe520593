use Rattle.std.proofs.Common.{◌∙◌}
use Rattle.std.proofs.lemmas.Result.{err_from_is_err_and}
use Rattle.stack_machine.proofs.Sinks.{fault_behind_lines, lines_more}
use Rattle.scene_runner.proofs.closing.write_stacks.Goals as goal

pub returns-in_err-write_line-clause-appended : goal.returns-in_err-write_line-clause-appended
returns-in_err-write_line-clause-appended g c =
    let told = err_from_is_err_and c.from_residual-in_err-write_line.result c.from_residual-in_err-write_line.ensures.1 in
    fault_behind_lines c.from_residual-in_err-write_line.result told.0 _ _ _ told.1 c.loop-stack.invariant.appended c.in_err-write_line.ensures.appended

pub loop-stack-preserved : goal.loop-stack-preserved
loop-stack-preserved g c = record {
  faults = c.in_ok-write_line.ensures.count ∙ c.loop-stack.invariant.faults;
  appended = lines_more _ _ _ c.loop-stack.invariant.appended c.in_ok-write_line.ensures.appended;
}
