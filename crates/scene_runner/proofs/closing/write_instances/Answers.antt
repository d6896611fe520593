use Rattle.std.proofs.Common.{◌∙◌}
use Rattle.std.proofs.lemmas.Result.{err_from_is_err_and}
use Rattle.stack_machine.proofs.Sinks.{fault_behind_lines, lines_more}
use Rattle.scene_runner.proofs.closing.write_instances.Goals as goal

pub returns-in_err-write_line-clause-appended : goal.returns-in_err-write_line-clause-appended
returns-in_err-write_line-clause-appended g c =
    let told = err_from_is_err_and c.from_residual-in_err-write_line.result c.from_residual-in_err-write_line.ensures.1 in
    fault_behind_lines c.from_residual-in_err-write_line.result told.0 _ _ _ told.1 c.loop-instance.invariant.appended c.in_err-write_line.ensures.appended

pub returns-in_err-write_properties-clause-appended : goal.returns-in_err-write_properties-clause-appended
returns-in_err-write_properties-clause-appended g c =
    let told = err_from_is_err_and c.from_residual-in_err-write_properties.result c.from_residual-in_err-write_properties.ensures.1 in
    fault_behind_lines c.from_residual-in_err-write_properties.result told.0 _ _ _ told.1 (lines_more _ _ _ c.loop-instance.invariant.appended c.in_ok-write_line.ensures.appended) c.in_err-write_properties.ensures.appended

pub loop-instance-preserved : goal.loop-instance-preserved
loop-instance-preserved g c = record {
  faults = c.in_ok-write_properties.ensures.count ∙ c.in_ok-write_line.ensures.count ∙ c.loop-instance.invariant.faults;
  appended = lines_more _ _ _ c.loop-instance.invariant.appended (lines_more _ _ _ c.in_ok-write_line.ensures.appended c.in_ok-write_properties.ensures.appended);
}
