use Rattle.std.proofs.Common.{◌∙◌}
use Rattle.std.proofs.lemmas.Result.{err_from_is_err_and}
use Rattle.stack_machine.proofs.Sinks.{fault_behind_lines, lines_more}
use Rattle.scene_runner.proofs.closing.write_properties.Goals as goal

pub returns-in_err-write_declared-clause-appended : goal.returns-in_err-write_declared-clause-appended
returns-in_err-write_declared-clause-appended g c =
    let told = err_from_is_err_and c.from_residual-in_err-write_declared.result c.from_residual-in_err-write_declared.ensures.1 in
    fault_behind_lines c.from_residual-in_err-write_declared.result told.0 _ _ _ told.1 c.loop-script.invariant.appended c.in_err-write_declared.ensures.appended

pub loop-script-preserved : goal.loop-script-preserved
loop-script-preserved g c = record {
  faults = c.in_ok-write_declared.ensures.count ∙ c.loop-script.invariant.faults;
  appended = lines_more _ _ _ c.loop-script.invariant.appended c.in_ok-write_declared.ensures.appended;
}
