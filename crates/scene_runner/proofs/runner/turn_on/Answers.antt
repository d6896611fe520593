use Rattle.std.proofs.Common.{◌∙◌}
use Rattle.std.proofs.lemmas.Result.{err_from_is_err_and}
use Rattle.stack_machine.proofs.Sinks.{fault_behind_lines, lines_more}
use Rattle.scene_runner.proofs.runner.turn_on.Goals as goal

pub returns-in_err-turn-clause-appended : goal.returns-in_err-turn-clause-appended
returns-in_err-turn-clause-appended g c =
    let told = err_from_is_err_and c.from_residual.result c.from_residual.ensures.1 in
    fault_behind_lines c.from_residual.result told.0 _ _ _ told.1 c.loop.invariant.appended c.in_err-turn.ensures.appended

pub returns-then-eq-clause-appended : goal.returns-then-eq-clause-appended
returns-then-eq-clause-appended g c = lines_more _ _ _ c.loop.invariant.appended c.in_ok-turn.ensures.appended

pub loop-preserved : goal.loop-preserved
loop-preserved g c = record {
  outline = c.turn.ensures.fixed.0 ∙ c.loop.invariant.outline;
  scene = c.turn.ensures.fixed.1 ∙ c.loop.invariant.scene;
  fault = c.in_ok-turn.ensures.fault ∙ c.loop.invariant.fault;
  appended = lines_more _ _ _ c.loop.invariant.appended c.in_ok-turn.ensures.appended;
  count = c.in_ok-turn.ensures.count c.loop.invariant.fault ∙ c.loop.invariant.count;
  kinds = c.turn.ensures.kinds ∙ c.loop.invariant.kinds;
}
