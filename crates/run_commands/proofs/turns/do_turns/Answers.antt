use Rattle.std.proofs.Common.{arith, ◌∙◌}
use Rattle.std.proofs.lemmas.Grind.{common_steps}
use Rattle.std.proofs.lemmas.Result.{err_from_is_err_and}
use Rattle.stack_machine.proofs.Sinks.{fault_behind_lines, lines_more}
use Rattle.run_commands.proofs.turns.do_turns.Goals as goal

pub returns-in_err-turn-clause-appended : goal.returns-in_err-turn-clause-appended
returns-in_err-turn-clause-appended g c =
    let told = err_from_is_err_and c.from_residual.result c.from_residual.ensures.1 in
    fault_behind_lines c.from_residual.result told.0 _ _ _ told.1 c.turns.invariant.appended c.in_err-turn.ensures.appended

pub returns-then-eq-clause-appended : goal.returns-then-eq-clause-appended
returns-then-eq-clause-appended g c = lines_more _ _ _ c.turns.invariant.appended c.in_ok-turn.ensures.appended

pub turns-preserved : goal.turns-preserved
turns-preserved g c = record {
  scene = c.turn.ensures.fixed.1 ∙ c.turns.invariant.scene;
  fault = c.in_ok-turn.ensures.fault ∙ c.turns.invariant.fault;
  turns = grind (arith, common_steps);
  appended = lines_more _ _ _ c.turns.invariant.appended c.in_ok-turn.ensures.appended;
  count = c.in_ok-turn.ensures.count c.turns.invariant.fault ∙ c.turns.invariant.count;
  kinds = c.turn.ensures.kinds ∙ c.turns.invariant.kinds;
}
