use Rattle.std.proofs.Common.{◌∙◌, refl}
use Rattle.std.proofs.lemmas.Result.{err_from_is_err_and}
use Rattle.stack_machine.proofs.Sinks.{fault_behind_lines, lines_more, lines_none}
use Rattle.run_commands.proofs.NotedRun.{noted_more, noted_none}
use Rattle.run_commands.proofs.turns.note_turns.Goals as goal

pub loop-init : goal.loop-init
loop-init g c = record {
  scene = refl;
  fault = c.requires;
  noted = noted_none _ _;
  appended = lines_none _;
  count = refl;
  kinds = refl;
}

pub loop-preserved : goal.loop-preserved
loop-preserved g c = record {
  scene = c.note_turn.ensures.scene ∙ c.loop.invariant.scene;
  fault = c.in_ok-note_turn.ensures.no_fault;
  noted = noted_more _ _ _ _ _ _ c.loop.invariant.noted c.in_ok-note_turn.ensures.noted;
  appended = lines_more _ _ _ c.loop.invariant.appended c.in_ok-note_turn.ensures.appended;
  count = c.in_ok-note_turn.ensures.count ∙ c.loop.invariant.count;
  kinds = c.note_turn.ensures.kinds ∙ c.loop.invariant.kinds;
}

pub returns-in_err-note_turn-clause-appended : goal.returns-in_err-note_turn-clause-appended
returns-in_err-note_turn-clause-appended g c =
    let told = err_from_is_err_and c.from_residual.result c.from_residual.ensures.1 in
    fault_behind_lines c.from_residual.result told.0 _ _ _ told.1 c.loop.invariant.appended c.in_err-note_turn.ensures.appended

pub returns-then-not-branch-clause-noted : goal.returns-then-not-branch-clause-noted
returns-then-not-branch-clause-noted g c = noted_more _ _ _ _ _ _ c.loop.invariant.noted c.in_ok-note_turn.ensures.noted

pub returns-then-not-branch-clause-appended : goal.returns-then-not-branch-clause-appended
returns-then-not-branch-clause-appended g c = lines_more _ _ _ c.loop.invariant.appended c.in_ok-note_turn.ensures.appended
