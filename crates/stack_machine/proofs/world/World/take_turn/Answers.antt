use Rattle.std.proofs.lemmas.Result.{err_from_is_err_and}
use Rattle.stack_machine.proofs.Noting.{run_begun, run_noted, some_none}
use Rattle.stack_machine.proofs.world.World.take_turn.Goals as goal

pub returns-in_err-run_stack-clause-noted : goal.returns-in_err-run_stack-clause-noted
returns-in_err-run_stack-clause-noted g c =
    let p = err_from_is_err_and c.from_residual-in_err-run_stack.result c.from_residual-in_err-run_stack.ensures.1 in
    rw p.1 (run_begun c.args.turn.now.stack c.take.result _ _ _ _ c.in_ok-note.ensures.added c.in_ok-note_any.ensures.added (some_none _))

pub returns-in_err-note_act-clause-noted : goal.returns-in_err-note_act-clause-noted
returns-in_err-note_act-clause-noted g c =
    let p = err_from_is_err_and c.from_residual-in_err-note_act.result c.from_residual-in_err-note_act.ensures.1 in
    rw p.1 (run_begun c.args.turn.now.stack c.take.result _ _ _ _ c.in_ok-note.ensures.added c.in_ok-note_any.ensures.added c.in_err-note_act.ensures)

pub returns-clause-noted : goal.returns-clause-noted
returns-clause-noted g c =
    run_noted c.args.turn.now.stack c.take.result _ _ _ _ c.take.ensures.moved c.in_ok-note.ensures.added c.in_ok-note_any.ensures.added c.in_ok-note_act.ensures
