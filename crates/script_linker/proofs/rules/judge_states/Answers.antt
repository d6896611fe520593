use Rattle.script_parser.specs.Lines.{state_lines}
use Rattle.script_linker.proofs.FoundLemmas.{AreAmong-first, AreAmong-rest, AreAmong-items, AreAmong-trans, FindsAmong-nothing, FindsAmong-then}
use Rattle.script_linker.proofs.rules.judge_states.Goals as goal

pub loop-state-init : goal.loop-state-init
loop-state-init c = FindsAmong-nothing _ _

pub loop-state-preserved : goal.loop-state-preserved
loop-state-preserved c =
    let state = c.state-item.result in
    let all = AreAmong-items state_lines c.args.states.now c.loop-state.state-index state c.loop-state-test.true c.state-item.is in
    let line = AreAmong-trans (AreAmong-first state.line _) all in
    let functions = AreAmong-trans (AreAmong-rest state.line _) all in
    let judged = rw c.as_slice-functions.ensures.value at c.in_ok-judge_functions.ensures in
    FindsAmong-then functions (FindsAmong-then line (FindsAmong-then line c.loop-state.invariant c.note_if.ensures.among) c.note_if-in-loop-state.ensures.among) judged
