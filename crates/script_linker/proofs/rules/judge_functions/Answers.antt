use Rattle.script_parser.specs.Lines.{function_line}
use Rattle.script_linker.proofs.FoundLemmas.{AreAmong-item, FindsAmong-nothing, FindsAmong-then}
use Rattle.script_linker.proofs.rules.judge_functions.Goals as goal

pub loop-function-init : goal.loop-function-init
loop-function-init c = FindsAmong-nothing _ _

pub loop-function-preserved : goal.loop-function-preserved
loop-function-preserved c =
    let one = AreAmong-item function_line c.args.functions.now c.loop-function.function-index c.function-item.result c.loop-function-test.true c.function-item.is in
    let named = FindsAmong-then one (FindsAmong-then one c.loop-function.invariant c.note_if.ensures.among) c.note_if-in-loop-function.ensures.among in
    FindsAmong-then one (FindsAmong-then one named c.note_if-in-loop-function-2.ensures.among) c.note_if-in-loop-function-3.ensures.among
