use Rattle.script_parser.specs.Lines.{property_lines}
use Rattle.script_linker.proofs.FoundLemmas.{AreAmong-first, AreAmong-rest, AreAmong-items, AreAmong-trans, FindsAmong-nothing, FindsAmong-then}
use Rattle.script_linker.proofs.rules.judge_properties.Goals as goal

pub loop-property-init : goal.loop-property-init
loop-property-init c = FindsAmong-nothing _ _

pub loop-property-preserved : goal.loop-property-preserved
loop-property-preserved c =
    let property = c.property-item.result in
    let all = AreAmong-items property_lines c.args.properties.now c.loop-property.property-index property c.loop-property-test.true c.property-item.is in
    let line = AreAmong-trans (AreAmong-first property.line _) all in
    let functions = AreAmong-trans (AreAmong-rest property.line _) all in
    FindsAmong-then functions (FindsAmong-then line c.loop-property.invariant c.note_if.ensures.among) c.in_ok-judge_form.ensures
