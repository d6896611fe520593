use Rattle.run_commands.proofs.SampleParts.{closes_within, few_parts, unstarted_ends}
use Rattle.run_commands.proofs.sample_command.report_of.Goals as goal

pub start_machine-requires-clause-few : goal.start_machine-requires-clause-few
start_machine-requires-clause-few g c = few_parts c.args.workers c.in-Ok-sample_scene.tree c.requires.few c.in-Ok-sample_scene.ensures

pub returns-in-Err-start_machine-clause-ends : goal.returns-in-Err-start_machine-clause-ends
returns-in-Err-start_machine-clause-ends g c = unstarted_ends c.in-Ok-sample_scene.tree c.in-Err-start_machine.ending c.in-Err-start_machine.ensures.starts

pub returns-in-Ok-closing-clause-report : goal.returns-in-Ok-closing-clause-report
returns-in-Ok-closing-clause-report g c =
    closes_within c.args.workers c.in-Ok-sample_scene.tree c.in-Ok-start_machine.machine c.closing_of-closing.new.machine _ c.in-Ok-sample_scene.ensures c.in-Ok-start_machine.ensures.starts
    c.closing_of-closing.ensures.scene c.in-Ok-closing.ensures.within c.in-Ok-closing.ensures.closes
