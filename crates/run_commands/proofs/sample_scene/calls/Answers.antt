use Rattle.scene_reader.specs.Default.{call_plan}
use Rattle.run_commands.specs.Sample.{start_plan}
use Rattle.run_commands.proofs.SampleParts.{one_more}
use Rattle.run_commands.proofs.sample_scene.calls.Goals as goal

pub loop-number-preserved : goal.loop-number-preserved
loop-number-preserved c =
    one_more call_plan start_plan c.loop-number.calls.items c.push.new.self.items c.in_ok-start.field-0 c.loop-number.number c.in_ok-push.ensures.items c.loop-number.invariant c.in_ok-start.ensures
