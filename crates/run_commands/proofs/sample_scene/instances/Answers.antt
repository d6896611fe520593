use Rattle.scene_reader.specs.Default.{instance_plan}
use Rattle.run_commands.specs.Sample.{hub_plan, worker_plan}
use Rattle.run_commands.proofs.SampleParts.{one_more_behind}
use Rattle.run_commands.proofs.sample_scene.instances.Goals as goal

pub loop-number-preserved : goal.loop-number-preserved
loop-number-preserved c =
    one_more_behind instance_plan worker_plan hub_plan c.loop-number.instances.items c.push-in-loop-number.new.self.items c.in_ok-worker.field-0 c.loop-number.number c.in_ok-push-2.ensures.items c.loop-number.invariant c.in_ok-worker.ensures
