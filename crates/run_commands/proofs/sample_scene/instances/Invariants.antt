use Rattle.std.proofs.Common.{◌≡◌, ◌∷◌, map}
use Rattle.std.specs.List.{range_with_len}
use Rattle.scene_reader.specs.Default.{instance_plan}
use Rattle.run_commands.specs.Sample.{hub_plan, worker_plan}
use Rattle.run_commands.proofs.sample_scene.instances.Given as goal

abbrev pub invariant-loop-number : goal.invariant-loop-number
invariant-loop-number l = map instance_plan l.instances.items ≡ hub_plan ∷ map worker_plan (range_with_len 0 l.number)
