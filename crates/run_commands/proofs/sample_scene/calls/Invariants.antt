use Rattle.std.proofs.Common.{◌≡◌, map}
use Rattle.std.specs.List.{range_with_len}
use Rattle.scene_reader.specs.Default.{call_plan}
use Rattle.run_commands.specs.Sample.{start_plan}
use Rattle.run_commands.proofs.sample_scene.calls.Given as goal

abbrev pub invariant-loop-number : goal.invariant-loop-number
invariant-loop-number l = map call_plan l.calls.items ≡ map start_plan (range_with_len 0 l.number)
