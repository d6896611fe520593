use Rattle.std.proofs.Common.{arith, ap}
use Rattle.stack_machine.proofs.AsMany.{as_many}
use Rattle.run_commands.proofs.RunEnds.{machine_starts}
use Rattle.run_commands.proofs.SceneParts.{few_instances, few_calls, refused_starts}
use Rattle.run_commands.proofs.play.start_machine.Goals as goal

pub start-requires-clause-instances : goal.start-requires-clause-instances
start-requires-clause-instances g c =
    let few = few_instances c.args.tree _ c.in-Ok.scene c.requires.few c.in-Ok.ensures.kept in omega (arith, c.in-Ok.scene.instances.ok.0)

pub start-requires-clause-calls : goal.start-requires-clause-calls
start-requires-clause-calls g c =
    let few = few_calls c.args.tree _ c.in-Ok.scene c.requires.few c.in-Ok.ensures.kept in omega (arith, c.in-Ok.scene.calls.ok.0)

pub returns-in-Err-clause-starts : goal.returns-in-Err-clause-starts
returns-in-Err-clause-starts g c = rw (c.at_word.ensures, c.from.ensures) (refused_starts c.args.tree c.args.word c.in-Err.fault)

pub returns-in-Ok-start-clause-starts : goal.returns-in-Ok-start-clause-starts
returns-in-Ok-start-clause-starts g c = machine_starts c.args.tree _ c.in-Ok.scene c.in-Ok-start.machine c.in-Ok.ensures.kept c.in-Ok-start.ensures.fixed.1 c.in-Ok-start.ensures.fresh.0 c.in-Ok-start.ensures.fresh.2

pub returns-in-Ok-start-clause-devices : goal.returns-in-Ok-start-clause-devices
returns-in-Ok-start-clause-devices g c =
    let as_before = as_many (λ d. (goal.Device-dyn g (d.vtable, d.value)).device_state d.value) c.args.devices.now.items c.start.new.devices.items c.start.ensures.kinds in
    let bound = ap (λ scene. scene.devices) c.in-Ok-start.ensures.fixed.1 in
    omega (arith, as_before, bound, c.in-Ok.ensures.kept.devices)
