use Rattle.std.proofs.Common.{◌≡◌, ◌+◌, map}
use Rattle.std.specs.Prelude.{None}
use Rattle.latent_natives.specs.Devices.{SameKinds}
use Rattle.stack_machine.specs.Written.{AppendsLines}
use Rattle.run_commands.proofs.turns.do_turns.Given as goal

-- so many turns are done
abbrev pub invariant-turns : goal.invariant-turns
invariant-turns g l =
    let sink = g.S.Sink in
    record {
      scene : l.machine.scene ≡ l.fn.machine.scene;
      fault : l.machine.fault ≡ None;
      turns : l.machine.turns ≡ l.fn.machine.turns + l.counter;
      appended : AppendsLines (sink.written l.fn.sink) (sink.written l.sink);
      count : sink.faults l.sink ≡ sink.faults l.fn.sink;
      kinds : SameKinds (map (λ d. (goal.Device-dyn g (d.vtable, d.value)).device_state d.value) l.fn.devices.items) (map (λ d. (goal.Device-dyn g (d.vtable, d.value)).device_state d.value) l.devices.items);
    }
