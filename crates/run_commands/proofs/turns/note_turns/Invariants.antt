use Rattle.std.proofs.Common.{◌≡◌, ◌-◌, map}
use Rattle.std.specs.Prelude.{None}
use Rattle.latent_natives.specs.Devices.{SameKinds}
use Rattle.stack_machine.specs.Written.{AppendsLines}
use Rattle.run_commands.specs.Journal.{NotesTurns}
use Rattle.run_commands.proofs.turns.note_turns.Given as goal

-- the lines of the turns so far are noted
abbrev pub invariant-loop : goal.invariant-loop
invariant-loop g l =
    let sink = g.S.Sink in
    record {
      scene : l.machine.scene ≡ l.fn.machine.scene;
      fault : l.machine.fault ≡ None;
      noted : NotesTurns l.fn.machine.turns l.machine.turns l.fn.journal.items l.journal.items;
      appended : AppendsLines (sink.written l.fn.sink) (sink.written l.sink);
      count : sink.faults l.sink ≡ sink.faults l.fn.sink;
      kinds : SameKinds (map (λ d. (goal.Device-dyn g (d.vtable, d.value)).device_state d.value) l.fn.devices.items) (map (λ d. (goal.Device-dyn g (d.vtable, d.value)).device_state d.value) l.devices.items);
    }

abbrev pub decreases-loop : goal.decreases-loop
decreases-loop g l = l.machine.scene.turns - l.machine.turns
