use Rattle.std.proofs.Common.{◌≡◌, map}
use Rattle.std.specs.Prelude.{pred}
use Rattle.latent_natives.specs.Devices.{SameKinds}
use Rattle.stack_machine.specs.Runs.{from_passes, HasPassed, IsReady}
use Rattle.stack_machine.specs.Written.{AppendsLines}
use Rattle.stack_machine.proofs.run.run_on.Given as goal

abbrev pub invariant-loop-left : goal.invariant-loop-left
invariant-loop-left g l =
    let sink = g.S.Sink in
    let before = map (λ d. (goal.Device-dyn g (d.vtable, d.value)).device_state d.value) l.fn.devices.items in
    let devices = map (λ d. (goal.Device-dyn g (d.vtable, d.value)).device_state d.value) l.devices.items in
    record {
      appended : AppendsLines (sink.written l.fn.sink) (sink.written l.sink);
      count : sink.faults l.sink ≡ sink.faults l.fn.sink;
      kinds : SameKinds before devices;
      ran : IsReady l.fn.home l.fn.inner.store.now.instances → HasPassed l.fn.home (from_passes l.fn.home (pred l.fn.home.turn.now.setting.now.scene.quantum) l.fn.from l.fn.inner before) l.left l.place devices (sink.written l.fn.sink) (sink.written l.sink) l.fn.inner l.inner;
    }

abbrev pub decreases-loop-left : goal.decreases-loop-left
decreases-loop-left g l = l.left
