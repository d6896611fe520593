use Rattle.std.proofs.Common.{◌≡◌, ◌-◌, length, map}
use Rattle.latent_natives.specs.Devices.{SameKinds}
use Rattle.stack_machine.specs.Runs.{from_place, HasRun, IsReady}
use Rattle.stack_machine.specs.Written.{AppendsLines}
use Rattle.stack_machine.proofs.run.run_pass.Given as goal

abbrev pub invariant-loop-place : goal.invariant-loop-place
invariant-loop-place g l =
    let sink = g.S.Sink in
    let before = map (λ d. (goal.Device-dyn g (d.vtable, d.value)).device_state d.value) l.fn.devices.items in
    let devices = map (λ d. (goal.Device-dyn g (d.vtable, d.value)).device_state d.value) l.devices.items in
    record {
      appended : AppendsLines (sink.written l.fn.sink) (sink.written l.sink);
      count : sink.faults l.sink ≡ sink.faults l.fn.sink;
      kinds : SameKinds before devices;
      ran : IsReady l.fn.home l.fn.inner.store.now.instances → HasRun l.fn.home (from_place l.fn.home l.fn.from l.fn.inner before) l.place devices (sink.written l.fn.sink) (sink.written l.sink) l.fn.inner l.inner;
    }

abbrev pub decreases-loop-place : goal.decreases-loop-place
decreases-loop-place g l = length l.code - l.place
