use Rattle.std.proofs.Common.{◌≡◌, vec_len, map}
use Rattle.latent_natives.specs.Devices.{SameKinds}
use Rattle.stack_machine.proofs.restore.load_devices.Given as goal

abbrev pub invariant-loop-place : goal.invariant-loop-place
invariant-loop-place g l =
    record {
      kinds : SameKinds (map (λ d. (goal.Device-dyn g (d.vtable, d.value)).device_state d.value) l.fn.devices.items) (map (λ d. (goal.Device-dyn g (d.vtable, d.value)).device_state d.value) l.devices.items);
      number : vec_len l.devices ≡ vec_len l.fn.devices;
    }
