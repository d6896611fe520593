-- What a refused state leaves of devices.
use Rattle.std.specs.Prelude.{◌≡◌, List}
use Rattle.core_tree.specs.Device.{DeviceState}
use Rattle.stack_machine.specs.declared.status.RestoreFault.{RestoreFault}
use Rattle.stack_machine.specs.declared.status.RestoreFault.TheVariants.{BadState, OtherDevices, OutOfMemory}

-- the first devices may be loaded where no memory was found
abbrev pub LeavesDevices : RestoreFault → List DeviceState → List DeviceState → Type 0
LeavesDevices BadState before now = now ≡ before
LeavesDevices OtherDevices before now = now ≡ before
LeavesDevices OutOfMemory before now = Unit {0}
