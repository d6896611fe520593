-- What a call leaves of a list of devices that it was handed.
use Rattle.std.specs.Prelude.{◌≡◌, List, map}
use Rattle.core_tree.specs.declared.DeviceKind.{DeviceKind}
use Rattle.core_tree.specs.Device.{DeviceState}

abbrev pub kinds_of : List DeviceState → List DeviceKind
kinds_of devices = map (λ device. device.kind) devices

-- as many devices as before, of the same kinds in the same order
abbrev pub SameKinds : List DeviceState → List DeviceState → Type 0
SameKinds before after = kinds_of after ≡ kinds_of before
