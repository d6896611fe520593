-- What a list of devices keeps with their kinds.
use Rattle.std.proofs.Common.{◌≡◌, List, length, map, ap}
use Rattle.std.proofs.lemmas.List.{length-map}
use Rattle.core_tree.specs.Device.{DeviceState}
use Rattle.latent_natives.specs.Devices.{SameKinds}

-- there are as many devices as before
pub as_many : {B : Type 0} (f : B → DeviceState) (before after : List B) → SameKinds (map f before) (map f after) → length after ≡ length before
as_many f before after kinds = simp length-map at (ap length kinds)
