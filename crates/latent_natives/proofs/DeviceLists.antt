-- What a list of devices shows after one of them was written.
use Rattle.std.proofs.Common.{◌≡◌, ℕ, ◌<◌, List, length, map, sym, ap, ◌∙◌, get_or, ℤ}
use Rattle.std.proofs.Math.ListN.{set}
use Rattle.std.proofs.Math.Seq.{map-set_same}
use Rattle.std.proofs.lemmas.List.{map-set, get_or-map}
use Rattle.core_tree.specs.Device.{DeviceState, device_at, no_device}
use Rattle.latent_natives.specs.Devices.{SameKinds}

pub device_at-map : {B : Type 0} (f : B → DeviceState) (items : List B) (place : ℕ) (old : B) → place < length items → old ≡ get_or items place old → device_at (map f items) place ≡ f old
device_at-map f items place old below read = get_or-map f items place old no_device below ∙ ap f (sym read)

-- the device at the place was replaced, and what it is now depends on what it was
pub map-written : {B : Type 0} (f : B → DeviceState) (items : List B) (place : ℕ) (old new : B) (change : DeviceState → DeviceState) → place < length items → old ≡ get_or items place old → f new ≡ change (f old) → map f (set items place new) ≡ set (map f items) place (change (device_at (map f items) place))
map-written f items place old new change below read changed =
    map-set f items place new
    ∙ ap (λ d. set (map f items) place d) (changed ∙ ap change (sym (device_at-map f items place old below read)))

pub map-written_same : {B : Type 0} (f : B → DeviceState) (items : List B) (place : ℕ) (old new : B) → old ≡ get_or items place old → f new ≡ f old → map f (set items place new) ≡ map f items
map-written_same f items place old new read same = map-set_same f items place new old (same ∙ ap f read)

pub SameKinds-written : {B : Type 0} (f : B → DeviceState) (items : List B) (place : ℕ) (old new : B) → place < length items → old ≡ get_or items place old → (f new).kind ≡ (f old).kind → SameKinds (map f items) (map f (set items place new))
SameKinds-written f items place old new below read same =
    ap (λ states. map (λ (d : DeviceState). d.kind) states) (map-set f items place new)
    ∙ map-set_same (λ (d : DeviceState). d.kind) (map f items) place (f new) no_device (same ∙ ap (λ (d : DeviceState). d.kind) (sym (device_at-map f items place old below read)))

-- what follows from the device at the place before it was written
pub reply-mapped : {B : Type 0} (f : B → DeviceState) (items : List B) (place : ℕ) (old : B) (reply : DeviceState → ℤ) (result : ℤ) → place < length items → old ≡ get_or items place old → result ≡ reply (f old) → result ≡ reply (device_at (map f items) place)
reply-mapped f items place old reply result below read replied = replied ∙ ap reply (sym (device_at-map f items place old below read))
