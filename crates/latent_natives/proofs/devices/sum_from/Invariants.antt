use Rattle.std.proofs.Common.{◌≡◌, ◌∷◌, take}
use Rattle.core_tree.specs.Device.{wrapping_sum}
use Rattle.latent_natives.proofs.devices.sum_from.Given as goal

abbrev pub invariant-loop-number : goal.invariant-loop-number
invariant-loop-number l = l.total ≡ wrapping_sum (l.first ∷ take l.number-index l.numbers)
