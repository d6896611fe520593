-- Each side of a node has fewer stacks than the node.
use Rattle.std.specs.Prelude.{◌≤◌, max, length}
use Rattle.std.proofs.Common.{arith, length-append}
use Rattle.latent_natives.specs.declared.sleepers.Node.{Node}
use Rattle.latent_natives.specs.declared.sleepers.Node.TheVariants.{Empty, One, Two}
use Rattle.latent_natives.specs.declared.sleepers.Sleepers.TheDeep.{deep-Node}
use Rattle.latent_natives.specs.SleepTree.{sleeps, HasFullSides}

pub depth_le-length-sleeps : (n : Node) → HasFullSides n → max (deep-Node n) 0 ≤ length (sleeps n)
depth_le-length-sleeps Empty full = omega arith
depth_le-length-sleeps (One until) full = omega arith
depth_le-length-sleeps (Two left right) full = omega (arith, length-append left.value right.value, full.0, full.1)
