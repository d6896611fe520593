use Rattle.std.proofs.Common.{◌≡◌, ◌++◌, take}
use Rattle.std.specs.List.{flat_map}
use Rattle.papyrus_cmd.specs.Check.{accepted_line}
use Rattle.papyrus_cmd.specs.Waits.{counted_line}
use Rattle.papyrus_cmd.proofs.waits.counted_text.Given as goal

-- the turns, and the instances so far
abbrev pub invariant-loop-instance : goal.invariant-loop-instance
invariant-loop-instance l = l.text.items ≡ accepted_line l.found.turns ++ flat_map counted_line (take l.instance-index l.found.instances.items)
