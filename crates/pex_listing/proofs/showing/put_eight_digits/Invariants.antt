use Rattle.std.proofs.Common.{◌≡◌, ◌++◌, take}
use Rattle.std.specs.List.{flat_map}
use Rattle.pex_listing.specs.Lines.{two_digits}
use Rattle.pex_listing.proofs.showing.put_eight_digits.Given as goal

abbrev pub invariant-loop-byte : goal.invariant-loop-byte
invariant-loop-byte l = l.out.items ≡ l.initial.out.items ++ flat_map two_digits (take l.byte-index l.byte-items)
