use Rattle.std.proofs.Common.{take}
use Rattle.std.specs.List.{AllByRecursion}
use Rattle.listing_laws.specs.Round.{AreBytes}
use Rattle.listing_laws.proofs.texts_hold_bytes.Given as goal

abbrev pub invariant-loop-text : goal.invariant-loop-text
invariant-loop-text l = AllByRecursion AreBytes (take l.text-index l.texts)
