use Rattle.std.proofs.Common.{◌≡◌, take}
use Rattle.pex_verify.proofs.sources.FileStrings.of.Given as goal

abbrev pub invariant-loop-string : goal.invariant-loop-string
invariant-loop-string l = l.titles.items ≡ take l.string-index l.strings
