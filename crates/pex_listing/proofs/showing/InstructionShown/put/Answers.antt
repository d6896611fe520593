use Rattle.std.proofs.Common.{append_assoc, rules}
use Rattle.pex_listing.specs.Listing.{instruction}
use Rattle.pex_listing.proofs.showing.InstructionShown.put.Goals as goal

pub returns : goal.returns
unfolding instruction
returns c = search (rules, append_assoc)
