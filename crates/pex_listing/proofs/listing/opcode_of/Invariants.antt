use Rattle.std.proofs.Common.{◌≡◌, ℕ, ◌<◌, false}
use Rattle.std.specs.Str.{bytes_eq}
use Rattle.pex_listing.specs.Listing.{opcode_name}
use Rattle.pex_listing.proofs.listing.opcode_of.Given as goal

abbrev pub invariant-loop-code : goal.invariant-loop-code
invariant-loop-code l = (k : ℕ) → k < l.code → bytes_eq l.word (opcode_name k) ≡ false
