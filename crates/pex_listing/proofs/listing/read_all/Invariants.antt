use Rattle.std.proofs.Common.{◌≡◌, length, vec_len}
use Rattle.pex_listing.specs.Spelled.{spelled_in}
use Rattle.pex_listing.proofs.Opening.{SoFar}
use Rattle.pex_listing.proofs.Parts.{ReadsLines}
use Rattle.pex_listing.proofs.listing.read_all.Given as goal

abbrev pub invariant-loop-place : goal.invariant-loop-place
invariant-loop-place g l = record {
  read : ReadsLines (g.T.Item.holds (vec_len l.names.spelled)) g.T.Item.spelling (g.T.Item.lines (spelled_in l.names)) l.initial.listing l.listing l.parts.items;
  count : length l.parts.items ≡ l._place;
  left : SoFar g.T.Item.words l.names l._place l.initial.listing l.listing;
}
