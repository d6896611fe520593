use Rattle.std.proofs.Common.{◌≡◌, [], ◌∷◌, length, vec_len}
use Rattle.pex_values.specs.Shape.{ArePair}
use Rattle.pex_values.specs.Spelling as spell
use Rattle.pex_listing.specs.Listing as form
use Rattle.pex_listing.specs.Spelled.{spelled_in}
use Rattle.pex_listing.specs.Breaks.{pair_line}
use Rattle.pex_listing.specs.Parted.{HasForm}
use Rattle.pex_listing.proofs.Opening.{SoFar}
use Rattle.pex_listing.proofs.Parts.{ReadsLines}
use Rattle.pex_listing.proofs.objects.read_pairs.Given as goal

abbrev pub invariant-loop-place : goal.invariant-loop-place
invariant-loop-place l = record {
  read : ReadsLines (ArePair (vec_len l.names.spelled)) spell.pair (form.pair (spelled_in l.names) l.word) l.initial.listing l.listing l.pairs.items;
  count : length l.pairs.items ≡ l._place;
  left : HasForm l.word (λ strings text. pair_line strings) → SoFar (l.word ∷ []) l.names l._place l.initial.listing l.listing;
}
