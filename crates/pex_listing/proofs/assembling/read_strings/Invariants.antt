use Rattle.std.proofs.Common.{◌≡◌, length}
use Rattle.std.specs.Prelude.{codes}
use Rattle.pex_values.specs.Fit.{IsCounted}
use Rattle.pex_values.specs.Spelling as spell
use Rattle.pex_listing.specs.Lines.{string_line}
use Rattle.pex_listing.proofs.Opening.{StringsSoFar}
use Rattle.pex_listing.proofs.Parts.{ReadsLines}
use Rattle.pex_listing.proofs.assembling.read_strings.Given as goal

abbrev pub invariant-loop-place : goal.invariant-loop-place
invariant-loop-place l = record {
  read : ReadsLines IsCounted spell.string (string_line (codes "string")) l.initial.listing l.listing l.strings.items;
  count : length l.strings.items ≡ l._place;
  left : StringsSoFar l.strings.items l._place l.initial.listing l.listing;
}
