use Rattle.std.proofs.Common.{◌≡◌, ℕ, List, length, vec_len}
use Rattle.pex_values.specs.Shape.{IsShapedDatum}
use Rattle.pex_values.specs.Spelling as spell
use Rattle.pex_listing.specs.Breaks.{Awaited, all_values}
use Rattle.pex_listing.specs.Left.{IsTableOf, line_left, view}
use Rattle.pex_listing.specs.Listing as form
use Rattle.pex_listing.specs.Opened.{fields_left}
use Rattle.pex_listing.specs.Spelled.{spelled_in}
use Rattle.pex_listing.proofs.Parts.{ReadsFields}
use Rattle.pex_listing.proofs.objects.read_more.Given as goal

abbrev pub invariant-loop-values : goal.invariant-loop-values
invariant-loop-values l = record {
  read : ReadsFields (IsShapedDatum (vec_len l.names.spelled)) (form.datum (spelled_in l.names)) spell.datum l.initial.listing l.listing l.values.items;
  left : (strings : List (List ℕ)) → IsTableOf strings l.names → (s : List (List ℕ)) (awaited : List Awaited)
      → line_left s awaited (all_values strings) (view l.initial.listing) ≡ line_left s awaited (all_values strings) (view l.listing);
}

abbrev pub decreases-loop-values : goal.decreases-loop-values
decreases-loop-values l = length (fields_left l.listing)
