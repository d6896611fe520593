use Rattle.std.proofs.Common.{◌≡◌, ℕ, ◌+◌, List, length, vec_len}
use Rattle.pex_values.specs.Shape.{IsShapedDatum}
use Rattle.pex_values.specs.Spelling as spell
use Rattle.pex_listing.specs.Listing as form
use Rattle.pex_listing.specs.Spelled.{spelled_in}
use Rattle.pex_listing.specs.Breaks.{Awaited, Form, values}
use Rattle.pex_listing.specs.Left.{IsTableOf, line_left, view}
use Rattle.pex_listing.proofs.Parts.{ReadsFields}
use Rattle.pex_listing.proofs.objects.read_fixed.Given as goal

abbrev pub invariant-loop-place : goal.invariant-loop-place
invariant-loop-place l = record {
  read : ReadsFields (IsShapedDatum (vec_len l.names.spelled)) (form.datum (spelled_in l.names)) spell.datum l.initial.listing l.listing l.values.items;
  count : length l.values.items ≡ l._place;
  left : (strings : List (List ℕ)) → IsTableOf strings l.names → (s : List (List ℕ)) (awaited : List Awaited) (form : Form) (n : ℕ) → n + l._place ≡ l.count
      → line_left s awaited (values strings l.count form) (view l.initial.listing) ≡ line_left s awaited (values strings n form) (view l.listing);
}
