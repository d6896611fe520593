use Rattle.std.proofs.Common.{◌≡◌, ℕ, List, ◌+◌, ◌<◌, ◌^◌, length}
use Rattle.pex_values.specs.Spelling as spell
use Rattle.pex_listing.specs.Lines.{number}
use Rattle.pex_listing.specs.Breaks.{Awaited, numbers}
use Rattle.pex_listing.specs.Left.{line_left, view}
use Rattle.pex_listing.proofs.Parts.{ReadsFields}
use Rattle.pex_listing.proofs.assembling.read_numbers.Given as goal

abbrev pub invariant-loop-place : goal.invariant-loop-place
invariant-loop-place l = record {
  read : ReadsFields (λ n. n < 2 ^ 16) number spell.two_bytes l.initial.listing l.listing l.numbers.items;
  count : length l.numbers.items ≡ l._place;
  left : (s : List (List ℕ)) (awaited : List Awaited) (n : ℕ) → n + l._place ≡ 65535 → line_left s awaited (numbers 65535) (view l.initial.listing) ≡ line_left s awaited (numbers n) (view l.listing);
}
