use Rattle.std.proofs.Common.{◌≡◌, map, take, vec_len}
use Rattle.std.specs.List.{range_with_len}
use Rattle.pex_listing.specs.Lines.{reference}
use Rattle.pex_listing.specs.Spelled.{HasWords}
use Rattle.pex_listing.proofs.strings.StringWords.new.Given as goal

abbrev pub invariant-loop-place : goal.invariant-loop-place
invariant-loop-place l = record {
  count : vec_len l.words.spelled ≡ l.place;
  words : HasWords (take l.place l.strings) l.words;
  spelled : map (λ bytes. bytes.items) l.words.spelled.items ≡ map (reference l.strings) (range_with_len 0 l.place);
}
