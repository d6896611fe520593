-- Lines that are held back and written, one part after another.
use Rattle.std.proofs.Common.{◌≡◌, ℕ, suc, ◌+◌, ◌<◌, ◌≤◌, List, [], ◌∷◌, ◌++◌, take, drop, get_or, length, Option, Result, Ok, Err, refl, sym, subst, ap, ◌∙◌, append_assoc, append-nil, take-append-drop, take_all, min, arith}
use Rattle.std.specs.Prelude.{IsErr, OnOk}
use Rattle.std.specs.List.{flat_map}
use Rattle.std.proofs.lemmas.Bool.{false≢true}
use Rattle.std.proofs.lemmas.Grind.{flat_map-append}
use Rattle.std.proofs.lemmas.List.{take_min, take_more, take-append-le, flat_map_more}
use Rattle.papy_io.specs.Sink.{Appended}
use Rattle.papy_io.proofs.Appending.{both_appended, appended_nothing}
use Rattle.pex_listing.specs.declared.faults.ShowFault.{ShowFault}
use Rattle.pex_listing.specs.Showing.{HoldsBack, WritesListing, Wrote}

-- the first part of the text was written
abbrev pub StopsIn : List ℕ → Option (List ℕ) → Option (List ℕ) → Type 0
StopsIn text before now = (n : ℕ) × Appended (take n text) before now

-- nothing was written
pub stops_at_once : (text : List ℕ) (before now : Option (List ℕ)) → now ≡ before → StopsIn text before now
stops_at_once text before now same = (0, appended_nothing before now same)

pub wrote_err : {T : Type 0} (text held : List ℕ) (result : Result T ShowFault) (before now : Option (List ℕ)) → IsErr result → StopsIn text before now → Wrote text result held before now
wrote_err text held (Ok _) before now failed stops = absurd (false≢true failed)
wrote_err text held (Err _) before now failed stops = stops

pub listing_err : {T : Type 0} (text : List ℕ) (result : Result T ShowFault) (before now : Option (List ℕ)) → IsErr result → StopsIn text before now → WritesListing text result before now
listing_err text (Ok _) before now failed stops = absurd (false≢true failed)
listing_err text (Err _) before now failed stops = stops

-- nothing was written, and all of the text is held back
pub all_held : (text held : List ℕ) (before now : Option (List ℕ)) → text ≡ held → now ≡ before → HoldsBack text held before now
all_held text held before now is same = record { front = []; written = appended_nothing before now same; whole = is }

-- more is held back
pub adds : (text more held new : List ℕ) (before now : Option (List ℕ)) → HoldsBack text held before now → new ≡ held ++ more → HoldsBack (text ++ more) new before now
adds text more held new before now holds is = record {
  front = holds.front;
  written = holds.written;
  whole = ap (λ t. t ++ more) holds.whole ∙ append_assoc holds.front held more ∙ ap (λ t. holds.front ++ t) (sym is);
}

take_long : (n : ℕ) (front text : List ℕ) → front ++ take n text ≡ take (length front + n) (front ++ text)
take_long n [] text = let e : n ≡ 0 + n = omega arith in ap (λ k. take k text) e
take_long n (x ∷ front) text =
    let e : suc (length front + n) ≡ suc (length front) + n = omega arith in ap (λ xs. x ∷ xs) (take_long n front text) ∙ ap (λ k. take k (x ∷ (front ++ text))) e

take_short : (n : ℕ) (front text : List ℕ) → take (min n (length front)) (front ++ text) ≡ take n front
take_short n front text = take-append-le (min n (length front)) front text (omega arith) ∙ take_min n front

-- a text stops where its front does
pub stops_early : (front rest text : List ℕ) (before now : Option (List ℕ)) → text ≡ front ++ rest → StopsIn front before now → StopsIn text before now
stops_early front rest text before now whole (n, wrote) =
    (min n (length front), subst (λ bytes. Appended bytes before now) (sym (take_short n front rest) ∙ ap (λ t. take (min n (length front)) t) (sym whole)) wrote)

-- what is held back was written, or some of it
pub flushes : {T : Type 0} (text mid left : List ℕ) (result : Result T ShowFault) (before between now : Option (List ℕ)) → HoldsBack text mid before between → Wrote mid result left between now → Wrote text result left before now
flushes text mid left (Ok _) before between now a b = record {
  front = a.front ++ b.front;
  written = both_appended a.front b.front before between now a.written b.written;
  whole = a.whole ∙ ap (λ t. a.front ++ t) b.whole ∙ sym (append_assoc a.front b.front left);
}
flushes text mid left (Err _) before between now a (n, wrote) = (
  length a.front + n,
  subst (λ bytes. Appended bytes before now) (take_long n a.front mid ∙ ap (λ t. take (length a.front + n) t) (sym a.whole))
      (both_appended a.front (take n mid) before between now a.written wrote),
)

-- behind what is held back more was written
pub goes_on : {T : Type 0} (text more mid left : List ℕ) (result : Result T ShowFault) (before between now : Option (List ℕ)) → HoldsBack text mid before between → Wrote (mid ++ more) result left between now → Wrote (text ++ more) result left before now
goes_on text more mid left result before between now a b =
    flushes (text ++ more) (mid ++ more) left result before between now (adds text more mid (mid ++ more) before between a refl) b

pub holds_on : (text more mid left : List ℕ) (before between now : Option (List ℕ)) → HoldsBack text mid before between → HoldsBack (mid ++ more) left between now → HoldsBack (text ++ more) left before now
holds_on text more mid left before between now a b = goes_on {T = ℕ} text more mid left (Ok 0) before between now a b

pub stops_behind : (fault : ShowFault) (text more mid left : List ℕ) (before between now : Option (List ℕ)) → HoldsBack text mid before between → StopsIn (mid ++ more) between now → StopsIn (text ++ more) before now
stops_behind fault text more mid left before between now a b = goes_on {T = ℕ} text more mid left (Err fault) before between now a b

pub wrote_as : {T : Type 0} (text other left : List ℕ) (result : Result T ShowFault) (before now : Option (List ℕ)) → text ≡ other → Wrote text result left before now → Wrote other result left before now
wrote_as text other left result before now same wrote = subst (λ t. Wrote t result left before now) same wrote

-- all that was held back was written at last
pub ends : {T : Type 0} (text mid left : List ℕ) (result : Result T ShowFault) (before between now : Option (List ℕ)) → HoldsBack text mid before between → Wrote mid result left between now → OnOk result (left ≡ [])
    → WritesListing text result before now
ends text mid left (Ok x) before between now a b none =
    let all = flushes {T = ℕ} text mid left (Ok 0) before between now a b in
    subst (λ bytes. Appended bytes before now) (sym (all.whole ∙ ap (λ t. all.front ++ t) none ∙ append-nil all.front)) all.written
ends text mid left (Err fault) before between now a b none = flushes {T = ℕ} text mid left (Err fault) before between now a b

-- ---- a text of several parts

pub one_front : (old a rest text : List ℕ) → text ≡ a ++ rest → old ++ text ≡ (old ++ a) ++ rest
one_front old a rest text is = ap (λ t. old ++ t) is ∙ sym (append_assoc old a rest)

pub two_front : (old a b rest text : List ℕ) → text ≡ a ++ b ++ rest → old ++ text ≡ old ++ a ++ b ++ rest
two_front old a b rest text is = one_front old (a ++ b) rest text is ∙ ap (λ t. t ++ rest) (sym (append_assoc old a b))

pub three_front : (old a b c rest text : List ℕ) → text ≡ a ++ b ++ c ++ rest → old ++ text ≡ old ++ a ++ b ++ c ++ rest
three_front old a b c rest text is = two_front old (a ++ b) c rest text is ∙ ap (λ t. t ++ c ++ rest) (sym (append_assoc old a b))

pub four_front : (old a b c d rest text : List ℕ) → text ≡ a ++ b ++ c ++ d ++ rest → old ++ text ≡ old ++ a ++ b ++ c ++ d ++ rest
four_front old a b c d rest text is = three_front old (a ++ b) c d rest text is ∙ ap (λ t. t ++ c ++ d ++ rest) (sym (append_assoc old a b))

-- ---- a list of parts, one after another

module _ {X : Type 0} (f : X → List ℕ) (xs : List X) (old : List ℕ) where
  pub none_yet : (mid : List ℕ) (now : Option (List ℕ)) → mid ≡ old → HoldsBack (old ++ flat_map f (take 0 xs)) mid now now
  none_yet mid now same = all_held (old ++ []) mid now now (append-nil old ∙ sym same) refl

  one_more : (i : ℕ) (x : X) → i < length xs → x ≡ get_or xs i x → (old ++ flat_map f (take i xs)) ++ f x ≡ old ++ flat_map f (take (i + 1) xs)
  one_more i x lt is =
      flat_map_more f old (take i xs) x ∙ ap (λ ys. old ++ flat_map f ys) (ap (λ y. take i xs ++ y ∷ []) is ∙ sym (take_more xs i x lt))

  past : (i : ℕ) → old ++ flat_map f xs ≡ (old ++ flat_map f (take i xs)) ++ flat_map f (drop i xs)
  past i =
      ap (λ ys. old ++ flat_map f ys) (sym (take-append-drop i xs)) ∙ ap (λ t. old ++ t) (flat_map-append f (take i xs) (drop i xs)) ∙ sym (append_assoc old (flat_map f (take i xs)) (flat_map f (drop i xs)))

  -- one part more was shown
  pub part_shown : (i : ℕ) (x : X) (mid left : List ℕ) (before between now : Option (List ℕ)) → i < length xs → x ≡ get_or xs i x
      → HoldsBack (old ++ flat_map f (take i xs)) mid before between → HoldsBack (mid ++ f x) left between now → HoldsBack (old ++ flat_map f (take (i + 1) xs)) left before now
  part_shown i x mid left before between now lt is a b =
      subst (λ t. HoldsBack t left before now) (one_more i x lt is) (holds_on (old ++ flat_map f (take i xs)) (f x) mid left before between now a b)

  -- a fault came in this part
  pub part_stops : (fault : ShowFault) (i : ℕ) (x : X) (mid : List ℕ) (before between now : Option (List ℕ)) → i < length xs → x ≡ get_or xs i x
      → HoldsBack (old ++ flat_map f (take i xs)) mid before between → StopsIn (mid ++ f x) between now → StopsIn (old ++ flat_map f xs) before now
  part_stops fault i x mid before between now lt is a b =
      let here = stops_behind fault (old ++ flat_map f (take i xs)) (f x) mid mid before between now a b in
      stops_early (old ++ flat_map f (take (i + 1) xs)) (flat_map f (drop (i + 1) xs)) (old ++ flat_map f xs) before now (past (i + 1))
      (subst (λ t. StopsIn t before now) (one_more i x lt is) here)

  pub all_shown : (i : ℕ) (mid : List ℕ) (before now : Option (List ℕ)) → length xs ≤ i → HoldsBack (old ++ flat_map f (take i xs)) mid before now → HoldsBack (old ++ flat_map f xs) mid before now
  all_shown i mid before now le a = subst (λ ys. HoldsBack (old ++ flat_map f ys) mid before now) (take_all i xs le) a
