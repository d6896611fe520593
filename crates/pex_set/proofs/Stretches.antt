-- What stretches answer, and how members change it.
use Rattle.std.proofs.Common.{◌≡◌, ℕ, zero, suc, ◌+◌, ◌-◌, ◌<◌, ◌≤◌, true, false, cond, List, [], ◌∷◌, ◌++◌, length, get_or, take, drop, Option, Some, None, sym, ap, ◌∙◌, refl, arith, subst, ◌⊎◌, ⊎_elim, inl, inr, length-take, length-drop, get_or-take, get_or-drop}
use Rattle.std.specs.Prelude.{All, slice_get, reverse}
use Rattle.std.specs.List.{AllWithin, last_or}
use Rattle.std.specs.List.Sorted.{IsPartitionedBy, IsPartitionPoint}
use Rattle.std.proofs.lemmas.Bool.{cases_lt, true≢false}
use Rattle.std.proofs.lemmas.Option.{none-some, same_Some}
use Rattle.std.specs.Option.{is_some, option_to_list}
use Rattle.std.proofs.lemmas.List.{take-append-drop, reverse-append}
use Rattle.std.proofs.lemmas.List.Elements.{All-head, All-tail}
use Rattle.pex_set.specs.declared.inherited.MemberPlace.{MemberPlace}
use Rattle.pex_set.specs.declared.inherited.Stretch.{Stretch}
use Rattle.pex_set.specs.Inherited.{Position, is_up_to, found_from, Ascends}
use Rattle.pex_set.specs.Sweep.{member_of}
use Rattle.pex_set.proofs.Positions.{is_up_to-trans}

pub last_or-slice_get : {A : Type 0} (o : Option A) (x : A) (xs : List A) → slice_get (x ∷ xs) (length xs) ≡ last_or o (x ∷ xs)
last_or-slice_get o x [] = refl
last_or-slice_get o x (y ∷ ys) = last_or-slice_get (Some x) y ys

pub last_or-push : {A : Type 0} (o : Option A) (xs : List A) (x : A) → last_or o (xs ++ x ∷ []) ≡ Some x
last_or-push o [] x = refl
last_or-push o (y ∷ ys) x = last_or-push (Some y) ys x

pub last_or-nonempty : {A : Type 0} (xs : List A) (x : A) → last_or None xs ≡ Some x → 0 < length xs
last_or-nonempty [] x h = absurd (none-some x h)
last_or-nonempty (y ∷ ys) x h = omega arith

-- what `pop` leaves, where the last was seen before
pub popped : {A : Type 0} (old new : List A) (r : Option A) (x : A) → last_or None old ≡ Some x → old ≡ new ++ option_to_list r → is_some r ≡ true → old ≡ new ++ x ∷ []
popped old new None x h e s = absurd (true≢false (sym s))
popped old new (Some y) x h e s = e ∙ ap (λ z. new ++ z ∷ []) (same_Some y x (sym (last_or-push None new y) ∙ ap (last_or None) (sym e) ∙ h))

first_of_pushed : {A : Type 0} (xs : List A) (y : A) (zs : List A) → slice_get (xs ++ y ∷ []) 0 ≡ slice_get ((xs ++ y ∷ []) ++ zs) 0
first_of_pushed [] y zs = refl
first_of_pushed (x ∷ xs) y zs = refl

last_or-reverse : {A : Type 0} (x : A) (xs : List A) → last_or (Some x) xs ≡ slice_get (reverse xs ++ x ∷ []) 0
last_or-reverse x [] = refl
last_or-reverse x (y ∷ ys) =
    last_or-reverse y ys ∙ first_of_pushed (reverse ys) y (x ∷ []) ∙ ap (λ l. slice_get (l ++ x ∷ []) 0) (sym (reverse-append (y ∷ []) ys))

pub first_of_reverse : {A : Type 0} (xs : List A) → last_or None xs ≡ slice_get (reverse xs) 0
first_of_reverse [] = refl
first_of_reverse (x ∷ xs) = last_or-reverse x xs ∙ ap (λ l. slice_get l 0) (sym (reverse-append (x ∷ []) xs))

pub last_or-last : {A : Type 0} (xs : List A) → slice_get xs (length xs - 1) ≡ last_or None xs
last_or-last [] = refl
last_or-last (x ∷ xs) = let e : length (x ∷ xs) - 1 ≡ length xs = omega arith in rw e (last_or-slice_get None x xs)

pub found_from-append : (xs ys : List Stretch) (q : Position) (f : Option MemberPlace) → found_from (xs ++ ys) q f ≡ found_from ys q (found_from xs q f)
found_from-append [] ys q f = refl
found_from-append (x ∷ xs) ys q f = found_from-append xs ys q (cond (is_up_to x.start q) x.member f)

-- stretches that all begin later change nothing
pub found_from-later : (xs : List Stretch) (q : Position) (f : Option MemberPlace) → All (λ x. is_up_to x.start q ≡ false) xs → found_from xs q f ≡ f
found_from-later [] q f h = refl
found_from-later (x ∷ xs) q f h =
    let P : Stretch → Type 0 = λ x. is_up_to x.start q ≡ false in
    rw (All-head P x xs h) (found_from-later xs q f (All-tail P x xs h))

-- where all begin before, the last counts
pub found_from-earlier : (xs : List Stretch) (q : Position) (o : Option Stretch) → All (λ x. is_up_to x.start q ≡ true) xs → found_from xs q (member_of o) ≡ member_of (last_or o xs)
found_from-earlier [] q o h = refl
found_from-earlier (x ∷ xs) q o h =
    let P : Stretch → Type 0 = λ x. is_up_to x.start q ≡ true in
    rw (All-head P x xs h) (found_from-earlier xs q (Some x) (All-tail P x xs h))

Ascends-pair : (xs : List Stretch) → Ascends xs → (i j : ℕ) (d : Stretch) → i < j → j < length xs → is_up_to (get_or xs i d).start (get_or xs j d).start ≡ true
Ascends-pair [] h i j d l k = absurd (omega arith)
Ascends-pair (x ∷ xs) h i zero d l k = absurd (omega arith)
Ascends-pair (x ∷ xs) h zero (suc j) d l k = h.0 j d (omega arith)
Ascends-pair (x ∷ xs) h (suc i) (suc j) d l k = Ascends-pair xs h.1 i j d (omega arith) (omega arith)

cases_le : (i j : ℕ) → i ≤ j → (i ≡ j) ⊎ (i < j)
cases_le i j l = ⊎_elim (λ less. inr less) (λ ge. inl (omega arith)) (cases_lt i j)

All-take_within : {A : Type 0} (P : A → Type 0) (xs : List A) (n : ℕ) → n ≤ length xs → AllWithin P xs 0 n → All P (take n xs)
All-take_within P xs n l h = λ k d m. let less : k < n = omega (arith, length-take n xs) in rw get_or-take (h k d (omega arith) less)

All-drop_within : {A : Type 0} (P : A → Type 0) (xs : List A) (n : ℕ) → n ≤ length xs → AllWithin P xs n (length xs) → All P (drop n xs)
All-drop_within P xs n l h = λ k d m. rw get_or-drop (h (n + k) d (omega arith) (omega (arith, length-drop n xs)))

-- stretches that begin up to a position come before those that don't
pub Ascends-partitioned : (xs : List Stretch) (q : Position) → Ascends xs → IsPartitionedBy (λ x. is_up_to x.start q) xs
Ascends-partitioned xs q h i j d l k e =
    ⊎_elim (λ same. subst (λ n. is_up_to (get_or xs n d).start q ≡ true) (sym same) e) (λ less. is_up_to-trans _ _ q (Ascends-pair xs h i j d less k) e) (cases_le i j l)

pub found_from-point : (xs : List Stretch) (q : Position) (n : ℕ) → n ≤ length xs → IsPartitionPoint (λ x. is_up_to x.start q ≡ true) (λ x. is_up_to x.start q ≡ false) xs n → found_from xs q None ≡ member_of (last_or None (take n xs))
found_from-point xs q n l h =
    let before : All (λ x. is_up_to x.start q ≡ true) (take n xs) = All-take_within (λ x. is_up_to x.start q ≡ true) xs n l h.0 in
    let behind : All (λ x. is_up_to x.start q ≡ false) (drop n xs) = All-drop_within (λ x. is_up_to x.start q ≡ false) xs n l h.1 in
    ap (λ l. found_from l q None) (sym (take-append-drop n xs)) ∙ found_from-append (take n xs) (drop n xs) q None ∙ found_from-later (drop n xs) q _ behind ∙ found_from-earlier (take n xs) q None before
