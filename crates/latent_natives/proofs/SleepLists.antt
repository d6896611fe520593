-- The first sleep that is due in a list that is put together, and the earliest turn of such a list.
use Rattle.std.proofs.Common.{◌≡◌, ℕ, zero, suc, ◌+◌, ◌-◌, ◌/◌, ◌<◌, ◌≤◌, Bool, true, false, cond, List, [], ◌∷◌, ◌++◌, length, Option, Some, None, inl, inr, not, refl, sym, ap, ◌∙◌, arith, is_some, position, replicate, slice_set, length-append}
use Rattle.std.specs.List.{position_or_len}
use Rattle.std.proofs.lemmas.Bool.{cases_lt, lt-leb, false≢true}
use Rattle.std.proofs.lemmas.Grind.{common_steps}
use Rattle.std.proofs.lemmas.List.{get_or_append_left, get_or-append_right, set-append_left, set-append_right}
use Rattle.std.proofs.lemmas.List.Quantifiers.{position-Some}
use Rattle.std.proofs.lemmas.List.Sums.{position_or_len_is, fails_before_first, passes_at_first, prefix_len-le-length}
use Rattle.latent_natives.specs.SleepTree.{NotBefore}
use Rattle.latent_natives.specs.Sleepers.{is_due}

-- ---- the earliest turn
pub not_before-append : (turn : ℕ) (xs ys : List (Option ℕ)) → NotBefore turn xs → NotBefore turn ys → NotBefore turn (xs ++ ys)
not_before-append turn [] ys left right = right
not_before-append turn (None ∷ xs) ys left right = not_before-append turn xs ys left right
not_before-append turn (Some until ∷ xs) ys left right = (left.0, not_before-append turn xs ys left.1 right)

pub not_before-less : (turn later : ℕ) (xs : List (Option ℕ)) → turn ≤ later → NotBefore later xs → NotBefore turn xs
not_before-less turn later [] less all = all
not_before-less turn later (None ∷ xs) less all = not_before-less turn later xs less all
not_before-less turn later (Some until ∷ xs) less all = (omega (arith, less, all.0), not_before-less turn later xs less all.1)

pub not_before-replicate : (turn n : ℕ) → NotBefore turn (replicate n None)
not_before-replicate turn zero = tt
not_before-replicate turn (suc n) = not_before-replicate turn n

-- ---- the first sleep that is due
one_more : (m n : ℕ) → m ≡ n → 1 + m ≡ suc n
one_more m n is = omega (arith, is)

nowhere : (turn earliest : ℕ) (xs : List (Option ℕ)) → turn < earliest → NotBefore earliest xs → position_or_len (is_due turn) xs ≡ length xs
nowhere turn earliest [] before all = refl
nowhere turn earliest (None ∷ xs) before all = one_more _ _ (nowhere turn earliest xs before all)
nowhere turn earliest (Some until ∷ xs) before all = ap (λ b. cond (not b) (1 + position_or_len (is_due turn) xs) 0) (lt-leb until turn (omega (arith, before, all.0))) ∙ one_more _ _ (nowhere turn earliest xs before all.1)

position_none : (p : Option ℕ → Bool) (xs : List (Option ℕ)) → position_or_len p xs ≡ length xs → position p xs ≡ None
position_none p xs is = grind (arith, common_steps)

pub none_due : (turn earliest : ℕ) (xs : List (Option ℕ)) → turn < earliest → NotBefore earliest xs → position (is_due turn) xs ≡ None
none_due turn earliest xs before all = position_none (is_due turn) xs (nowhere turn earliest xs before all)

found : (p : Option ℕ → Bool) (xs more : List (Option ℕ)) → position_or_len p xs < length xs → position_or_len p (xs ++ more) ≡ position_or_len p xs
found p xs more within =
    position_or_len_is p (xs ++ more) (position_or_len p xs) None
    (omega (arith, length-append xs more))
    (λ k h. let within : k < length xs = omega arith in rw get_or_append_left (fails_before_first p xs k None h))
    (λ _. rw get_or_append_left (passes_at_first p xs None within))

missing : (p : Option ℕ → Bool) (xs more : List (Option ℕ)) → length xs ≤ position_or_len p xs → position_or_len p (xs ++ more) ≡ length xs + position_or_len p more
missing p xs more past_all =
    let bound : position_or_len p more ≤ length more = prefix_len-le-length _ more in
    position_or_len_is p (xs ++ more) (length xs + position_or_len p more) None
    (omega (arith, length-append xs more))
    (λ k h. elim (cases_lt k (length xs)) [
      | inl within ↦ rw get_or_append_left (fails_before_first p xs k None (omega arith))
      | inr past ↦ rw (get_or-append_right xs more (length xs) k None refl past) (fails_before_first p more (k - length xs) None (omega arith))
    ])
    (λ h.
    let same : length xs + position_or_len p more - length xs ≡ position_or_len p more = omega arith in
    rw (get_or-append_right xs more (length xs) (length xs + position_or_len p more) None refl (omega arith), same)
    (passes_at_first p more None (omega (arith, length-append xs more))))

pub first_left : (p : Option ℕ → Bool) (xs ys : List (Option ℕ)) (at : ℕ) → position p xs ≡ Some at → position p (xs ++ ys) ≡ Some at
first_left p xs ys at is =
    let place : position_or_len p xs ≡ at = grind (arith, common_steps) in
    let within : at < length xs = grind (arith, common_steps) in
    let same = found p xs ys (omega (arith, place, within)) in
    grind (arith, common_steps, length-append xs ys)

past_all : (p : Option ℕ → Bool) (xs : List (Option ℕ)) → position p xs ≡ None → length xs ≤ position_or_len p xs
past_all p xs is = grind (arith, common_steps)

pub first_right : (p : Option ℕ → Bool) (xs ys : List (Option ℕ)) (at : ℕ) → position p xs ≡ None → position p ys ≡ Some at → position p (xs ++ ys) ≡ Some (length xs + at)
first_right p xs ys at none is =
    let place : position_or_len p ys ≡ at = grind (arith, common_steps) in
    let within : at < length ys = grind (arith, common_steps) in
    let same = missing p xs ys (past_all p xs none) in
    grind (arith, common_steps, length-append xs ys)

pub first_nowhere : (p : Option ℕ → Bool) (xs ys : List (Option ℕ)) → position p xs ≡ None → position p ys ≡ None → position p (xs ++ ys) ≡ None
first_nowhere p xs ys none is =
    let past = past_all p ys is in
    let bound : position_or_len p ys ≤ length ys = prefix_len-le-length _ ys in
    let same = missing p xs ys (past_all p xs none) in
    position_none p (xs ++ ys) (omega (arith, length-append xs ys))

pub place_within : (p : Option ℕ → Bool) (xs : List (Option ℕ)) (at : ℕ) → position p xs ≡ Some at → at < length xs
place_within p xs at is = (position-Some p xs at None is).0

next : (m n : ℕ) → suc (m + n) ≡ suc m + n
next m n = omega arith

pub replicate-append : (m n : ℕ) → replicate {A = Option ℕ} m None ++ replicate n None ≡ replicate (m + n) None
replicate-append zero n = ap (λ k. replicate k None) (plain n)
  where
    plain : (k : ℕ) → k ≡ 0 + k
    plain k = omega arith
replicate-append (suc m) n = ap (λ xs. None ∷ xs) (replicate-append m n) ∙ ap (λ k. replicate k None) (next m n)

-- ---- the answers of a node with two sides
pub on_left : (turn : ℕ) (all xs ys : List (Option ℕ)) (left : Option ℕ) → all ≡ xs ++ ys → left ≡ position (is_due turn) xs → is_some left ≡ true → left ≡ position (is_due turn) all
on_left turn all xs ys None is first some = absurd (false≢true some)
on_left turn all xs ys (Some at) is first some = sym (ap (position (is_due turn)) is ∙ first_left (is_due turn) xs ys at (sym first))

pub on_right : (turn count : ℕ) (all xs ys : List (Option ℕ)) (left : Option ℕ) (at : ℕ) → all ≡ xs ++ ys → left ≡ position (is_due turn) xs → is_some left ≡ false → Some at ≡ position (is_due turn) ys → count ≡ length xs → Some (count + at) ≡ position (is_due turn) all
on_right turn count all xs ys (Some other) at is first none second counted = absurd (false≢true (sym none))
on_right turn count all xs ys None at is first none second counted = ap (λ n. Some (n + at)) counted ∙ sym (ap (position (is_due turn)) is ∙ first_right (is_due turn) xs ys at (sym first) (sym second))

pub on_neither : (turn : ℕ) (all xs ys : List (Option ℕ)) (left : Option ℕ) → all ≡ xs ++ ys → left ≡ position (is_due turn) xs → is_some left ≡ false → None ≡ position (is_due turn) ys → None ≡ position (is_due turn) all
on_neither turn all xs ys (Some other) is first none second = absurd (false≢true (sym none))
on_neither turn all xs ys None is first none second = sym (ap (position (is_due turn)) is ∙ first_nowhere (is_due turn) xs ys (sym first) (sym second))

pub fits : (turn count total : ℕ) (all xs ys : List (Option ℕ)) (at : ℕ) → all ≡ xs ++ ys → Some at ≡ position (is_due turn) ys → count ≡ length xs → total ≡ length all → total < 65536 → count + at < 65536
fits turn count total all xs ys at is second counted all_counted few =
    let within = place_within (is_due turn) ys at (sym second) in
    let lengths : length all ≡ length xs + length ys = ap length is ∙ length-append xs ys in
    omega (arith, within, lengths, counted, all_counted, few)

pub set_left : (stack : ℕ) (until : Option ℕ) (all xs ys new : List (Option ℕ)) → all ≡ xs ++ ys → stack < length xs → new ≡ slice_set xs stack until → new ++ ys ≡ slice_set all stack until
set_left stack until all xs ys new is within changed = ap (λ l. l ++ ys) changed ∙ sym (ap (λ l. slice_set l stack until) is ∙ set-append_left xs ys stack until within)

pub set_right : (stack count : ℕ) (until : Option ℕ) (all xs ys new : List (Option ℕ)) → all ≡ xs ++ ys → count ≡ length xs → count ≤ stack → new ≡ slice_set ys (stack - count) until → xs ++ new ≡ slice_set all stack until
set_right stack count until all xs ys new is counted past changed = ap (λ l. xs ++ l) changed ∙ sym (ap (λ l. slice_set l stack until) is ∙ set-append_right xs ys count stack until (sym counted) past)

-- ---- two halves without sleeps
pub halves : (n : ℕ) (xs ys : List (Option ℕ)) → xs ≡ replicate (n / 2) None → ys ≡ replicate (n - n / 2) None → xs ++ ys ≡ replicate n None
halves n xs ys left right = ap (λ l. l ++ ys) left ∙ ap (λ l. replicate (n / 2) None ++ l) right ∙ replicate-append (n / 2) (n - n / 2) ∙ ap (λ k. replicate k None) (whole n)
  where
    whole : (k : ℕ) → k / 2 + (k - k / 2) ≡ k
    whole k = omega arith
