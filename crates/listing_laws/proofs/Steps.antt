-- What a line that breaks no rule leaves for those behind it.
use Rattle.std.proofs.Common.{◌≡◌, ℕ, suc, ◌+◌, ◌-◌, ◌<◌, ◌≤◌, ◌==◌, not, Bool, true, false, cond, List, [], ◌∷◌, ◌++◌, length, Some, None, refl, sym, ap, ◌∙◌, append_assoc, append-nil, ⊎_elim, arith}
use Rattle.std.specs.Prelude.{◌||◌, codes, nat_lt, unwrap_or}
use Rattle.std.specs.List.{list_all, flat_map, AllByRecursion}
use Rattle.std.specs.Str.{bytes_eq}
use Rattle.std.specs.Cmp.Lexicographic.{bytes_decides}
use Rattle.std.proofs.lemmas.Bool.{and_from, and_parts, cases_Bool, cond-true, cond-false, false≢true, le-leb, lt-ltb, ltb-true, not-true}
use Rattle.std.proofs.lemmas.List.{length-append}
use Rattle.pex_listing.specs.Breaks.{Awaited, One, Many, Break, Found, Passed, Place, before_byte, behind_byte, behind_line, between, break_from, fields_of, first_of, is_among, left_after, line_of, line_outcome, may_end, may_stand, read_line}
use Rattle.pex_listing.proofs.Cuts.{is_token}
use Rattle.pex_listing.proofs.Leaving.{between_cut, cut_behind, fields_cut}

-- ---- cutting at a byte

abbrev pub without : ℕ → List ℕ → Bool
without c t = list_all (λ b. not (b == c)) t

pub before_at : (c : ℕ) (t r : List ℕ) → (c == c) ≡ true → without c t ≡ true → before_byte c (t ++ c ∷ r) ≡ t
before_at c [] r same is = cond-true _ _ _ same
before_at c (b ∷ t) r same is = let parts = and_parts _ _ is in cond-false _ _ _ (not-true _ parts.0) ∙ ap (λ u. b ∷ u) (before_at c t r same parts.1)

pub behind_at : (c : ℕ) (t r : List ℕ) → (c == c) ≡ true → without c t ≡ true → behind_byte c (t ++ c ∷ r) ≡ Some r
behind_at c [] r same is = cond-true _ _ _ same
behind_at c (b ∷ t) r same is = let parts = and_parts _ _ is in cond-false _ _ _ (not-true _ parts.0) ∙ behind_at c t r same parts.1

before_none : (c : ℕ) (t : List ℕ) → without c t ≡ true → before_byte c (t ++ []) ≡ t
before_none c [] is = refl
before_none c (b ∷ t) is = let parts = and_parts _ _ is in cond-false _ _ _ (not-true _ parts.0) ∙ ap (λ u. b ∷ u) (before_none c t parts.1)

behind_none : (c : ℕ) (t : List ℕ) → without c t ≡ true → behind_byte c (t ++ []) ≡ None
behind_none c [] is = refl
behind_none c (b ∷ t) is = let parts = and_parts _ _ is in cond-false _ _ _ (not-true _ parts.0) ∙ behind_none c t parts.1

pub without_both : (c : ℕ) (t u : List ℕ) → without c t ≡ true → without c u ≡ true → without c (t ++ u) ≡ true
without_both c [] u p q = q
without_both c (b ∷ t) u p q = let parts = and_parts _ _ p in and_from _ _ parts.0 (without_both c t u parts.1 q)

either : (a b : Bool) → not (a || b) ≡ true → (not a ≡ true) × (not b ≡ true)
either false false is = (refl, refl)
either false true is = absurd (false≢true is)
either true b is = absurd (false≢true is)

no_space : (t : List ℕ) → is_token t ≡ true → without 32 t ≡ true
no_space [] is = refl
no_space (b ∷ t) is = let parts = and_parts _ _ is in and_from _ _ (either (b == 32) (b == 10) parts.0).0 (no_space t parts.1)

pub no_end : (t : List ℕ) → is_token t ≡ true → without 10 t ≡ true
no_end [] is = refl
no_end (b ∷ t) is = let parts = and_parts _ _ is in and_from _ _ (either (b == 32) (b == 10) parts.0).1 (no_end t parts.1)

-- ---- a line of fields

abbrev pub AreTokens : List (List ℕ) → Type 0
AreTokens fs = AllByRecursion (λ f. is_token f ≡ true) fs

abbrev pub flat : List (List ℕ) → List ℕ
flat [] = []
flat (f ∷ fs) = 32 ∷ (f ++ flat fs)

-- the fields behind a first word, the line's end, and what follows
abbrev pub row : List (List ℕ) → List ℕ → List ℕ
row [] r = 10 ∷ r
row (f ∷ fs) r = 32 ∷ (f ++ row fs r)

row_flat : (fs : List (List ℕ)) (r : List ℕ) → row fs r ≡ flat fs ++ 10 ∷ r
row_flat [] r = refl
row_flat (f ∷ fs) r = ap (λ t. 32 ∷ (f ++ t)) (row_flat fs r) ∙ ap (λ t. 32 ∷ t) (sym (append_assoc f (flat fs) (10 ∷ r)))

flat_end : (fs : List (List ℕ)) → AreTokens fs → without 10 (flat fs) ≡ true
flat_end [] each = refl
flat_end (f ∷ fs) each = without_both 10 f (flat fs) (no_end f each.0) (flat_end fs each.1)

word_before : (w : List ℕ) (fs : List (List ℕ)) → is_token w ≡ true → before_byte 32 (w ++ flat fs) ≡ w
word_before w [] token = before_none 32 w (no_space w token)
word_before w (f ∷ fs) token = before_at 32 w (f ++ flat fs) refl (no_space w token)

fields_behind : (w : List ℕ) (fs : List (List ℕ)) → is_token w ≡ true → AreTokens fs → fields_of (behind_byte 32 (w ++ flat fs)) ≡ fs
fields_behind w [] token each = ap fields_of (behind_none 32 w (no_space w token))
fields_behind w (f ∷ fs) token each =
    ap fields_of (behind_at 32 w (f ++ flat fs) refl (no_space w token))
    ∙ fields_cut (f ++ flat fs)
    ∙ ap (λ t. t ∷ fields_of (behind_byte 32 (f ++ flat fs))) (word_before f fs each.0)
    ∙ ap (λ us. f ∷ us) (fields_behind f fs each.0 each.1)

-- ---- one line

abbrev pub clear : ℕ → List Awaited → List (List ℕ) → Found
clear bytes inside added = record { bytes = bytes; rule = None; inside = inside; added = added }

abbrev pub from : List Awaited → List (List ℕ) → ℕ → ℕ → List ℕ → Break
from awaited strings room number text = break_from (record { awaited = awaited; strings = strings; room = room; number = number }) (between 10 text)

line_cut : (line r : List ℕ) → without 10 line ≡ true → between 10 (line ++ 10 ∷ r) ≡ line ∷ between 10 r
line_cut line r is =
    between_cut 10 (line ++ 10 ∷ r)
    ∙ ap (λ t. t ∷ cut_behind 10 (behind_byte 10 (line ++ 10 ∷ r))) (before_at 10 line r refl is)
    ∙ ap (λ o. line ∷ cut_behind 10 o) (behind_at 10 line r refl is)

two_lines : (p : Place) (line next : List ℕ) (more : List (List ℕ)) → break_from p (line ∷ next ∷ more)
    ≡ first_of p.number (read_line p (before_byte 32 line) (behind_byte 32 line)) (break_from (behind_line p (left_after p.awaited (before_byte 32 line)) (read_line p (before_byte 32 line) (behind_byte 32 line))) (next ∷ more))
unfolding break_from
two_lines p line next more = refl

line_step : (p : Place) (line r : List ℕ) → without 10 line ≡ true → break_from p (between 10 (line ++ 10 ∷ r))
    ≡ first_of p.number (read_line p (before_byte 32 line) (behind_byte 32 line)) (break_from (behind_line p (left_after p.awaited (before_byte 32 line)) (read_line p (before_byte 32 line) (behind_byte 32 line))) (between 10 r))
line_step p line r is =
    let o = read_line p (before_byte 32 line) (behind_byte 32 line) in
    ap (break_from p) (line_cut line r is)
    ∙ ap (λ ls. break_from p (line ∷ ls)) (between_cut 10 r)
    ∙ two_lines p line (before_byte 10 r) (cut_behind 10 (behind_byte 10 r))
    ∙ ap (λ ls. first_of p.number o (break_from (behind_line p (left_after p.awaited (before_byte 32 line)) o) ls)) (sym (between_cut 10 r))

pub none_more : (n : ℕ) → n ≡ 0 + n
none_more n = omega arith

less : (b n : ℕ) → (b + n) - b ≡ n
less b n = omega arith

module _ (awaited : List Awaited) (strings : List (List ℕ)) (word : List ℕ) (bytes rest : ℕ) (inside : List Awaited) (added : List (List ℕ)) where
  line_passed : (line r : List ℕ) (number : ℕ) → without 10 line ≡ true → before_byte 32 line ≡ word → may_stand awaited word ≡ true
      → line_of strings word (unwrap_or (behind_byte 32 line) []) (fields_of (behind_byte 32 line)) ≡ clear bytes inside added
      → from awaited strings (bytes + rest) number (line ++ 10 ∷ r) ≡ from (inside ++ left_after awaited word) (strings ++ added) rest (suc number) r
  line_passed line r number is first stands form =
      let p : Place = record { awaited = awaited; strings = strings; room = bytes + rest; number = number } in
      let behind = behind_byte 32 line in
      let passed : read_line p word behind ≡ Passed rest inside added =
      ap (line_outcome p word) form
      ∙ cond-true _ _ _ stands
      ∙ cond-true _ _ _ (le-leb bytes (bytes + rest) (omega arith))
      ∙ ap (λ n. Passed n inside added) (less bytes rest) in
      line_step p line r is
      ∙ ap (λ w. first_of number (read_line p w behind) (break_from (behind_line p (left_after awaited w) (read_line p w behind)) (between 10 r))) first
      ∙ ap (λ o. first_of number o (break_from (behind_line p (left_after awaited word) o) (between 10 r))) passed

-- ---- what may be left of the lines before

-- lines of lower rank stand before those of a higher one, and none of them behind
abbrev pub word_rank : List ℕ → ℕ
word_rank w =
    cond (bytes_eq w (codes "param")) 0 (cond (bytes_eq w (codes "local")) 1 (cond (bytes_eq w (codes "read")) 3 (cond (bytes_eq w (codes "write")) 3
    (cond (bytes_eq w (codes "function")) 4 (cond (bytes_eq w (codes "variable")) 5 (cond (bytes_eq w (codes "property")) 6 (cond (bytes_eq w (codes "state")) 7
    (cond (bytes_eq w (codes "object")) 8 (cond (bytes_eq w (codes "lines")) 5 (cond (bytes_eq w (codes "flag")) 6 (cond (bytes_eq w (codes "string")) 9
    (cond (bytes_eq w (codes "debug")) 10 (cond (bytes_eq w (codes "nodebug")) 10 2)))))))))))))

abbrev pub are_low : ℕ → List (List ℕ) → Bool
are_low k words = list_all (λ w. nat_lt (word_rank w) k) words

abbrev pub is_low : ℕ → Awaited → Bool
is_low k (One words) = false
is_low k (Many words n) = are_low k words

not_among : (k : ℕ) (w : List ℕ) (words : List (List ℕ)) → k ≤ word_rank w → are_low k words ≡ true → is_among w words ≡ false
not_among k w [] high low = refl
not_among k w (v ∷ words) high low =
    let parts = and_parts _ _ low in
    ⊎_elim
    (λ (is : bytes_eq w v ≡ true).
    let same : word_rank w ≡ word_rank v = ap word_rank ((bytes_decides w v).0 is) in
    let under : word_rank v < k = ltb-true (word_rank v) k parts.0 in
    absurd (omega arith))
    (λ (other : bytes_eq w v ≡ false). ap (λ b. b || is_among w words) other ∙ not_among k w words high parts.1)
    (cases_Bool (bytes_eq w v))

skip_stand : (k : ℕ) (w : List ℕ) (pre awaited : List Awaited) → k ≤ word_rank w → list_all (is_low k) pre ≡ true → may_stand (pre ++ awaited) w ≡ may_stand awaited w
skip_stand k w [] awaited high low = refl
skip_stand k w (One words ∷ pre) awaited high low = absurd (false≢true low)
skip_stand k w (Many words n ∷ pre) awaited high low =
    let parts = and_parts _ _ low in cond-false _ _ _ (not_among k w words high parts.0) ∙ skip_stand k w pre awaited high parts.1

skip_left : (k : ℕ) (w : List ℕ) (pre awaited : List Awaited) → k ≤ word_rank w → list_all (is_low k) pre ≡ true → left_after (pre ++ awaited) w ≡ left_after awaited w
skip_left k w [] awaited high low = refl
skip_left k w (One words ∷ pre) awaited high low = absurd (false≢true low)
skip_left k w (Many words n ∷ pre) awaited high low =
    let parts = and_parts _ _ low in cond-false _ _ _ (not_among k w words high parts.0) ∙ skip_left k w pre awaited high parts.1

low_end : (k : ℕ) (pre : List Awaited) → list_all (is_low k) pre ≡ true → may_end (pre ++ []) ≡ true
low_end k [] low = refl
low_end k (One words ∷ pre) low = absurd (false≢true low)
low_end k (Many words n ∷ pre) low = low_end k pre (and_parts _ _ low).1

low_more : (j k : ℕ) (words : List (List ℕ)) → j ≤ k → are_low j words ≡ true → are_low k words ≡ true
low_more j k [] below low = refl
low_more j k (w ∷ words) below low =
    let parts = and_parts _ _ low in
    let under : word_rank w < j = ltb-true (word_rank w) j parts.0 in
    and_from _ _ (lt-ltb (word_rank w) k (omega arith)) (low_more j k words below parts.1)

pre_more : (j k : ℕ) (pre : List Awaited) → j ≤ k → list_all (is_low j) pre ≡ true → list_all (is_low k) pre ≡ true
pre_more j k [] below low = refl
pre_more j k (One words ∷ pre) below low = absurd (false≢true low)
pre_more j k (Many words n ∷ pre) below low = let parts = and_parts _ _ low in and_from _ _ (low_more j k words below parts.0) (pre_more j k pre below parts.1)

pre_added : (k : ℕ) (pre : List Awaited) (words : List (List ℕ)) (n : ℕ) → list_all (is_low k) pre ≡ true → are_low k words ≡ true → list_all (is_low k) (pre ++ Many words n ∷ []) ≡ true
pre_added k [] words n low here = and_from _ _ here refl
pre_added k (a ∷ pre) words n low here = let parts = and_parts _ _ low in and_from _ _ parts.0 (pre_added k pre words n parts.1 here)

-- ---- texts that break no rule

-- also where lines of a lower rank could still stand before
abbrev pub Clean : ℕ → List Awaited → List (List ℕ) → ℕ → List ℕ → Type 0
Clean k awaited strings room text = (pre : List Awaited) → list_all (is_low k) pre ≡ true → (number : ℕ) → from (pre ++ awaited) strings room number text ≡ None

pub weaken : (j k : ℕ) (awaited : List Awaited) (strings : List (List ℕ)) (room : ℕ) (text : List ℕ) → j ≤ k → Clean k awaited strings room text → Clean j awaited strings room text
weaken j k awaited strings room text below clean = λ pre low. clean pre (pre_more j k pre below low)

module _ (k : ℕ) (awaited : List Awaited) (strings : List (List ℕ)) (room : ℕ) (text : List ℕ) where
  pub same_text : (t : List ℕ) → t ≡ text → Clean k awaited strings room text → Clean k awaited strings room t
  same_text t e clean = λ pre low number. ap (from (pre ++ awaited) strings room number) e ∙ clean pre low number

  pub same_room : (m : ℕ) → m ≡ room → Clean k awaited strings room text → Clean k awaited strings m text
  same_room m e clean = λ pre low number. ap (λ n. from (pre ++ awaited) strings n number text) e ∙ clean pre low number

  pub same_awaited : (a : List Awaited) → a ≡ awaited → Clean k awaited strings room text → Clean k a strings room text
  same_awaited a e clean = λ pre low number. ap (λ b. from (pre ++ b) strings room number text) e ∙ clean pre low number

  pub same_strings : (ss : List (List ℕ)) → ss ≡ strings → Clean k awaited strings room text → Clean k awaited ss room text
  same_strings ss e clean = λ pre low number. ap (λ us. from (pre ++ awaited) us room number text) e ∙ clean pre low number

end_line : (p : Place) → may_end p.awaited ≡ true → break_from p ([] ∷ []) ≡ None
unfolding break_from
end_line p is = cond-true _ _ _ (and_from _ _ is refl)

pub end_clean : (k : ℕ) (strings : List (List ℕ)) (room : ℕ) → Clean k [] strings room []
end_clean k strings room = λ pre low number. end_line _ (low_end k pre low)

module _ (k : ℕ) (awaited : List Awaited) (strings : List (List ℕ)) (word : List ℕ) (bytes rest : ℕ) (inside : List Awaited) (r : List ℕ) (high : k ≤ word_rank word) (stands : may_stand awaited word ≡ true) where
  pub line_clean : (added : List (List ℕ)) (line : List ℕ) → without 10 line ≡ true → before_byte 32 line ≡ word
      → line_of strings word (unwrap_or (behind_byte 32 line) []) (fields_of (behind_byte 32 line)) ≡ clear bytes inside added
      → Clean 0 (inside ++ left_after awaited word) (strings ++ added) rest r → Clean k awaited strings (bytes + rest) (line ++ 10 ∷ r)
  line_clean added line is first form next = λ pre low number.
      line_passed (pre ++ awaited) strings word bytes rest inside added line r number is first (skip_stand k word pre awaited high low ∙ stands) form
      ∙ ap (λ a. from (inside ++ a) (strings ++ added) rest (suc number) r) (skip_left k word pre awaited high low)
      ∙ next [] refl (suc number)

  pub fields_clean : (fs : List (List ℕ)) → is_token word ≡ true → AreTokens fs → ((text : List ℕ) → line_of strings word text fs ≡ clear bytes inside [])
      → Clean 0 (inside ++ left_after awaited word) strings rest r → Clean k awaited strings (bytes + rest) (word ++ row fs r)
  fields_clean fs token each form next = λ pre low number.
      let line = word ++ flat fs in
      let text = unwrap_or (behind_byte 32 line) [] in
      ap (λ t. from (pre ++ awaited) strings (bytes + rest) number t) (ap (λ t. word ++ t) (row_flat fs r) ∙ sym (append_assoc word (flat fs) (10 ∷ r)))
      ∙ line_clean [] line (without_both 10 word (flat fs) (no_end word token) (flat_end fs each)) (word_before word fs token)
      (ap (line_of strings word text) (fields_behind word fs token each) ∙ form text)
      (λ before under n. ap (λ ss. from (before ++ (inside ++ left_after awaited word)) ss rest n r) (append-nil strings) ∙ next before under n) pre low number

-- ---- parts one after another

-- no further line of these words comes
pub no_more : (k : ℕ) (words : List (List ℕ)) (n : ℕ) (awaited : List Awaited) (strings : List (List ℕ)) (room : ℕ) (text : List ℕ) → are_low (suc k) words ≡ true → Clean (suc k) awaited strings room text
    → Clean k (Many words n ∷ awaited) strings room text
no_more k words n awaited strings room text low_words next = λ pre low number.
    ap (λ a. from a strings room number text) (sym (append_assoc pre (Many words n ∷ []) awaited))
    ∙ next (pre ++ Many words n ∷ []) (pre_added (suc k) pre words n (pre_more k (suc k) pre (omega arith) low) low_words) number

module _ {X : Type 0} (Holds : X → Type 0) (text bytes : X → List ℕ) (strings : List (List ℕ)) (k : ℕ) (words : List (List ℕ)) (low_words : are_low (suc k) words ≡ true) (awaited : List Awaited) where
  abbrev pub OneClean : Type 0
  OneClean = (x : X) (n rest : ℕ) (r : List ℕ) → Holds x → n < 65535 → Clean k (Many words (suc n) ∷ awaited) strings rest r → Clean k (Many words n ∷ awaited) strings (length (bytes x) + rest) (text x ++ r)

  pub each_clean : OneClean → (xs : List X) (n rest : ℕ) (r : List ℕ) → AllByRecursion Holds xs → n + length xs ≤ 65535 → Clean (suc k) awaited strings rest r
      → Clean k (Many words n ∷ awaited) strings (length (flat_map bytes xs) + rest) (flat_map text xs ++ r)
  each_clean one [] n rest r each few next =
      same_room k (Many words n ∷ awaited) strings rest r (0 + rest) (sym (none_more rest)) (no_more k words n awaited strings rest r low_words next)
  each_clean one (x ∷ xs) n rest r each few next = λ pre low number.
      let room : length (bytes x ++ flat_map bytes xs) + rest ≡ length (bytes x) + (length (flat_map bytes xs) + rest) = omega (arith, length-append (bytes x) (flat_map bytes xs)) in
      ap (λ m. from (pre ++ (Many words n ∷ awaited)) strings m number ((text x ++ flat_map text xs) ++ r)) room
      ∙ ap (λ t. from (pre ++ (Many words n ∷ awaited)) strings (length (bytes x) + (length (flat_map bytes xs) + rest)) number t) (append_assoc (text x) (flat_map text xs) r)
      ∙ one x n (length (flat_map bytes xs) + rest) (flat_map text xs ++ r) each.0 (omega (arith, few)) (each_clean one xs (suc n) rest r each.1 (omega (arith, few)) next) pre low number
