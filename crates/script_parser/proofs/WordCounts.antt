-- Byte lists that go into a set one after another.
use Rattle.std.proofs.Common.{◌≡◌, ℕ, Some, Bool, true, false, ◌||◌, cond, List, [], ◌∷◌, ◌++◌, length, map, refl, sym, ap, ◌∙◌}
use Rattle.std.specs.List.{IsDistinct, list_any, slice_get}
use Rattle.std.specs.Borrow.{Bor}
use Rattle.std.specs.Str.{bytes_eq}
use Rattle.std.proofs.lemmas.Cmp.{nat_list_eq_equiv}
use Rattle.std.proofs.lemmas.List.{map-append}
use Rattle.std.proofs.lemmas.List.Folds.{list_any-append, list_any_at}
use Rattle.std.proofs.lemmas.Option.{slice_get_within, get_or_from_slice_get}
use Rattle.std.proofs.lemmas.Map.Keys.{IsDistinct-push}
use Rattle.std.proofs.lemmas.Map.Steps.{list_any_congr}
use Rattle.indexmap.specs.IndexSet.{insert_key, insert_all}
use Rattle.script_parser.specs.Words.{CountsDifferent}

-- a set of borrowed lists, shown as the lists
abbrev shown : List (Bor (List ℕ)) → List (List ℕ)
shown ks = map (λ k. k.now) ks

abbrev borrowed_same : Bor (List ℕ) → Bor (List ℕ) → Bool
borrowed_same a b = bytes_eq a.now b.now

list_any-shown : (word : List ℕ) (ks : List (Bor (List ℕ))) → list_any (λ k. bytes_eq word k.now) ks ≡ list_any (bytes_eq word) (shown ks)
list_any-shown word [] = refl
list_any-shown word (k ∷ ks) = ap (λ t. bytes_eq word k.now || t) (list_any-shown word ks)

map_cond : (b : Bool) (xs ys : List (Bor (List ℕ))) → shown (cond b xs ys) ≡ cond b (shown xs) (shown ys)
map_cond true xs ys = refl
map_cond false xs ys = refl

pub shown-insert_key : (ks : List (Bor (List ℕ))) (k : Bor (List ℕ)) → shown (insert_key borrowed_same ks k) ≡ insert_key bytes_eq (shown ks) k.now
shown-insert_key ks k =
    map_cond (list_any (borrowed_same k) ks) ks (ks ++ k ∷ [])
    ∙ ap (λ t. cond (list_any (borrowed_same k) ks) (shown ks) t) (map-append (λ b. b.now) ks (k ∷ []))
    ∙ ap (λ b. cond b (shown ks) (shown ks ++ k.now ∷ [])) (list_any-shown k.now ks)

distinct_cases : (b : Bool) (ks : List (List ℕ)) (k : List ℕ) → list_any (bytes_eq k) ks ≡ b → IsDistinct bytes_eq ks → IsDistinct bytes_eq (cond b ks (ks ++ k ∷ []))
distinct_cases true ks k found distinct = distinct
distinct_cases false ks k found distinct = IsDistinct-push nat_list_eq_equiv ks k distinct found

IsDistinct-insert_all : (ks xs : List (List ℕ)) → IsDistinct bytes_eq ks → IsDistinct bytes_eq (insert_all bytes_eq ks xs)
IsDistinct-insert_all ks [] distinct = distinct
IsDistinct-insert_all ks (x ∷ xs) distinct =
    IsDistinct-insert_all (insert_key bytes_eq ks x) xs (distinct_cases (list_any (bytes_eq x) ks) ks x refl distinct)

IsDistinct-none : IsDistinct bytes_eq []
unfolding IsDistinct
IsDistinct-none = tt

or_false : (b : Bool) → (b || false) ≡ b
or_false true = refl
or_false false = refl

or_assoc : (a b c : Bool) → ((a || b) || c) ≡ (a || (b || c))
or_assoc true b c = refl
or_assoc false b c = refl

-- an equal list that is there already adds no member
or_found : (c : Bool) (word k : List ℕ) (ks : List (List ℕ)) → list_any (bytes_eq k) ks ≡ true → bytes_eq word k ≡ c → list_any (bytes_eq word) ks ≡ (list_any (bytes_eq word) ks || c)
or_found false word k ks found same = sym (or_false (list_any (bytes_eq word) ks))
or_found true word k ks found same =
    let there : list_any (bytes_eq word) ks ≡ true = list_any_congr nat_list_eq_equiv word k ks same ∙ found in
    there ∙ sym (ap (λ b. b || true) there)

member_cases : (b : Bool) (word k : List ℕ) (ks : List (List ℕ)) → list_any (bytes_eq k) ks ≡ b → list_any (bytes_eq word) (cond b ks (ks ++ k ∷ [])) ≡ (list_any (bytes_eq word) ks || bytes_eq word k)
member_cases true word k ks found = or_found (bytes_eq word k) word k ks found refl
member_cases false word k ks found =
    list_any-append (bytes_eq word) ks (k ∷ [])
    ∙ ap (λ t. list_any (bytes_eq word) ks || t) (or_false (bytes_eq word k))

members : (word : List ℕ) (ks xs : List (List ℕ)) → list_any (bytes_eq word) (insert_all bytes_eq ks xs) ≡ (list_any (bytes_eq word) ks || list_any (bytes_eq word) xs)
members word ks [] = sym (or_false (list_any (bytes_eq word) ks))
members word ks (x ∷ xs) =
    members word (insert_key bytes_eq ks x) xs
    ∙ ap (λ t. t || list_any (bytes_eq word) xs) (member_cases (list_any (bytes_eq x) ks) word x ks refl)
    ∙ or_assoc (list_any (bytes_eq word) ks) (bytes_eq word x) (list_any (bytes_eq word) xs)

pub bytes_eq-equal : (a b : List ℕ) → a ≡ b → bytes_eq a b ≡ true
bytes_eq-equal a b e = ap (λ (t : List ℕ). bytes_eq a t) (sym e) ∙ nat_list_eq_equiv.refl a

-- a byte list equal to one of a set is in it
pub list_any-index : (word : List ℕ) (ks : List (Bor (List ℕ))) (i : ℕ) (k : Bor (List ℕ)) → slice_get ks i ≡ Some k → bytes_eq word k.now ≡ true → list_any (bytes_eq word) (shown ks) ≡ true
list_any-index word ks i k at same =
    sym (list_any-shown word ks)
    ∙ list_any_at (λ b. bytes_eq word b.now) ks i k (slice_get_within ks i k at) (ap (λ (b : Bor (List ℕ)). bytes_eq word b.now) (get_or_from_slice_get ks i k k at) ∙ same)

-- what a set holds, into which all of the words went
pub CountsDifferent-insert_all : (words all : List (List ℕ)) (n : ℕ) → all ≡ insert_all bytes_eq [] words → n ≡ length all → CountsDifferent words n
CountsDifferent-insert_all words all n is count = record {
  all = insert_all bytes_eq [] words;
  differ = IsDistinct-insert_all [] words IsDistinct-none;
  members = λ word. members word [] words;
  count = count ∙ ap length is;
}
