-- Arrays of the store in the terms of the definitions.
use Rattle.std.proofs.Common.{◌≡◌, ℕ, zero, suc, ◌+◌, Bool, true, false, not, cond, List, [], ◌∷◌, length, drop, Option, Some, None, Result, Ok, Err, refl, sym, ap, ◌∙◌, arith}
use Rattle.std.specs.Prelude.{slice_index_or, slice_set, ℤ, pos, int_lt, nat_lt, position}
use Rattle.std.specs.Int.RustNames.{unsigned_abs}
use Rattle.std.specs.List.{position_from}
use Rattle.std.specs.Option.{option_map}
use Rattle.std.proofs.lemmas.Iterator.Adapters.{position_from-zero}
use Rattle.core_tree.specs.declared.value.Value.{Value}
use Rattle.core_tree.specs.declared.value.Value.TheVariants as values
use Rattle.core_tree.specs.Values.{place_number}
use Rattle.papy_base.specs.declared.faults.StackFault.{StackFault}
use Rattle.papy_base.specs.declared.faults.StackFault.TheVariants.{IndexRange}
use Rattle.instance_store.specs.Arrays as stored
use Rattle.instance_store.specs.Arrays.{ArrayState as Stored, array_at, arrays_with, end_behind, first_equal, first_place, item_or_fault, last_equal, place_in, read, write_answer}
use Rattle.instance_store.specs.Values.{equals}
use Rattle.script_meaning.specs.Arrays as meant
use Rattle.script_meaning.specs.Arrays.{element_of, first_from, is_index, items_of, last_below, last_end, with_element, with_items, write_fault}
use Rattle.script_meaning.specs.Values.{equal}
use Rattle.script_meaning.specs.Values as meaning
use Rattle.body_runner.specs.Sights.{arrays_of}
use Rattle.body_runner.proofs.Meaning.{later}

-- ---- equality
bool_same : (a b : Bool) → cond a b (not b) ≡ meaning.same_truth a b
bool_same true b = refl
bool_same false b = refl

pub equal_same : (a b : Value) → equals a b ≡ equal a b
equal_same values.NoneValue values.NoneValue = refl
equal_same values.NoneValue (values.Int n) = refl
equal_same values.NoneValue (values.Bool b) = refl
equal_same values.NoneValue (values.Text t) = refl
equal_same values.NoneValue (values.Instance n) = refl
equal_same values.NoneValue (values.Array n) = refl
equal_same (values.Int m) values.NoneValue = refl
equal_same (values.Int m) (values.Int n) = refl
equal_same (values.Int m) (values.Bool b) = refl
equal_same (values.Int m) (values.Text t) = refl
equal_same (values.Int m) (values.Instance n) = refl
equal_same (values.Int m) (values.Array n) = refl
equal_same (values.Bool a) values.NoneValue = refl
equal_same (values.Bool a) (values.Int n) = refl
equal_same (values.Bool a) (values.Bool b) = bool_same a b
equal_same (values.Bool a) (values.Text t) = refl
equal_same (values.Bool a) (values.Instance n) = refl
equal_same (values.Bool a) (values.Array n) = refl
equal_same (values.Text s) values.NoneValue = refl
equal_same (values.Text s) (values.Int n) = refl
equal_same (values.Text s) (values.Bool b) = refl
equal_same (values.Text s) (values.Text t) = refl
equal_same (values.Text s) (values.Instance n) = refl
equal_same (values.Text s) (values.Array n) = refl
equal_same (values.Instance m) values.NoneValue = refl
equal_same (values.Instance m) (values.Int n) = refl
equal_same (values.Instance m) (values.Bool b) = refl
equal_same (values.Instance m) (values.Text t) = refl
equal_same (values.Instance m) (values.Instance n) = refl
equal_same (values.Instance m) (values.Array n) = refl
equal_same (values.Array m) values.NoneValue = refl
equal_same (values.Array m) (values.Int n) = refl
equal_same (values.Array m) (values.Bool b) = refl
equal_same (values.Array m) (values.Text t) = refl
equal_same (values.Array m) (values.Instance n) = refl
equal_same (values.Array m) (values.Array n) = refl

-- ---- elements
pub same_items : (arrays : List Stored) (n : ℕ) → items_of (arrays_of arrays) n ≡ (array_at arrays n).items
same_items [] n = refl
same_items (first ∷ rest) zero = refl
same_items (first ∷ rest) (suc n) = same_items rest n

abbrev pub as_read : Value → Result Value StackFault → meaning.Result
as_read otherwise (Ok value) = (value, None)
as_read otherwise (Err fault) = (otherwise, Some fault)

element_by : (below within : Bool) (items : List Value) (at : ℕ) (otherwise : Value) → as_read otherwise (item_or_fault items (cond below None (cond within (Some at) None))) ≡ cond (cond below false within) (slice_index_or items at values.NoneValue, None) (otherwise, Some IndexRange)
element_by true within items at otherwise = refl
element_by false true items at otherwise = refl
element_by false false items at otherwise = refl

pub element_same : (arrays : List Stored) (o : Option ℕ) (index : ℤ) (otherwise : Value) → as_read otherwise (read arrays o index) ≡ element_of (arrays_of arrays) o index otherwise
element_same arrays None index otherwise = refl
element_same arrays (Some n) index otherwise =
    element_by (int_lt index (pos 0)) (nat_lt (unsigned_abs index) (length (array_at arrays n).items)) (array_at arrays n).items (unsigned_abs index) otherwise ∙ ap (λ items. cond (is_index items index) (slice_index_or items (unsigned_abs index) values.NoneValue, None) (otherwise, Some IndexRange)) (sym (same_items arrays n))

abbrev pub as_number : Result ℤ StackFault → meaning.Result
as_number (Ok n) = (values.Int n, None)
as_number (Err fault) = (values.Int (pos 0), Some fault)

pub length_same : (arrays : List Stored) (o : Option ℕ) → as_number (stored.length_of arrays o) ≡ meant.length_of (arrays_of arrays) o
length_same arrays None = refl
length_same arrays (Some n) = ap (λ items. (values.Int (pos (length items)), None)) (sym (same_items arrays n))

-- ---- searches
next_moved : (start : ℕ) (o : Option ℕ) → option_map (λ place. suc start + place) o ≡ meant.next (option_map (λ place. start + place) o)
next_moved start None = refl
next_moved start (Some n) = let e : suc start + n ≡ suc (start + n) = omega arith in ap (λ k. Some k) e

abbrev here : Value → Value → Bool
here v item = equals item v

plain : (o : Option ℕ) → option_map (λ place. 0 + place) o ≡ o
plain None = refl
plain (Some n) = let e : 0 + n ≡ n = omega arith in ap (λ k. Some k) e

found_by : (same there : Bool) (o p : Option ℕ) → same ≡ there → o ≡ option_map (λ n. suc n) p → cond same (Some 0) o ≡ cond there (Some 0) (meant.next p)
found_by same there o None e f = ap (λ b. cond b (Some 0) o) e ∙ ap (λ x. cond there (Some 0) x) f
found_by same there o (Some n) e f = ap (λ b. cond b (Some 0) o) e ∙ ap (λ x. cond there (Some 0) x) f

from_zero : (v : Value) (items : List Value) → position_from (here v) 0 items ≡ first_from items v 0
from_zero v [] = refl
from_zero v (x ∷ xs) =
    found_by (equals x v) (equal x v) (position_from (here v) 1 xs) (first_from xs v 0) (equal_same x v) (later (here v) 0 1 xs refl ∙ ap (option_map (λ n. suc n)) (from_zero v xs))

pub first_same : (items : List Value) (v : Value) (start : ℕ) → first_equal items v start ≡ first_from items v start
first_same items v zero =
    plain (position (here v) items) ∙ (position_from-zero (here v) items ∙ from_zero v items)
first_same [] v (suc start) = refl
first_same (x ∷ xs) v (suc start) =
    next_moved start (position (here v) (drop start xs)) ∙ ap meant.next (first_same xs v start)

below_by : (same there : Bool) (place : ℕ) (o p : Option ℕ) → same ≡ there → o ≡ p → cond same (Some place) o ≡ cond there (Some place) p
below_by same there place o p e f = ap (λ b. cond b (Some place) o) e ∙ ap (λ x. cond there (Some place) x) f

pub last_same : (items : List Value) (v : Value) (n : ℕ) → last_equal items v n ≡ last_below items v n
last_same items v zero = refl
last_same items v (suc n) =
    below_by (equals (slice_index_or items n values.NoneValue) v) (equal (slice_index_or items n values.NoneValue) v) n (last_equal items v n) (last_below items v n) (equal_same (slice_index_or items n values.NoneValue) v) (last_same items v n)

end_by : (below within : Bool) (count at : ℕ) → end_behind count (cond below None (cond within (Some at) None)) ≡ cond (cond below false within) (at + 1) count
end_by true within count at = refl
end_by false true count at = refl
end_by false false count at = refl

pub found_same : (arrays : List Stored) (o : Option ℕ) (v : Value) (start : ℤ) → as_number (stored.found arrays o v start false) ≡ meant.found (arrays_of arrays) o v start
found_same arrays None v start = refl
found_same arrays (Some n) v start =
    ap (λ p. (values.Int (place_number p), None)) (first_same (array_at arrays n).items v (first_place start)) ∙ ap (λ items. (values.Int (place_number (first_from items v (first_place start))), None)) (sym (same_items arrays n))

pub found_back_same : (arrays : List Stored) (o : Option ℕ) (v : Value) (start : ℤ) → as_number (stored.found arrays o v start true) ≡ meant.found_back (arrays_of arrays) o v start
found_back_same arrays None v start = refl
found_back_same arrays (Some n) v start =
    let items = (array_at arrays n).items in
    ap (λ p. (values.Int (place_number p), None)) (last_same items v (end_behind (length items) (place_in (length items) start)) ∙ ap (last_below items v) (end_by (int_lt start (pos 0)) (nat_lt (unsigned_abs start) (length items)) (length items) (unsigned_abs start))) ∙ ap (λ xs. (values.Int (place_number (last_below xs v (last_end xs start))), None)) (sym (same_items arrays n))

-- ---- writes
abbrev pub fault_of : Result Unit StackFault → Option StackFault
fault_of (Ok nothing) = None
fault_of (Err fault) = Some fault

fault_by : (below within : Bool) (at : ℕ) → fault_of (stored.place_or_fault (cond below None (cond within (Some at) None))) ≡ cond (cond below false within) None (Some IndexRange)
fault_by true within at = refl
fault_by false true at = refl
fault_by false false at = refl

pub write_same : (arrays : List Stored) (o : Option ℕ) (index : ℤ) → fault_of (write_answer arrays o index) ≡ write_fault (arrays_of arrays) o index
write_same arrays None index = refl
write_same arrays (Some n) index =
    fault_by (int_lt index (pos 0)) (nat_lt (unsigned_abs index) (length (array_at arrays n).items)) (unsigned_abs index) ∙ ap (λ items. cond (is_index items index) None (Some IndexRange)) (sym (same_items arrays n))

-- the arrays as they are seen, with other items in one
seen_with : (arrays : List Stored) (n : ℕ) (items : List Value) → arrays_of (slice_set arrays n (record (array_at arrays n) { items = items })) ≡ with_items (arrays_of arrays) n items
seen_with [] n items = refl
seen_with (first ∷ rest) zero items = refl
seen_with (first ∷ rest) (suc n) items = ap (λ xs. record { kind = first.kind; items = first.items } ∷ xs) (seen_with rest n items)

same_set : (arrays : List Stored) (n : ℕ) → arrays_of (slice_set arrays n (record (array_at arrays n) { items = (array_at arrays n).items })) ≡ arrays_of arrays
same_set [] n = refl
same_set (first ∷ rest) zero = refl
same_set (first ∷ rest) (suc n) = ap (λ xs. record { kind = first.kind; items = first.items } ∷ xs) (same_set rest n)

set_by : (below within : Bool) (arrays : List Stored) (n at : ℕ) (v : Value) → arrays_of (slice_set arrays n (record (array_at arrays n) { items = stored.items_with (array_at arrays n).items (cond below None (cond within (Some at) None)) v })) ≡ cond (cond below false within) (with_items (arrays_of arrays) n (slice_set (array_at arrays n).items at v)) (arrays_of arrays)
set_by true within arrays n at v = same_set arrays n
set_by false true arrays n at v = seen_with arrays n (slice_set (array_at arrays n).items at v)
set_by false false arrays n at v = same_set arrays n

pub with_same : (arrays : List Stored) (o : Option ℕ) (index : ℤ) (v : Value) → arrays_of (arrays_with arrays o index v) ≡ with_element (arrays_of arrays) o index v
with_same arrays None index v = refl
with_same arrays (Some n) index v =
    set_by (int_lt index (pos 0)) (nat_lt (unsigned_abs index) (length (array_at arrays n).items)) arrays n (unsigned_abs index) v ∙ ap (λ items. cond (is_index items index) (with_items (arrays_of arrays) n (slice_set items (unsigned_abs index) v)) (arrays_of arrays)) (sym (same_items arrays n))
