-- The opcode that a word names.
use Rattle.std.proofs.Common.{◌≡◌, ℕ, ◌<◌, ◌≤◌, true, false, List, [], get_or, Some, None, refl, sym, ap, ◌∙◌, arith}
use Rattle.std.specs.List.{position_or_len}
use Rattle.std.specs.Prelude.{nat_lt, cond}
use Rattle.std.specs.Str.{bytes_eq}
use Rattle.std.proofs.lemmas.Bool.{cond-true, lt-ltb}
use Rattle.std.proofs.lemmas.List.Sums.{position_or_len_is}
use Rattle.pex_listing.specs.Listing.{opcode_name, opcode_names}
use Rattle.pex_listing.specs.Parted.{opcode_in}

name_is : (k : ℕ) → opcode_name k ≡ get_or opcode_names k []
unfolding opcode_name
name_is k = refl

pub first_opcode : (word : List ℕ) (code : ℕ) → code < 36 → ((k : ℕ) → k < code → bytes_eq word (opcode_name k) ≡ false) → bytes_eq word (opcode_name code) ≡ true → opcode_in word ≡ Some code
first_opcode word code few before here =
    let at : position_or_len (bytes_eq word) opcode_names ≡ code = position_or_len_is (bytes_eq word) opcode_names code [] (omega arith) (λ k below. ap (bytes_eq word) (sym (name_is k)) ∙ before k below) (λ _. ap (bytes_eq word) (sym (name_is code)) ∙ here) in
    ap (λ n. cond (nat_lt n 36) (Some n) None) at ∙ cond-true _ _ _ (lt-ltb code 36 few)

pub other_word : (word : List ℕ) (n : ℕ) → 36 ≤ n → ((k : ℕ) → k < n → bytes_eq word (opcode_name k) ≡ false) → opcode_in word ≡ None
other_word word n all none =
    let at : position_or_len (bytes_eq word) opcode_names ≡ 36 = position_or_len_is (bytes_eq word) opcode_names 36 [] (omega arith) (λ k below. ap (bytes_eq word) (sym (name_is k)) ∙ none k (omega arith)) (λ below. absurd (omega arith)) in
    ap (λ m. cond (nat_lt m 36) (Some m) None) at
