-- Numbers at the front of bytes.
use Rattle.std.specs.Prelude.{Some}
use Rattle.std.proofs.Common.{◌≡◌, ℕ, ◌<◌, ◌^◌, List, ◌++◌, length, get_or, sym, ap, ◌∙◌, arith}
use Rattle.std.specs.Int.{bytes_high_first}
use Rattle.std.proofs.lemmas.Nat.{be_bytes_2, be_bytes_4, be_bytes_8}
use Rattle.byteorder.specs.Endian.{big_from}
use Rattle.stack_save.specs.Parts.{HasTaken}
use Rattle.stack_save.specs.Reading.{Found, found_as, bytes_at, number_at}

pub number_2 : (bytes : List ℕ) (n : ℕ) → length bytes ≡ 2 → ((k : ℕ) → get_or bytes k 0 < 256) → n ≡ big_from 0 2 bytes → bytes ≡ bytes_high_first 2 n
number_2 bytes n len small is = sym (be_bytes_2 bytes n len small (omega (arith, is)))

pub number_4 : (bytes : List ℕ) (n : ℕ) → length bytes ≡ 4 → ((k : ℕ) → get_or bytes k 0 < 256) → n ≡ big_from 0 4 bytes → bytes ≡ bytes_high_first 4 n
number_4 bytes n len small is = sym (be_bytes_4 bytes n len small (omega (arith, is)))

pub number_8 : (bytes : List ℕ) (n : ℕ) → length bytes ≡ 8 → ((k : ℕ) → get_or bytes k 0 < 256) → n ≡ big_from 0 8 bytes → bytes ≡ bytes_high_first 8 n
number_8 bytes n len small is = sym (be_bytes_8 bytes n len small (omega (arith, is)))

-- a number is taken as its bytes are
pub number_taken : (k : ℕ) (taken old new : List ℕ) (n : ℕ) → HasTaken (λ b. length b ≡ k) (λ b. b) (bytes_at k old) taken old new
    → taken ≡ bytes_high_first k n → n ≡ big_from 0 k taken → n < 256 ^ k → HasTaken (λ m. m < 256 ^ k) (bytes_high_first k) (number_at k old) n old new
unfolding number_at
number_taken k taken old new n t spelled is small = record {
  may = small;
  found = ap (λ (f : Found (List ℕ)). found_as (λ b. big_from 0 k b) f) t.found ∙ ap (λ (m : ℕ). Some (m, new)) (sym is);
  bytes = t.bytes ∙ ap (λ (b : List ℕ). b ++ new) spelled;
}
