-- What a decoder that has read all tasks of a file has found.
use Rattle.std.proofs.Common.{◌≡◌, ℕ, zero, suc, ◌-◌, ◌<◌, ◌≤◌, List, [], ◌++◌, length, get_or, take, refl, sym, ap, subst, ◌∙◌, arith}
use Rattle.std.specs.Prelude.{min}
use Rattle.std.proofs.lemmas.List.{append-nil, take_min, length-take-le}
use Rattle.std.proofs.Math.Seq.{take-length}
use Rattle.pex_values.specs.Fit.{limit}
use Rattle.pex_values.specs.Plain.{PlainPex}
use Rattle.pex_codec.specs.Laws.{SpellsFirst}
use Rattle.pex_codec.specs.Reading.{Got, read_as, pex_at}
use Rattle.pex_codec.specs.Spells.{Spells}
use Rattle.pex_codec.proofs.Exact.{read_got, bytes_below}
use Rattle.pex_codec.proofs.ExactReading.{got_reading, spells_first}

-- bytes that aren't too many are all read
pub take_all : (bytes : List ℕ) → length bytes ≤ limit → take limit bytes ≡ bytes
take_all bytes short =
    let m : min limit (length bytes) ≡ length bytes = omega (arith, short) in
    sym (take_min limit bytes) ∙ (ap (λ (n : ℕ). take n bytes) m ∙ take-length bytes)

take_none : (n : ℕ) → take {A = ℕ} n [] ≡ []
take_none zero = refl
take_none (suc n) = refl

-- all of the bytes are the value that was found, and nothing follows
pub found_whole : (v : PlainPex) (bytes : List ℕ) → Spells v bytes → pex_at 0 bytes ≡ Got v (length bytes) []
found_whole v bytes s =
    let short : length bytes ≤ limit = subst (λ (b : List ℕ). length b ≤ limit) (sym s.spelled) s.fits.size in
    let all : take limit (bytes ++ []) ≡ bytes = ap (λ (b : List ℕ). take limit b) (append-nil bytes) ∙ take_all bytes short in
    sym (ap (pex_at 0) all) ∙ (got_reading v bytes [] s ∙ ap (λ (r : List ℕ). Got v (length bytes) r) (take_none (limit - length bytes)))

-- a value ends behind the first k bytes
pub record Found (k : ℕ) (bytes : List ℕ) : Type 0 where
  pub value : PlainPex
  pub first : SpellsFirst value k bytes
  pub read : pex_at 0 (take k bytes) ≡ Got value k []

pub found_value : (v : PlainPex) (bytes : List ℕ) (k : ℕ) (rest : List ℕ) → ((i : ℕ) → get_or bytes i 0 < 256) → length bytes ≤ limit → pex_at 0 bytes ≡ Got v k rest → SpellsFirst v k bytes
found_value v bytes k rest b short e = spells_first v bytes k rest (bytes_below bytes b) (ap (pex_at 0) (take_all bytes short) ∙ e)

pub found : {B : Type 0} (view : PlainPex → B) (n : B) (bytes : List ℕ) (k : ℕ) (rest : List ℕ) → ((i : ℕ) → get_or bytes i 0 < 256) → length bytes ≤ limit → read_as view (pex_at 0 bytes) ≡ Got n k rest → Found k bytes
found view n bytes k rest b short e =
    let r = read_got view (pex_at 0 bytes) n k rest e in
    let first = found_value r.part bytes k rest b short r.first in
    record {
      value = r.part;
      first = first;
      read = found_whole r.part (take k bytes) first.spelled ∙ ap (λ (n : ℕ). Got r.part n []) (length-take-le k bytes first.within);
    }
