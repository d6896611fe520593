-- Parts of a file and the bytes that spell them: what was spelled is read, and what is read was spelled.
use Rattle.std.proofs.Common.{◌≡◌, ℕ, zero, suc, ◌+◌, ◌<◌, ◌≤◌, ◌^◌, List, [], ◌∷◌, ◌++◌, length, take, drop, get_or, Bool, true, false, Option, Some, None, refl, sym, ap, subst, ◌∙◌, append_assoc, length-append, arith}
use Rattle.std.specs.Prelude.{IfSome, is_some, nat_le, if◌then◌else◌}
use Rattle.std.specs.Int.{bytes_high_first}
use Rattle.std.specs.List.{flat_map, AllByRecursion}
use Rattle.std.proofs.lemmas.Bool.{le-leb}
use Rattle.std.proofs.lemmas.Bool.Decides.{nat_tests}
use Rattle.std.proofs.lemmas.List.{append-nil, take-append-drop, length-take-le}
use Rattle.std.proofs.lemmas.Nat.{be_bytes_2, be_bytes_4, be_bytes_8}
use Rattle.std.proofs.Math.Seq.{take-append_seam, drop-append_seam}
use Rattle.byteorder.specs.Endian.{big_from}
use Rattle.byteorder.specs.Numbers.{big_number-reads_back, length-bytes_high_first, big_from-lt}
use Rattle.pex_values.specs.Fit.{IsCounted}
use Rattle.pex_values.specs.Spelling.{one_byte, two_bytes, four_bytes, eight_bytes, string, list, optional}
use Rattle.pex_codec.specs.declared.faults.PexRule.{PexRule}
use Rattle.pex_codec.specs.Laws.{AreBytes}
use Rattle.pex_codec.specs.Reading.{Reading, Reader, Got, Short, Refused, then_read, read_as, judged, byte_at, bytes_at, number_at, string_at, items_at, list_at, optional_at}
use Rattle.pex_codec.specs.Writing.{FitEach}

-- ---- what stands where

-- the bytes of a part stand from an offset to another one, in front of the rest
pub record Spans (at : ℕ) (bytes part : List ℕ) (end : ℕ) (rest : List ℕ) : Type 0 where
  pub spelled : bytes ≡ part ++ rest
  pub ended : end ≡ at + length part

-- a part with P stands there
pub record Stands {A : Type 0} (P : A → Type 0) (f : A → List ℕ) (x : A) (at : ℕ) (bytes : List ℕ) (end : ℕ) (rest : List ℕ) : Type 0 where
  pub may : P x
  pub spans : Spans at bytes (f x) end rest
  pub others : AreBytes rest

-- what was spelled is read, whatever is behind it, and what is read was spelled
pub record IsExact {A : Type 0} (P : A → Type 0) (f : A → List ℕ) (reader : Reader A) : Type 0 where
  pub complete : (x : A) (at : ℕ) (rest : List ℕ) → P x → reader at (f x ++ rest) ≡ Got x (at + length (f x)) rest
  pub sound : (x : A) (at : ℕ) (bytes : List ℕ) (end : ℕ) (rest : List ℕ) → AreBytes bytes → reader at bytes ≡ Got x end rest → Stands P f x at bytes end rest

pub joined : {at mid end : ℕ} {bytes behind rest x y : List ℕ} → Spans at bytes x mid behind → Spans mid behind y end rest → Spans at bytes (x ++ y) end rest
joined {at} {mid} {end} {bytes} {behind} {rest} {x} {y} a b = record {
  spelled = a.spelled ∙ (ap (λ (s : List ℕ). x ++ s) b.spelled ∙ sym (append_assoc x y rest));
  ended = omega (arith, a.ended, b.ended, length-append x y);
}

pub spelled_as : {at end : ℕ} {bytes rest x y : List ℕ} → x ≡ y → Spans at bytes x end rest → Spans at bytes y end rest
spelled_as {at} {end} {bytes} {rest} e s = subst (λ z. Spans at bytes z end rest) e s

pub front_bytes : (x y : List ℕ) → AreBytes (x ++ y) → AreBytes x
front_bytes [] y h = tt
front_bytes (b ∷ x) y h = (h.0, front_bytes x y h.1)

back_bytes : (x y : List ℕ) → AreBytes (x ++ y) → AreBytes y
back_bytes [] y h = h
back_bytes (b ∷ x) y h = back_bytes x y h.1

pub byte_below : (bytes : List ℕ) → AreBytes bytes → (k : ℕ) → get_or bytes k 0 < 256
byte_below [] h k = omega arith
byte_below (b ∷ bytes) h zero = h.0
byte_below (b ∷ bytes) h (suc k) = byte_below bytes h.1 k

-- what a slice of bytes holds
pub bytes_below : (bytes : List ℕ) → ((k : ℕ) → get_or bytes k 0 < 256) → AreBytes bytes
bytes_below [] h = tt
bytes_below (b ∷ bytes) h = (h 0, bytes_below bytes (λ k. h (suc k)))

-- ---- answers

abbrev IfGot : {A : Type 0} → (A → ℕ → List ℕ → Type 0) → Reading A → Type 0
IfGot Q (Got x at rest) = Q x at rest
IfGot Q Short = ⊥
IfGot Q (Refused offset rule) = ⊥

-- what holds of one answer holds of an equal one
pub same_got : {A : Type 0} (Q : A → ℕ → List ℕ → Type 0) (x y : A) (at end : ℕ) (bytes rest : List ℕ) → Got x at bytes ≡ Got y end rest → Q x at bytes → Q y end rest
same_got Q x y at end bytes rest e q = subst (λ r. IfGot Q r) e q

pub ended_at : {A : Type 0} (x : A) (rest : List ℕ) (n m : ℕ) → n ≡ m → Got x n rest ≡ Got x m rest
ended_at x rest n m e = ap (λ (k : ℕ). Got x k rest) e

pub short_got : {A : Type 0} {Goal : Type 0} (y : A) (end : ℕ) (rest : List ℕ) → Short ≡ Got y end rest → Goal
short_got y end rest e = absurd cc

pub refused_got : {A : Type 0} {Goal : Type 0} (offset : ℕ) (rule : PexRule) (y : A) (end : ℕ) (rest : List ℕ) → Refused offset rule ≡ Got y end rest → Goal
refused_got offset rule y end rest e = absurd cc

-- ---- one part behind another

-- a part, and what stands behind it
pub record Parted {A B : Type 0} (reading : Reading A) (next : A → Reader B) (y : B) (end : ℕ) (rest : List ℕ) : Type 0 where
  pub part : A
  pub mid : ℕ
  pub behind : List ℕ
  pub first : reading ≡ Got part mid behind
  pub later : next part mid behind ≡ Got y end rest

pub parted : {A B : Type 0} (reading : Reading A) (next : A → Reader B) (y : B) (end : ℕ) (rest : List ℕ) → then_read reading next ≡ Got y end rest → Parted reading next y end rest
parted (Got x mid behind) next y end rest e = record { part = x; mid = mid; behind = behind; first = refl; later = e }
parted Short next y end rest e = short_got y end rest e
parted (Refused offset rule) next y end rest e = refused_got offset rule y end rest e

pub record Taken {A B : Type 0} (P : A → Type 0) (f : A → List ℕ) (next : A → Reader B) (at : ℕ) (bytes : List ℕ) (y : B) (end : ℕ) (rest : List ℕ) : Type 0 where
  pub part : A
  pub mid : ℕ
  pub behind : List ℕ
  pub may : P part
  pub spans : Spans at bytes (f part) mid behind
  pub others : AreBytes behind
  pub later : next part mid behind ≡ Got y end rest

pub taken : {A B : Type 0} {P : A → Type 0} {f : A → List ℕ} {reader : Reader A} → IsExact P f reader → (next : A → Reader B) (at : ℕ) (bytes : List ℕ) (y : B) (end : ℕ) (rest : List ℕ)
    → AreBytes bytes → then_read (reader at bytes) next ≡ Got y end rest → Taken P f next at bytes y end rest
taken {reader = reader} exact next at bytes y end rest b e =
    let p = parted (reader at bytes) next y end rest e in
    let s = exact.sound p.part at bytes p.mid p.behind b p.first in
    record { part = p.part; mid = p.mid; behind = p.behind; may = s.may; spans = s.spans; others = s.others; later = p.later }

-- a part behind a view
pub record Read {A B : Type 0} (view : A → B) (reading : Reading A) (y : B) (end : ℕ) (rest : List ℕ) : Type 0 where
  pub part : A
  pub is : view part ≡ y
  pub first : reading ≡ Got part end rest

pub read_got : {A B : Type 0} (view : A → B) (reading : Reading A) (y : B) (end : ℕ) (rest : List ℕ) → read_as view reading ≡ Got y end rest → Read view reading y end rest
read_got view (Got x mid behind) y end rest e =
    same_got (λ z i r. Read view (Got x mid behind) z i r) (view x) y mid end behind rest e (record { part = x; is = refl; first = refl })
read_got view Short y end rest e = short_got y end rest e
read_got view (Refused offset rule) y end rest e = refused_got offset rule y end rest e

-- the last part of some
pub record Viewed {A B : Type 0} (P : A → Type 0) (f : A → List ℕ) (view : A → B) (at : ℕ) (bytes : List ℕ) (y : B) (end : ℕ) (rest : List ℕ) : Type 0 where
  pub part : A
  pub is : view part ≡ y
  pub may : P part
  pub spans : Spans at bytes (f part) end rest
  pub others : AreBytes rest

pub viewed : {A B : Type 0} {P : A → Type 0} {f : A → List ℕ} {reader : Reader A} → IsExact P f reader → (view : A → B) (at : ℕ) (bytes : List ℕ) (y : B) (end : ℕ) (rest : List ℕ)
    → AreBytes bytes → read_as view (reader at bytes) ≡ Got y end rest → Viewed P f view at bytes y end rest
viewed {reader = reader} exact view at bytes y end rest b e =
    let r = read_got view (reader at bytes) y end rest e in
    let s = exact.sound r.part at bytes end rest b r.first in
    record { part = r.part; is = r.is; may = s.may; spans = s.spans; others = s.others }

pub follow : {A B : Type 0} {P : A → Type 0} {f : A → List ℕ} {reader : Reader A} (next : A → Reader B) → IsExact P f reader → (x : A) (at : ℕ) (rest : List ℕ) → P x
    → then_read (reader at (f x ++ rest)) next ≡ next x (at + length (f x)) rest
follow next exact x at rest p = ap (λ r. then_read r next) (exact.complete x at rest p)

pub ending : {A B : Type 0} {P : A → Type 0} {f : A → List ℕ} {reader : Reader A} (view : A → B) → IsExact P f reader → (x : A) (at : ℕ) (rest : List ℕ) → P x
    → read_as view (reader at (f x ++ rest)) ≡ Got (view x) (at + length (f x)) rest
ending view exact x at rest p = ap (λ r. read_as view r) (exact.complete x at rest p)

-- ---- the same reader for another property

pub exact_as : {A : Type 0} {P : A → Type 0} {f : A → List ℕ} {reader : Reader A} (Q : A → Type 0) → ((x : A) → P x → Q x) → ((x : A) → Q x → P x) → IsExact P f reader → IsExact Q f reader
exact_as Q there back exact = record {
  complete = λ x at rest q. exact.complete x at rest (back x q);
  sound = λ x at bytes end rest b e. let s = exact.sound x at bytes end rest b e in record { may = there x s.may; spans = s.spans; others = s.others };
}

-- ---- a part that passes a test

judge_got : {A : Type 0} (t : Bool) (rule : PexRule) (offset : ℕ) (x y : A) (at end : ℕ) (bytes rest : List ℕ)
    → (if t then Got x at bytes else Refused offset rule) ≡ Got y end rest → (t ≡ true) × (Got x at bytes ≡ Got y end rest)
judge_got true rule offset x y at end bytes rest e = (refl, e)
judge_got false rule offset x y at end bytes rest e = refused_got offset rule y end rest e

judged_got : {A : Type 0} (test : A → Bool) (rule : PexRule) (offset : ℕ) (reading : Reading A) (y : A) (end : ℕ) (rest : List ℕ)
    → judged test rule offset reading ≡ Got y end rest → (test y ≡ true) × (reading ≡ Got y end rest)
judged_got test rule offset (Got x at bytes) y end rest e =
    let j = judge_got (test x) rule offset x y at end bytes rest e in
    (same_got (λ z i r. test z ≡ true) x y at end bytes rest j.1 j.0, j.1)
judged_got test rule offset Short y end rest e = short_got y end rest e
judged_got test rule offset (Refused earlier broken) y end rest e = refused_got earlier broken y end rest e

pub judged_exact : {A : Type 0} {P : A → Type 0} {f : A → List ℕ} {reader : Reader A} (test : A → Bool) (rule : PexRule) (offset : ℕ → ℕ) → IsExact P f reader
    → IsExact (λ x. P x × (test x ≡ true)) f (λ at bytes. judged test rule (offset at) (reader at bytes))
judged_exact {reader = reader} test rule offset exact = record {
  complete = λ x at rest p. ap (λ r. judged test rule (offset at) r) (exact.complete x at rest p.0) ∙ rw p.1 refl;
  sound = λ x at bytes end rest b e.
      let j = judged_got test rule (offset at) (reader at bytes) x end rest e in
      let s = exact.sound x at bytes end rest b j.1 in
      record { may = (s.may, j.0); spans = s.spans; others = s.others };
}

-- ---- parts in a row

pub row2 : {A : Type 0} (reader : Reader A) (at : ℕ) (a b s : List ℕ) (x : A)
    → reader at (a ++ (b ++ s)) ≡ Got x (at + length a + length b) s → reader at ((a ++ b) ++ s) ≡ Got x (at + length (a ++ b)) s
row2 reader at a b s x e =
    let end : at + length a + length b ≡ at + length (a ++ b) = omega (arith, length-append a b) in
    ap (reader at) (append_assoc a b s) ∙ (e ∙ ap (λ n. Got x n s) end)

pub row3 : {A : Type 0} (reader : Reader A) (at : ℕ) (a b c s : List ℕ) (x : A)
    → reader at (a ++ (b ++ (c ++ s))) ≡ Got x (at + length a + length b + length c) s → reader at (((a ++ b) ++ c) ++ s) ≡ Got x (at + length ((a ++ b) ++ c)) s
row3 reader at a b c s x e =
    let end : at + length a + length b + length c ≡ at + length ((a ++ b) ++ c) = omega (arith, length-append a b, length-append (a ++ b) c) in
    let flat : ((a ++ b) ++ c) ++ s ≡ a ++ (b ++ (c ++ s)) = simp append_assoc in
    ap (reader at) flat ∙ (e ∙ ap (λ n. Got x n s) end)

pub row4 : {A : Type 0} (reader : Reader A) (at : ℕ) (a b c d s : List ℕ) (x : A)
    → reader at (a ++ (b ++ (c ++ (d ++ s)))) ≡ Got x (at + length a + length b + length c + length d) s → reader at ((((a ++ b) ++ c) ++ d) ++ s) ≡ Got x (at + length (((a ++ b) ++ c) ++ d)) s
row4 reader at a b c d s x e =
    let end : at + length a + length b + length c + length d ≡ at + length (((a ++ b) ++ c) ++ d) = omega (arith, length-append a b, length-append (a ++ b) c, length-append ((a ++ b) ++ c) d) in
    let flat : (((a ++ b) ++ c) ++ d) ++ s ≡ a ++ (b ++ (c ++ (d ++ s))) = simp append_assoc in
    ap (reader at) flat ∙ (e ∙ ap (λ n. Got x n s) end)

pub row5 : {A : Type 0} (reader : Reader A) (at : ℕ) (a b c d f s : List ℕ) (x : A)
    → reader at (a ++ (b ++ (c ++ (d ++ (f ++ s))))) ≡ Got x (at + length a + length b + length c + length d + length f) s → reader at (((((a ++ b) ++ c) ++ d) ++ f) ++ s) ≡ Got x (at + length ((((a ++ b) ++ c) ++ d) ++ f)) s
row5 reader at a b c d f s x e =
    let end : at + length a + length b + length c + length d + length f ≡ at + length ((((a ++ b) ++ c) ++ d) ++ f) = omega (arith, length-append a b, length-append (a ++ b) c, length-append ((a ++ b) ++ c) d, length-append (((a ++ b) ++ c) ++ d) f) in
    let flat : ((((a ++ b) ++ c) ++ d) ++ f) ++ s ≡ a ++ (b ++ (c ++ (d ++ (f ++ s)))) = simp append_assoc in
    ap (reader at) flat ∙ (e ∙ ap (λ n. Got x n s) end)

-- ---- bytes and numbers

byte_sound : (x at : ℕ) (bytes : List ℕ) (end : ℕ) (rest : List ℕ) → AreBytes bytes → byte_at at bytes ≡ Got x end rest → Stands (λ n. n < 256) one_byte x at bytes end rest
byte_sound x at [] end rest b e = short_got x end rest e
byte_sound x at (n ∷ bytes) end rest b e =
    same_got (λ z i r. Stands (λ n. n < 256) one_byte z at (n ∷ bytes) i r) n x (suc at) end bytes rest e (record { may = b.0; spans = record { spelled = refl; ended = omega arith }; others = b.1 })

pub byte_exact : IsExact (λ n. n < 256) one_byte byte_at
byte_exact = record { complete = λ x at rest p. ended_at x rest (suc at) (at + 1) (omega arith); sound = byte_sound }

bytes_complete : (count : ℕ) (x : List ℕ) (at : ℕ) (rest : List ℕ) → length x ≡ count → bytes_at count at (x ++ rest) ≡ Got x (at + length x) rest
unfolding bytes_at
bytes_complete count x at rest p =
    let within : nat_le (length x) (length (x ++ rest)) ≡ true = le-leb (length x) (length (x ++ rest)) (omega (arith, length-append x rest)) in
    subst (λ (n : ℕ). bytes_at n at (x ++ rest) ≡ Got x (at + length x) rest) p (rw (within, take-append_seam x rest, drop-append_seam x rest) refl)

bytes_cut : (t : Bool) (count : ℕ) (x : List ℕ) (at : ℕ) (bytes : List ℕ) (end : ℕ) (rest : List ℕ) → AreBytes bytes → nat_le count (length bytes) ≡ t
    → (if t then Got (take count bytes) (at + count) (drop count bytes) else Short) ≡ Got x end rest → Stands (λ b. length b ≡ count) (λ b. b) x at bytes end rest
bytes_cut true count x at bytes end rest b within e =
    let enough : count ≤ length bytes = grind (arith, nat_tests) in
    let long = length-take-le count bytes enough in
    let whole : bytes ≡ take count bytes ++ drop count bytes = sym (take-append-drop count bytes) in
    same_got (λ z i r. Stands (λ b. length b ≡ count) (λ b. b) z at bytes i r) (take count bytes) x (at + count) end (drop count bytes) rest e
    (record { may = long; spans = record { spelled = whole; ended = omega (arith, long) }; others = back_bytes (take count bytes) (drop count bytes) (subst AreBytes whole b) })
bytes_cut false count x at bytes end rest b within e = short_got x end rest e

bytes_sound : (count : ℕ) (x : List ℕ) (at : ℕ) (bytes : List ℕ) (end : ℕ) (rest : List ℕ) → AreBytes bytes → bytes_at count at bytes ≡ Got x end rest → Stands (λ b. length b ≡ count) (λ b. b) x at bytes end rest
unfolding bytes_at
bytes_sound count x at bytes end rest b e = bytes_cut (nat_le count (length bytes)) count x at bytes end rest b refl e

pub bytes_exact : (count : ℕ) → IsExact (λ b. length b ≡ count) (λ b. b) (bytes_at count)
bytes_exact count = record { complete = bytes_complete count; sound = bytes_sound count }

-- the bytes of a number tell it, and it tells its bytes
abbrev IsNumeral : ℕ → Type 0
IsNumeral k = (b : List ℕ) → length b ≡ k → ((i : ℕ) → get_or b i 0 < 256) → bytes_high_first k (big_from 0 k b) ≡ b

number_complete : (k n at : ℕ) (rest : List ℕ) → n < 256 ^ k → number_at k at (bytes_high_first k n ++ rest) ≡ Got n (at + length (bytes_high_first k n)) rest
unfolding number_at
number_complete k n at rest p =
    let bytes = bytes_high_first k n in
    let back : big_from 0 k bytes ≡ n = ap (λ (b : List ℕ). big_from 0 k b) (sym (append-nil bytes)) ∙ big_number-reads_back k n [] p in
    ap (λ r. read_as (λ b. big_from 0 k b) r) (bytes_complete k bytes at rest (length-bytes_high_first k n)) ∙ ap (λ (m : ℕ). Got m (at + length bytes) rest) back

number_sound : (k : ℕ) → IsNumeral k → (n at : ℕ) (bytes : List ℕ) (end : ℕ) (rest : List ℕ) → AreBytes bytes → number_at k at bytes ≡ Got n end rest → Stands (λ n. n < 256 ^ k) (bytes_high_first k) n at bytes end rest
unfolding number_at
number_sound k numeral n at bytes end rest b e =
    let v = viewed (bytes_exact k) (λ b. big_from 0 k b) at bytes n end rest b e in
    let small = byte_below v.part (front_bytes v.part rest (subst AreBytes v.spans.spelled b)) in
    record {
      may = subst (λ (m : ℕ). m < 256 ^ k) v.is (big_from-lt 0 k v.part small);
      spans = spelled_as (sym (numeral v.part v.may small) ∙ ap (bytes_high_first k) v.is) v.spans;
      others = v.others;
    }

number_exact : (k : ℕ) → IsNumeral k → IsExact (λ n. n < 256 ^ k) (bytes_high_first k) (number_at k)
number_exact k numeral = record { complete = number_complete k; sound = number_sound k numeral }

numeral_2 : IsNumeral 2
numeral_2 b len small = be_bytes_2 b (big_from 0 2 b) len small (omega arith)

numeral_4 : IsNumeral 4
numeral_4 b len small = be_bytes_4 b (big_from 0 4 b) len small (omega arith)

numeral_8 : IsNumeral 8
numeral_8 b len small = be_bytes_8 b (big_from 0 8 b) len small (omega arith)

pub two_exact : IsExact (λ n. n < 2 ^ 16) two_bytes (number_at 2)
two_exact = number_exact 2 numeral_2

pub four_exact : IsExact (λ n. n < 2 ^ 32) four_bytes (number_at 4)
four_exact = number_exact 4 numeral_4

pub eight_exact : IsExact (λ n. n < 2 ^ 64) eight_bytes (number_at 8)
eight_exact = number_exact 8 numeral_8

-- ---- strings, lists and parts that may be missing

string_complete : (x : List ℕ) (at : ℕ) (rest : List ℕ) → IsCounted x → string_at at (string x ++ rest) ≡ Got x (at + length (string x)) rest
unfolding string_at
string_complete x at rest p =
    row2 string_at at (two_bytes (length x)) x rest x (follow bytes_at two_exact (length x) at (x ++ rest) p ∙ bytes_complete (length x) x (at + length (two_bytes (length x))) rest refl)

string_sound : (x : List ℕ) (at : ℕ) (bytes : List ℕ) (end : ℕ) (rest : List ℕ) → AreBytes bytes → string_at at bytes ≡ Got x end rest → Stands IsCounted string x at bytes end rest
unfolding string_at
string_sound x at bytes end rest b e =
    let n = taken two_exact bytes_at at bytes x end rest b e in
    let t = bytes_sound n.part x n.mid n.behind end rest n.others n.later in
    record {
      may = subst (λ (m : ℕ). m < 2 ^ 16) (sym t.may) n.may;
      spans = spelled_as (ap (λ (m : ℕ). two_bytes m ++ x) (sym t.may)) (joined n.spans t.spans);
      others = t.others;
    }

pub string_exact : IsExact IsCounted string string_at
string_exact = record { complete = string_complete; sound = string_sound }

-- so many items with P
abbrev pub AreItems : {A : Type 0} → (A → Type 0) → ℕ → List A → Type 0
AreItems P n xs = (length xs ≡ n) × AllByRecursion P xs

none_complete : {A : Type 0} (P : A → Type 0) (f : A → List ℕ) (reader : Reader A) (xs : List A) (at : ℕ) (rest : List ℕ) → AreItems P 0 xs → items_at reader 0 at (flat_map f xs ++ rest) ≡ Got xs (at + length (flat_map f xs)) rest
none_complete P f reader [] at rest p = ended_at [] rest at (at + 0) (omega arith)
none_complete P f reader (x ∷ xs) at rest p = absurd (omega (arith, p.0))

no_items : {A : Type 0} (P : A → Type 0) (f : A → List ℕ) (reader : Reader A) → IsExact (AreItems P 0) (flat_map f) (items_at reader 0)
no_items P f reader = record {
  complete = none_complete P f reader;
  sound = λ xs at bytes end rest b e. same_got (λ z i r. Stands (AreItems P 0) (flat_map f) z at bytes i r) [] xs at end bytes rest e (record { may = (refl, tt); spans = record { spelled = refl; ended = omega arith }; others = b });
}

more_complete : {A : Type 0} {P : A → Type 0} {f : A → List ℕ} {reader : Reader A} → IsExact P f reader → (n : ℕ) → IsExact (AreItems P n) (flat_map f) (items_at reader n)
    → (xs : List A) (at : ℕ) (rest : List ℕ) → AreItems P (suc n) xs → items_at reader (suc n) at (flat_map f xs ++ rest) ≡ Got xs (at + length (flat_map f xs)) rest
more_complete exact n others [] at rest p = absurd (omega (arith, p.0))
more_complete {f = f} {reader = reader} exact n others (x ∷ xs) at rest p =
    row2 (items_at reader (suc n)) at (f x) (flat_map f xs) rest (x ∷ xs)
    (follow (λ first at1 rest1. read_as (λ behind. first ∷ behind) (items_at reader n at1 rest1)) exact x at (flat_map f xs ++ rest) p.1.0
    ∙ ending (λ behind. x ∷ behind) others xs (at + length (f x)) rest (omega (arith, p.0), p.1.1))

more_sound : {A : Type 0} {P : A → Type 0} {f : A → List ℕ} {reader : Reader A} → IsExact P f reader → (n : ℕ) → IsExact (AreItems P n) (flat_map f) (items_at reader n)
    → (xs : List A) (at : ℕ) (bytes : List ℕ) (end : ℕ) (rest : List ℕ) → AreBytes bytes → items_at reader (suc n) at bytes ≡ Got xs end rest → Stands (AreItems P (suc n)) (flat_map f) xs at bytes end rest
more_sound {P = P} {f = f} {reader = reader} exact n others xs at bytes end rest b e =
    let x = taken exact (λ first at1 rest1. read_as (λ behind. first ∷ behind) (items_at reader n at1 rest1)) at bytes xs end rest b e in
    let v = viewed others (λ behind. x.part ∷ behind) x.mid x.behind xs end rest x.others x.later in
    subst (λ z. Stands (AreItems P (suc n)) (flat_map f) z at bytes end rest) v.is
    (record { may = (omega (arith, v.may.0), (x.may, v.may.1)); spans = joined x.spans v.spans; others = v.others })

pub items_exact : {A : Type 0} {P : A → Type 0} {f : A → List ℕ} {reader : Reader A} → IsExact P f reader → (n : ℕ) → IsExact (AreItems P n) (flat_map f) (items_at reader n)
items_exact {P = P} {f = f} {reader = reader} exact zero = no_items P f reader
items_exact exact (suc n) =
    let others = items_exact exact n in
    record { complete = more_complete exact n others; sound = more_sound exact n others }

list_complete : {A : Type 0} {P : A → Type 0} {f : A → List ℕ} {reader : Reader A} → IsExact P f reader → (xs : List A) (at : ℕ) (rest : List ℕ) → FitEach P xs → list_at reader at (list f xs ++ rest) ≡ Got xs (at + length (list f xs)) rest
unfolding list_at
list_complete {f = f} {reader = reader} exact xs at rest p =
    row2 (list_at reader) at (two_bytes (length xs)) (flat_map f xs) rest xs
    (follow (items_at reader) two_exact (length xs) at (flat_map f xs ++ rest) p.0
    ∙ (items_exact exact (length xs)).complete xs (at + length (two_bytes (length xs))) rest (refl, p.1))

list_sound : {A : Type 0} {P : A → Type 0} {f : A → List ℕ} {reader : Reader A} → IsExact P f reader → (xs : List A) (at : ℕ) (bytes : List ℕ) (end : ℕ) (rest : List ℕ) → AreBytes bytes
    → list_at reader at bytes ≡ Got xs end rest → Stands (FitEach P) (list f) xs at bytes end rest
unfolding list_at
list_sound {f = f} {reader = reader} exact xs at bytes end rest b e =
    let n = taken two_exact (items_at reader) at bytes xs end rest b e in
    let t = (items_exact exact n.part).sound xs n.mid n.behind end rest n.others n.later in
    record {
      may = (subst (λ (m : ℕ). m < 2 ^ 16) (sym t.may.0) n.may, t.may.1);
      spans = spelled_as (ap (λ (m : ℕ). two_bytes m ++ flat_map f xs) (sym t.may.0)) (joined n.spans t.spans);
      others = t.others;
    }

pub list_exact : {A : Type 0} {P : A → Type 0} {f : A → List ℕ} {reader : Reader A} → IsExact P f reader → IsExact (FitEach P) (list f) (list_at reader)
list_exact exact = record { complete = list_complete exact; sound = list_sound exact }

-- it is there where it is wanted
abbrev pub IsWanted : {A : Type 0} → (A → Type 0) → Bool → Option A → Type 0
IsWanted P wanted o = (is_some o ≡ wanted) × IfSome o P

optional_complete : {A : Type 0} {P : A → Type 0} {f : A → List ℕ} {reader : Reader A} → IsExact P f reader → (wanted : Bool) (x : Option A) (at : ℕ) (rest : List ℕ) → IsWanted P wanted x
    → optional_at wanted reader at (optional f x ++ rest) ≡ Got x (at + length (optional f x)) rest
optional_complete exact true None at rest p = absurd cc
optional_complete exact false None at rest p = ended_at None rest at (at + 0) (omega arith)
optional_complete exact true (Some x) at rest p = ending Some exact x at rest p.1
optional_complete exact false (Some x) at rest p = absurd cc

optional_sound : {A : Type 0} {P : A → Type 0} {f : A → List ℕ} {reader : Reader A} → IsExact P f reader → (wanted : Bool) (x : Option A) (at : ℕ) (bytes : List ℕ) (end : ℕ) (rest : List ℕ) → AreBytes bytes
    → optional_at wanted reader at bytes ≡ Got x end rest → Stands (IsWanted P wanted) (optional f) x at bytes end rest
optional_sound {P = P} {f = f} exact true x at bytes end rest b e =
    let v = viewed exact Some at bytes x end rest b e in
    subst (λ z. Stands (IsWanted P true) (optional f) z at bytes end rest) v.is (record { may = (refl, v.may); spans = v.spans; others = v.others })
optional_sound {P = P} {f = f} exact false x at bytes end rest b e =
    same_got (λ z i r. Stands (IsWanted P false) (optional f) z at bytes i r) None x at end bytes rest e (record { may = (refl, tt); spans = record { spelled = refl; ended = omega arith }; others = b })

pub optional_exact : {A : Type 0} {P : A → Type 0} {f : A → List ℕ} {reader : Reader A} → IsExact P f reader → (wanted : Bool) → IsExact (IsWanted P wanted) (optional f) (optional_at wanted reader)
optional_exact exact wanted = record { complete = optional_complete exact wanted; sound = optional_sound exact wanted }
