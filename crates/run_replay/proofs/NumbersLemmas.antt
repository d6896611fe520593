-- Numbers, each behind a blank.
use Rattle.std.proofs.Common.{◌≡◌, ◌≢◌, ℕ, ◌<◌, ◌^◌, List, [], ◌∷◌, ◌++◌, refl, sym, ap, ◌∙◌, append-nil, length, nat_eq, false, arith}
use Rattle.std.proofs.lemmas.Bool.{eqb-false}
use Rattle.std.specs.Fmt.{decimal}
use Rattle.std.proofs.lemmas.Fmt.{decimal_injective}
use Rattle.run_replay.specs.declared.reader.Numbers.{Numbers}
use Rattle.run_replay.specs.declared.reader.Numbers.TheVariants as numbers
use Rattle.run_replay.specs.Lines.{Ends, spelled, AreSmall}
use Rattle.run_replay.proofs.SplitLemmas.{one_split, number_lacks}

-- no number stands in front
abbrev pub NoNumber : List ℕ → Type 0
NoNumber bytes = (n : ℕ) (after : List ℕ) → n < 2 ^ 32 → Ends 32 after → bytes ≢ 32 ∷ decimal n ++ after

alone : (n : ℕ) → 32 ∷ decimal n ≡ 32 ∷ decimal n ++ []
alone n = ap (λ (ds : List ℕ). 32 ∷ ds) (sym (append-nil (decimal n)))

-- a number in front, and what stands behind it
pub record Front (bytes behind : List ℕ) (n : ℕ) : Type 0 where
  pub is : bytes ≡ 32 ∷ decimal n ++ behind
  pub small : n < 2 ^ 32
  pub ends : Ends 32 behind

pub front : (bytes behind : List ℕ) (n : ℕ) → (bytes ≡ 32 ∷ decimal n ++ behind) × (n < 2 ^ 32) × Ends 32 behind → Front bytes behind n
front bytes behind n facts = record { is = facts.0; small = facts.1; ends = facts.2 }

pub nonempty : (bytes : List ℕ) → nat_eq (length bytes) 0 ≡ false → bytes ≡ [] → ⊥
nonempty bytes test none = eqb-false (length bytes) 0 test (ap length none)

-- a number in front is one alone
pub same_front : (bytes behind after : List ℕ) (m n : ℕ) → Front bytes behind m → n < 2 ^ 32 → Ends 32 after → bytes ≡ 32 ∷ decimal n ++ after → (decimal m ≡ decimal n) × (behind ≡ after)
same_front bytes behind after m n front small ends is =
    let both : 32 ∷ decimal m ++ behind ≡ 32 ∷ decimal n ++ after = sym front.is ∙ is in
    let inner : decimal m ++ behind ≡ decimal n ++ after = cc in
    one_split 32 (decimal m) (decimal n) behind after (number_lacks 32 m refl front.small) (number_lacks 32 n refl small) front.ends ends inner

pub none_in_front : (bytes : List ℕ) → (bytes ≡ [] → ⊥) → NoNumber bytes → (ns : Numbers) → AreSmall ns → bytes ≢ spelled ns
none_in_front bytes some none numbers.Nothing small is = some is
none_in_front bytes some none (numbers.One n) small is = none n [] small tt (is ∙ alone n)
none_in_front bytes some none (numbers.Two a b) small is = none a (32 ∷ decimal b) small.0 refl is

pub none_behind : (bytes behind : List ℕ) (m : ℕ) → Front bytes behind m → (behind ≡ [] → ⊥) → NoNumber behind → (ns : Numbers) → AreSmall ns → bytes ≢ spelled ns
none_behind bytes behind m front some none numbers.Nothing small is = let e : 32 ∷ decimal m ++ behind ≡ [] = sym front.is ∙ is in absurd (cc)
none_behind bytes behind m front some none (numbers.One n) small is = some (same_front bytes behind [] m n front small tt (is ∙ alone n)).1
none_behind bytes behind m front some none (numbers.Two a b) small is = none b [] small.1 tt ((same_front bytes behind (32 ∷ decimal b) m a front small.0 refl is).1 ∙ alone b)

pub too_many : (bytes behind rest : List ℕ) (m n : ℕ) → Front bytes behind m → Front behind rest n → (rest ≡ [] → ⊥) → (ns : Numbers) → AreSmall ns → bytes ≢ spelled ns
too_many bytes behind rest m n first second some numbers.Nothing small is = let e : 32 ∷ decimal m ++ behind ≡ [] = sym first.is ∙ is in absurd (cc)
too_many bytes behind rest m n first second some (numbers.One k) small is =
    let e : 32 ∷ decimal n ++ rest ≡ [] = sym second.is ∙ (same_front bytes behind [] m k first small tt (is ∙ alone k)).1 in
    absurd (cc)
too_many bytes behind rest m n first second some (numbers.Two a b) small is =
    some (same_front behind rest [] n b second small.1 tt ((same_front bytes behind (32 ∷ decimal b) m a first small.0 refl is).1 ∙ alone b)).1

pub one_is : (bytes behind : List ℕ) (n : ℕ) → Front bytes behind n → behind ≡ [] → (bytes ≡ spelled (numbers.One n)) × (n < 2 ^ 32)
one_is bytes behind n front none = (front.is ∙ ap (λ (t : List ℕ). 32 ∷ decimal n ++ t) none ∙ sym (alone n), front.small)

pub two_are : (bytes behind rest : List ℕ) (m n : ℕ) → Front bytes behind m → Front behind rest n → rest ≡ [] → (bytes ≡ spelled (numbers.Two m n)) × ((m < 2 ^ 32) × (n < 2 ^ 32))
two_are bytes behind rest m n first second none =
    (first.is ∙ ap (λ (t : List ℕ). 32 ∷ decimal m ++ t) (one_is behind rest n second none).0, (first.small, second.small))

-- what is spelled alike is the same
pub same_numbers : (ms ns : Numbers) → AreSmall ms → AreSmall ns → spelled ms ≡ spelled ns → ms ≡ ns
same_numbers numbers.Nothing numbers.Nothing sm sn e = refl
same_numbers numbers.Nothing (numbers.One n) sm sn e = absurd (cc)
same_numbers numbers.Nothing (numbers.Two a b) sm sn e = absurd (cc)
same_numbers (numbers.One m) numbers.Nothing sm sn e = absurd (cc)
same_numbers (numbers.Two c d) numbers.Nothing sm sn e = absurd (cc)
same_numbers (numbers.One m) (numbers.One n) sm sn e =
    let digits : decimal m ≡ decimal n = cc in
    ap (λ (k : ℕ). numbers.One k) (decimal_injective m n (omega arith) (omega arith) digits)
same_numbers (numbers.One m) (numbers.Two a b) sm sn e =
    let front : Front (32 ∷ decimal m) [] m = record { is = alone m; small = sm; ends = tt } in
    let none : [] ≡ 32 ∷ decimal b = (same_front (32 ∷ decimal m) [] (32 ∷ decimal b) m a front sn.0 refl e).1 in
    absurd (cc)
same_numbers (numbers.Two c d) (numbers.One n) sm sn e =
    let front : Front (32 ∷ decimal n) [] n = record { is = alone n; small = sn; ends = tt } in
    let none : [] ≡ 32 ∷ decimal d = (same_front (32 ∷ decimal n) [] (32 ∷ decimal d) n c front sm.0 refl (sym e)).1 in
    absurd (cc)
same_numbers (numbers.Two c d) (numbers.Two a b) sm sn e =
    let front : Front (spelled (numbers.Two c d)) (32 ∷ decimal d) c = record { is = refl; small = sm.0; ends = refl } in
    let parts = same_front (spelled (numbers.Two c d)) (32 ∷ decimal d) (32 ∷ decimal b) c a front sn.0 refl e in
    let tails : decimal d ≡ decimal b = let t : 32 ∷ decimal d ≡ 32 ∷ decimal b = parts.1 in cc in
    let firsts : c ≡ a = decimal_injective c a (omega arith) (omega arith) parts.0 in
    let seconds : d ≡ b = decimal_injective d b (omega arith) (omega arith) tails in
    cc
