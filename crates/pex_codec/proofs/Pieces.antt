-- What a decoder answers is told by all the bytes that it got, however they were cut.
use Rattle.std.proofs.Common.{◌≡◌, ℕ, zero, suc, ◌+◌, ◌-◌, ◌<◌, ◌≤◌, List, [], ◌∷◌, ◌++◌, length, take, drop, true, false, refl, sym, ap, subst, ◌∙◌, append_assoc, length-append, arith}
use Rattle.std.specs.Prelude.{Result, Ok, Err, ◌≢◌, nat_lt, if◌then◌else◌, OnOk}
use Rattle.std.proofs.lemmas.Bool.Decides.{nat_tests}
use Rattle.std.proofs.lemmas.List.{append-nil, length-take-le, take-append-le, take-append-drop}
use Rattle.std.proofs.Math.Seq.{take-append-add, take-length}
use Rattle.pex_values.specs.declared.values.Pex.{Pex}
use Rattle.pex_values.specs.Fit.{limit}
use Rattle.pex_values.specs.Plain.{PlainPex, plain}
use Rattle.pex_codec.specs.declared.faults.PexFault.{PexFault}
use Rattle.pex_codec.specs.declared.faults.PexFault.TheVariants.{Broken, OutOfMemory}
use Rattle.pex_codec.specs.declared.faults.PexRule.{PexRule}
use Rattle.pex_codec.specs.declared.faults.PexRule.TheVariants.{Truncated, Trailing, TooLarge}
use Rattle.pex_codec.specs.declared.decoder.Fed.{Fed}
use Rattle.pex_codec.specs.declared.decoder.Fed.TheVariants.{More, Done}
use Rattle.pex_codec.specs.declared.decoder.Standing.{Standing}
use Rattle.pex_codec.specs.declared.decoder.Standing.TheVariants as standing
use Rattle.pex_codec.specs.Decoding.{reading, Breaks, Progress, IsNew, Ends, GoesOn, ReadGives, EndedGives, FeedFrom, FeedGives, MakesValue, EndFrom, EndGives}
use Rattle.pex_codec.specs.Laws.{counted_on, SameOutcome, EndsBehind, GivesBack}
use Rattle.pex_codec.specs.Reading.{Reading, Got, Short, Refused, pex_at}
use Rattle.pex_codec.specs.Spells.{Spells}
use Rattle.pex_codec.proofs.ExactReading.{got_reading, first_part}
use Rattle.pex_codec.proofs.Stable.{Extends, pex_stable}

-- ---- where other bytes follow

-- the first bytes of more
cut_more : (n : ℕ) (xs ys : List ℕ) → (x : List ℕ) × (take n (xs ++ ys) ≡ take n xs ++ x)
cut_more zero xs ys = ([], refl)
cut_more (suc n) [] ys = (take (suc n) ys, refl)
cut_more (suc n) (x ∷ xs) ys =
    let m = cut_more n xs ys in
    (m.0, ap (λ (l : List ℕ). x ∷ l) m.1)

refused_stays : (bytes more : List ℕ) (offset : ℕ) (rule : PexRule) → reading bytes ≡ Refused offset rule → reading (bytes ++ more) ≡ Refused offset rule
refused_stays bytes more offset rule e =
    let m = cut_more limit bytes more in
    ap (pex_at 0) m.1 ∙ subst (λ r. Extends r (pex_at 0 (take limit bytes ++ m.0)) m.0) e (pex_stable 0 (take limit bytes) m.0)

short_stays : (bytes more : List ℕ) → limit < length bytes → reading bytes ≡ Short → reading (bytes ++ more) ≡ Short
short_stays bytes more long e = ap (pex_at 0) (take-append-le limit bytes more (omega (arith, long))) ∙ e

breaks_still : (rule : PexRule) (bytes more : List ℕ) (offset : ℕ) → Breaks bytes offset rule → rule ≢ Truncated → rule ≢ Trailing → Breaks (bytes ++ more) offset rule
breaks_still Trailing bytes more offset b t u = absurd (u refl)
breaks_still Truncated bytes more offset b t u = absurd (t refl)
breaks_still TooLarge bytes more offset b t u = (short_stays bytes more b.1 b.0, omega (arith, b.1, length-append bytes more), b.2)
breaks_still rule bytes more offset b t u = refused_stays bytes more offset rule b

-- ---- the answer that bytes ask for

-- what a piece is answered where all the bytes so far are read as this: so many stood before the piece, and so many there are
abbrev outcome : Reading PlainPex → ℕ → ℕ → Result Fed PexFault
outcome (Got v end rest) before count = Ok (Done (end - before))
outcome (Refused offset rule) before count = Err (Broken offset rule)
outcome Short before count = if nat_lt limit count then Err (Broken limit TooLarge) else Ok More

asked : Progress → List ℕ → Result Fed PexFault
asked old piece = outcome (reading (old.taken ++ piece)) (length old.taken) (length (old.taken ++ piece))

broken_asked : (rule : PexRule) (bytes : List ℕ) (before offset : ℕ) → Breaks bytes offset rule → rule ≢ Truncated → rule ≢ Trailing → Err (Broken offset rule) ≡ outcome (reading bytes) before (length bytes)
broken_asked Trailing bytes before offset b t u = absurd (u refl)
broken_asked Truncated bytes before offset b t u = absurd (t refl)
broken_asked TooLarge bytes before offset b t u =
    let long : nat_lt limit (length bytes) ≡ true = let l = b.1 in grind (arith, nat_tests) in
    rw (b.0, long, b.2) refl
broken_asked rule bytes before offset b t u = rw b refl

more_asked : (old new : Progress) (piece : List ℕ) → GoesOn old piece new → Ok More ≡ asked old piece
unfolding asked
more_asked old new piece g =
    let unfinished : reading (old.taken ++ piece) ≡ Short = subst (λ (b : List ℕ). reading b ≡ Short) g.taken g.unfinished in
    let fits : length (old.taken ++ piece) ≤ limit = subst (λ (b : List ℕ). length b ≤ limit) g.taken g.fits in
    let within : nat_lt limit (length (old.taken ++ piece)) ≡ false = grind (arith, nat_tests) in
    rw (unfinished, within) refl

done_asked : (old new : Progress) (piece : List ℕ) (n : ℕ) → Ends old piece n new → Ok (Done n) ≡ asked old piece
unfolding asked
done_asked old new piece n e =
    let v = e.spelled.0 in
    let rest = drop n piece in
    let all : new.taken ++ rest ≡ old.taken ++ piece =
    ap (λ (b : List ℕ). b ++ rest) e.taken ∙ (append_assoc old.taken (take n piece) rest ∙ ap (λ (b : List ℕ). old.taken ++ b) (take-append-drop n piece)) in
    let got : reading (old.taken ++ piece) ≡ Got v (length new.taken) (take (limit - length new.taken) rest) = ap reading (sym all) ∙ got_reading v new.taken rest e.spelled.1 in
    let long : length new.taken ≡ length old.taken + n = ap (λ (b : List ℕ). length b) e.taken ∙ (length-append old.taken (take n piece) ∙ ap (λ (k : ℕ). length old.taken + k) (length-take-le n piece e.within)) in
    let count : n ≡ length new.taken - length old.taken = omega (arith, long) in
    rw got (ap (λ (k : ℕ). Ok (Done k)) count)

is_asked : (r : Result Fed PexFault) (old new : Progress) (piece : List ℕ) → ReadGives old piece r new → r ≢ Err OutOfMemory → r ≡ asked old piece
unfolding asked
is_asked (Ok More) old new piece g memory = more_asked old new piece g
is_asked (Ok (Done n)) old new piece g memory = done_asked old new piece n g
is_asked (Err (Broken offset rule)) old new piece g memory = broken_asked rule (old.taken ++ piece) (length old.taken) offset g.0 g.1 g.2
is_asked (Err OutOfMemory) old new piece g memory = absurd (memory refl)

abbrev standing_of : Result Fed PexFault → Standing
standing_of (Ok More) = standing.Reading
standing_of (Ok (Done n)) = standing.Complete
standing_of (Err fault) = standing.Refused fault

read_standing : (r : Result Fed PexFault) (old new : Progress) (piece : List ℕ) → ReadGives old piece r new → new.standing ≡ standing_of r
read_standing (Ok More) old new piece g = g.standing
read_standing (Ok (Done n)) old new piece g = g.standing
read_standing (Err (Broken offset rule)) old new piece g = g.3
read_standing (Err OutOfMemory) old new piece g = g

read_taken : (r : Result Fed PexFault) (old a b : Progress) (piece : List ℕ) → ReadGives old piece r a → ReadGives old piece r b → OnOk r (a.taken ≡ b.taken)
read_taken (Ok More) old a b piece g h = g.taken ∙ sym h.taken
read_taken (Ok (Done n)) old a b piece g h = g.taken ∙ sym h.taken
read_taken (Err fault) old a b piece g h = tt

same_read : (r s : Result Fed PexFault) (old a b : Progress) (piece : List ℕ) → ReadGives old piece r a → ReadGives old piece s b → r ≢ Err OutOfMemory → s ≢ Err OutOfMemory → SameOutcome r s a b
same_read r s old a b piece g h not_r not_s =
    let same : r ≡ s = is_asked r old a piece g not_r ∙ sym (is_asked s old b piece h not_s) in
    record {
      answer = same;
      standing = read_standing r old a piece g ∙ (ap standing_of same ∙ sym (read_standing s old b piece h));
      taken = read_taken r old a b piece g (subst (λ t. ReadGives old piece t b) (sym same) h);
    }

on_ok : {P : Type 0} (r : Result Fed PexFault) → P → OnOk r P
on_ok (Ok x) p = p
on_ok (Err fault) p = tt

same_ended : (piece : List ℕ) (r s : Result Fed PexFault) (old a b : Progress) → EndedGives old piece r a → EndedGives old piece s b → SameOutcome r s a b
same_ended [] r s old a b g h =
    let one = g.empty refl in
    let other = h.empty refl in
    let same : a ≡ b = one.1 ∙ sym other.1 in
    record { answer = one.0 ∙ sym other.0; standing = ap (λ (d : Progress). d.standing) same; taken = on_ok r (ap (λ (d : Progress). d.taken) same) }
same_ended (x ∷ piece) r s old a b g h =
    let one = g.trailing (omega arith) in
    let other = h.trailing (omega arith) in
    record { answer = one.0 ∙ sym other.0; standing = one.1 ∙ sym other.1; taken = subst (λ t. OnOk t (a.taken ≡ b.taken)) (sym one.0) tt }

same_from : (from : Standing) (r s : Result Fed PexFault) (old a b : Progress) (piece : List ℕ) → FeedFrom from old piece r a → FeedFrom from old piece s b → r ≢ Err OutOfMemory → s ≢ Err OutOfMemory → SameOutcome r s a b
same_from standing.Reading r s old a b piece g h not_r not_s = same_read r s old a b piece g h not_r not_s
same_from standing.Complete r s old a b piece g h not_r not_s = same_ended piece r s old a b g h
same_from (standing.Refused fault) r s old a b piece g h not_r not_s =
    let same : a ≡ b = g.1 ∙ sym h.1 in
    record { answer = g.0 ∙ sym h.0; standing = ap (λ (d : Progress). d.standing) same; taken = on_ok r (ap (λ (d : Progress). d.taken) same) }

-- one state and one piece have one answer, want of memory aside
pub one_answer : (r s : Result Fed PexFault) (old a b : Progress) (piece : List ℕ) → FeedGives old piece r a → FeedGives old piece s b → r ≢ Err OutOfMemory → s ≢ Err OutOfMemory → SameOutcome r s a b
one_answer r s old a b piece g h not_r not_s = same_from old.standing r s old a b piece g h not_r not_s

-- ---- a second piece

more_from : (s : Standing) (piece : List ℕ) (old mid : Progress) → FeedFrom s old piece (Ok More) mid → (s ≡ standing.Reading) × GoesOn old piece mid
more_from standing.Reading piece old mid g = (refl, g)
more_from standing.Complete [] old mid g = let e = (g.empty refl).0 in absurd cc
more_from standing.Complete (x ∷ piece) old mid g = let e = (g.trailing (omega arith)).0 in absurd cc
more_from (standing.Refused fault) piece old mid g = let e = g.0 in absurd cc

read_on : (r : Result Fed PexFault) (old mid new : Progress) (p q : List ℕ) → GoesOn old p mid → ReadGives mid q r new → ReadGives old (p ++ q) (counted_on (length p) r) new
read_on (Ok More) old mid new p q first g = record {
  taken = g.taken ∙ (ap (λ (b : List ℕ). b ++ q) first.taken ∙ append_assoc old.taken p q);
  unfinished = g.unfinished;
  fits = g.fits;
  standing = g.standing;
}
read_on (Ok (Done n)) old mid new p q first g = record {
  within = omega (arith, g.within, length-append p q);
  taken = g.taken ∙ (ap (λ (b : List ℕ). b ++ take n q) first.taken ∙ (append_assoc old.taken p (take n q) ∙ ap (λ (b : List ℕ). old.taken ++ b) (sym (take-append-add p q n))));
  spelled = g.spelled;
  standing = g.standing;
}
read_on (Err (Broken offset rule)) old mid new p q first g =
    let all : mid.taken ++ q ≡ old.taken ++ (p ++ q) = ap (λ (b : List ℕ). b ++ q) first.taken ∙ append_assoc old.taken p q in
    (subst (λ (b : List ℕ). Breaks b offset rule) all g.0, g.1, g.2, g.3)
read_on (Err OutOfMemory) old mid new p q first g = g

pub goes_on : (r : Result Fed PexFault) (old mid new : Progress) (p q : List ℕ) → FeedGives old p (Ok More) mid → FeedGives mid q r new → FeedGives old (p ++ q) (counted_on (length p) r) new
goes_on r old mid new p q first second =
    let m = more_from old.standing p old mid first in
    let g : ReadGives mid q r new = subst (λ s. FeedFrom s mid q r new) m.1.standing second in
    subst (λ s. FeedFrom s old (p ++ q) (counted_on (length p) r) new) (sym m.0) (read_on r old mid new p q m.1 g)

pub stays_done : (old mid : Progress) (p q : List ℕ) (n : ℕ) → old.standing ≡ standing.Reading → FeedGives old p (Ok (Done n)) mid → FeedGives old (p ++ q) (Ok (Done n)) mid
stays_done old mid p q n is first =
    let g : Ends old p n mid = subst (λ s. FeedFrom s old p (Ok (Done n)) mid) is first in
    let longer : Ends old (p ++ q) n mid = record {
      within = omega (arith, g.within, length-append p q);
      taken = g.taken ∙ ap (λ (b : List ℕ). old.taken ++ b) (sym (take-append-le n p q g.within));
      spelled = g.spelled;
      standing = g.standing;
    } in
    subst (λ s. FeedFrom s old (p ++ q) (Ok (Done n)) mid) (sym is) longer

read_refused : (fault : PexFault) (old mid : Progress) (p q : List ℕ) → ReadGives old p (Err fault) mid → ReadGives old (p ++ q) (Err fault) mid
read_refused (Broken offset rule) old mid p q g =
    (subst (λ (b : List ℕ). Breaks b offset rule) (append_assoc old.taken p q) (breaks_still rule (old.taken ++ p) q offset g.0 g.1 g.2), g.1, g.2, g.3)
read_refused OutOfMemory old mid p q g = g

ended_refused : (fault : PexFault) (old mid : Progress) (p q : List ℕ) → EndedGives old p (Err fault) mid → EndedGives old (p ++ q) (Err fault) mid
ended_refused fault old mid [] q g = let e = (g.empty refl).0 in absurd cc
ended_refused fault old mid (x ∷ p) q g = record { empty = λ none. absurd (omega (arith, none)); trailing = λ some. g.trailing (omega arith) }

refused_from : (from : Standing) (fault : PexFault) (old mid : Progress) (p q : List ℕ) → FeedFrom from old p (Err fault) mid → FeedFrom from old (p ++ q) (Err fault) mid
refused_from standing.Reading fault old mid p q g = read_refused fault old mid p q g
refused_from standing.Complete fault old mid p q g = ended_refused fault old mid p q g
refused_from (standing.Refused earlier) fault old mid p q g = g

pub stays_refused : (fault : PexFault) (old mid : Progress) (p q : List ℕ) → FeedGives old p (Err fault) mid → FeedGives old (p ++ q) (Err fault) mid
stays_refused fault old mid p q g = refused_from old.standing fault old mid p q g

-- ---- what was encoded

broken_memory : (offset : ℕ) (rule : PexRule) (r : Result Fed PexFault) → r ≡ Err (Broken offset rule) → r ≢ Err OutOfMemory
broken_memory offset rule r is e = absurd cc

done_at : (v : PlainPex) (bytes : List ℕ) (d : Progress) → Spells v bytes → d.taken ≡ [] → asked d bytes ≡ Ok (Done (length bytes))
unfolding asked
done_at v bytes d s none =
    let all : d.taken ++ bytes ≡ bytes ++ [] = ap (λ (b : List ℕ). b ++ bytes) none ∙ sym (append-nil bytes) in
    let got : reading (d.taken ++ bytes) ≡ Got v (length bytes) (take (limit - length bytes) []) = ap reading all ∙ got_reading v bytes [] s in
    let count : length bytes - length d.taken ≡ length bytes = omega (arith, ap (λ (b : List ℕ). length b) none) in
    rw got (ap (λ (k : ℕ). Ok (Done k)) count)

all_taken : (r : Result Fed PexFault) (v : PlainPex) (bytes : List ℕ) (d new : Progress) → Spells v bytes → d.taken ≡ [] → ReadGives d bytes r new → EndsBehind (length bytes) r
all_taken (Err OutOfMemory) v bytes d new s none g = refl
all_taken (Ok More) v bytes d new s none g = let e = more_asked d new bytes g ∙ done_at v bytes d s none in absurd cc
all_taken (Ok (Done n)) v bytes d new s none g = let e = done_asked d new bytes n g ∙ done_at v bytes d s none in cc
all_taken (Err (Broken offset rule)) v bytes d new s none g = let e = is_asked (Err (Broken offset rule)) d new bytes g (broken_memory offset rule (Err (Broken offset rule)) refl) ∙ done_at v bytes d s none in absurd cc

pub encoded_fed : (r : Result Fed PexFault) (v : PlainPex) (bytes : List ℕ) (d new : Progress) → Spells v bytes → IsNew d → FeedGives d bytes r new → EndsBehind (length bytes) r
encoded_fed r v bytes d new s is_new g = all_taken r v bytes d new s is_new.taken (subst (λ t. FeedFrom t d bytes r new) is_new.standing g)

made : (result : Result Pex PexFault) (v : PlainPex) (bytes : List ℕ) → Spells v bytes → MakesValue bytes result → GivesBack v result
made (Ok w) v bytes s m = (first_part (plain w) v bytes [] m (subst (λ (b : List ℕ). Spells v b) (sym (append-nil bytes)) s)).value
made (Err OutOfMemory) v bytes s m = refl
made (Err (Broken offset rule)) v bytes s m = absurd m

pub encoded_ended : (result : Result Pex PexFault) (v : PlainPex) (bytes : List ℕ) (n : ℕ) (d new : Progress) → Spells v bytes → IsNew d → FeedGives d bytes (Ok (Done n)) new → EndGives new result → GivesBack v result
encoded_ended result v bytes n d new s is_new g e =
    let ends : Ends d bytes n new = subst (λ t. FeedFrom t d bytes (Ok (Done n)) new) is_new.standing g in
    let count = encoded_fed (Ok (Done n)) v bytes d new s is_new g in
    let whole : take n bytes ≡ bytes =
    ap (λ (k : ℕ). take k bytes) count ∙ take-length bytes in
    let taken : new.taken ≡ bytes = ends.taken ∙ (ap (λ (b : List ℕ). b ++ take n bytes) is_new.taken ∙ whole) in
    let m : MakesValue new.taken result = subst (λ t. EndFrom t new.taken result) ends.standing e in
    made result v bytes s (subst (λ (b : List ℕ). MakesValue b result) taken m)
