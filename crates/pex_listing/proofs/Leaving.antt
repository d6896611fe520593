-- What reading a field or the end of a line leaves of a listing's first break.
use Rattle.std.proofs.Common.{◌≡◌, ℕ, suc, ◌+◌, ◌-◌, ◌<◌, ◌≤◌, ◌==◌, Bool, true, false, not, cond, List, [], ◌∷◌, ◌++◌, length, take, drop, Option, Some, None, refl, sym, ap, ◌∙◌, ⊎_elim, arith}
use Rattle.std.specs.Prelude.{nat_le, nat_lt, is_some, option_map, Ok}
use Rattle.papy_base.specs.declared.faults.Fault.{Fault}
use Rattle.papy_base.specs.declared.faults.Fault.TheVariants.{Broken, OutOfMemory}
use Rattle.std.specs.List.{position_or_len}
use Rattle.std.proofs.lemmas.Bool.{false≢true, cases_Bool, cond-true, cond-false, leb-true, leb-false, le-leb, ltb-true, ltb-false, lt-ltb}
use Rattle.pex_listing.specs.Breaks.{Awaited, Break, Form, Found, Outcome, Refused, Passed, Place, a_field, a_number, bad, before_byte, behind_byte, behind_line, between, break_from, done, fields_of, first_of, judged, left_after, number_in, number_rule, a_string, string_by, string_in, unless_spelled, outcome, paid, read_line, unless_broken, worse}
use Rattle.std.specs.Str.{bytes_eq}
use Rattle.pex_listing.specs.Fields.{short_string}
use Rattle.pex_listing.specs.Lines.{quoted}
use Rattle.pex_listing.specs.Left.{OpenLine, Refuses, rule_of, reference_rule_of, behind_by, behind_field, field_in, follow, if_open, line_left, lines_left, noted, number_by, number_of, opened, place_behind, place_of}
use Rattle.pex_listing.specs.declared.faults.ListingRule.{ListingRule}
use Rattle.pex_listing.specs.declared.faults.ListingRule.TheVariants.{BadLine, NotCanonical, BadName, End}

-- ---- of two rules the worse

pub worse_none : (a : Option ListingRule) → worse a None ≡ a
worse_none None = refl
worse_none (Some BadLine) = refl
worse_none (Some BadName) = refl
worse_none (Some NotCanonical) = refl
worse_none (Some End) = refl

pub worse_bad : (a : Option ListingRule) → worse a (Some BadLine) ≡ Some BadLine
worse_bad None = refl
worse_bad (Some BadLine) = refl
worse_bad (Some BadName) = refl
worse_bad (Some NotCanonical) = refl
worse_bad (Some End) = refl

worse_behind : (a : ListingRule) (b : ListingRule) (c : Option ListingRule) → worse (Some a) (worse (Some b) c) ≡ worse (worse (Some a) (Some b)) c
worse_behind BadLine b c = refl
worse_behind BadName BadLine c = refl
worse_behind BadName BadName None = refl
worse_behind BadName BadName (Some BadLine) = refl
worse_behind BadName BadName (Some BadName) = refl
worse_behind BadName BadName (Some NotCanonical) = refl
worse_behind BadName BadName (Some End) = refl
worse_behind BadName NotCanonical None = refl
worse_behind BadName NotCanonical (Some BadLine) = refl
worse_behind BadName NotCanonical (Some BadName) = refl
worse_behind BadName NotCanonical (Some NotCanonical) = refl
worse_behind BadName NotCanonical (Some End) = refl
worse_behind BadName End None = refl
worse_behind BadName End (Some BadLine) = refl
worse_behind BadName End (Some BadName) = refl
worse_behind BadName End (Some NotCanonical) = refl
worse_behind BadName End (Some End) = refl
worse_behind NotCanonical BadLine c = refl
worse_behind NotCanonical BadName None = refl
worse_behind NotCanonical BadName (Some BadLine) = refl
worse_behind NotCanonical BadName (Some BadName) = refl
worse_behind NotCanonical BadName (Some NotCanonical) = refl
worse_behind NotCanonical BadName (Some End) = refl
worse_behind NotCanonical NotCanonical None = refl
worse_behind NotCanonical NotCanonical (Some BadLine) = refl
worse_behind NotCanonical NotCanonical (Some BadName) = refl
worse_behind NotCanonical NotCanonical (Some NotCanonical) = refl
worse_behind NotCanonical NotCanonical (Some End) = refl
worse_behind NotCanonical End None = refl
worse_behind NotCanonical End (Some BadLine) = refl
worse_behind NotCanonical End (Some BadName) = refl
worse_behind NotCanonical End (Some NotCanonical) = refl
worse_behind NotCanonical End (Some End) = refl
worse_behind End BadLine c = refl
worse_behind End BadName None = refl
worse_behind End BadName (Some BadLine) = refl
worse_behind End BadName (Some BadName) = refl
worse_behind End BadName (Some NotCanonical) = refl
worse_behind End BadName (Some End) = refl
worse_behind End NotCanonical None = refl
worse_behind End NotCanonical (Some BadLine) = refl
worse_behind End NotCanonical (Some BadName) = refl
worse_behind End NotCanonical (Some NotCanonical) = refl
worse_behind End NotCanonical (Some End) = refl
worse_behind End End None = refl
worse_behind End End (Some BadLine) = refl
worse_behind End End (Some BadName) = refl
worse_behind End End (Some NotCanonical) = refl
worse_behind End End (Some End) = refl

pub worse_worse : (a b c : Option ListingRule) → worse a (worse b c) ≡ worse (worse a b) c
worse_worse None b c = refl
worse_worse (Some a) None c = ap (λ t. worse t c) (sym (worse_none (Some a)))
worse_worse (Some a) (Some b) c = worse_behind a b c

-- ---- outcomes

cond_same : {A : Type 0} (b : Bool) (x : A) → cond b x x ≡ x
cond_same true x = refl
cond_same false x = refl

-- a line that breaks the worst rule is refused, whatever it takes
pub outcome_bad : (room : ℕ) (x : Found) → x.rule ≡ Some BadLine → outcome room x ≡ Refused BadLine
outcome_bad room x is =
    ap (λ r. cond (nat_le x.bytes room) (unless_broken r (Passed (room - x.bytes) x.inside x.added)) (Refused BadLine)) is ∙ cond_same (nat_le x.bytes room) (Refused BadLine)

pub judged_judged : (a b : Option ListingRule) (x : Found) → judged a (judged b x) ≡ judged (worse a b) x
judged_judged a b x = ap (λ r. record { bytes = x.bytes; rule = r; inside = x.inside; added = x.added }) (worse_worse a b x.rule)

pub judged_none : (a : Option ListingRule) (x : Found) → x.rule ≡ None → judged a x ≡ record { bytes = x.bytes; rule = a; inside = x.inside; added = x.added }
judged_none a x is = ap (λ r. record { bytes = x.bytes; rule = r; inside = x.inside; added = x.added }) (ap (worse a) is ∙ worse_none a)

pub judged_bad : (a : Option ListingRule) (x : Found) → x.rule ≡ Some BadLine → (judged a x).rule ≡ Some BadLine
judged_bad a x is = ap (worse a) is ∙ worse_bad a

bad_judged : (a : Option ListingRule) (x : Found) → a ≡ Some BadLine → (judged a x).rule ≡ Some BadLine
bad_judged a x is = ap (λ r. worse r x.rule) is

-- ---- what follows a line that is refused, or two lines of one outcome

first_by : (p q : Place) (awaited : List Awaited) (o : Outcome) (rest : List ℕ) → p.number ≡ q.number → p.strings ≡ q.strings → follow p awaited o rest ≡ follow q awaited o rest
first_by p q awaited (Refused rule) rest number strings = ap (λ n. Some (n, rule)) number
first_by p q awaited (Passed room inside added) rest number strings =
    ap (λ n. break_from (record { awaited = inside ++ awaited; strings = p.strings ++ added; room = room; number = suc n }) (between 10 rest)) number
    ∙ ap (λ t. break_from (record { awaited = inside ++ awaited; strings = t ++ added; room = room; number = suc q.number }) (between 10 rest)) strings

pub line_same : (strings : List (List ℕ)) (awaited : List Awaited) (v w : OpenLine) (f g : Form) → v.word ≡ w.word → v.lines ≡ w.lines → v.rest ≡ w.rest
    → outcome v.room (judged v.broken (f (fields_of v.fields))) ≡ outcome w.room (judged w.broken (g (fields_of w.fields)))
    → line_left strings awaited f v ≡ line_left strings awaited g w
unfolding line_left
line_same strings awaited v w f g word lines rest same =
    let o = outcome v.room (judged v.broken (f (fields_of v.fields))) in
    let left = follow (place_of strings awaited v) awaited o v.rest in
    ap (λ x. if_open x v.lines left) word
    ∙ ap (λ x. if_open w.word x left) lines
    ∙ ap (if_open w.word w.lines)
    (first_by (place_of strings awaited v) (place_of strings awaited w) awaited o v.rest (ap (λ x. number_by x v.lines) word ∙ ap (number_by w.word) lines) refl
    ∙ ap (λ x. follow (place_of strings awaited w) awaited x v.rest) same
    ∙ ap (follow (place_of strings awaited w) awaited (outcome w.room (judged w.broken (g (fields_of w.fields))))) rest)

-- forms that find the same in what is left of the line
pub form_same : (strings : List (List ℕ)) (awaited : List Awaited) (v : OpenLine) (f g : Form) → f (fields_of v.fields) ≡ g (fields_of v.fields) → line_left strings awaited f v ≡ line_left strings awaited g v
form_same strings awaited v f g same = line_same strings awaited v v f g refl refl refl (ap (λ x. outcome v.room (judged v.broken x)) same)

-- ---- one field

abbrev pub cut_behind : ℕ → Option (List ℕ) → List (List ℕ)
cut_behind byte None = []
cut_behind byte (Some t) = between byte t

between_step : (byte b : ℕ) (t : List ℕ) → between byte t ≡ before_byte byte t ∷ cut_behind byte (behind_byte byte t) → between byte (b ∷ t) ≡ before_byte byte (b ∷ t) ∷ cut_behind byte (behind_byte byte (b ∷ t))
between_step byte b t cut = ⊎_elim
    (λ (is : (b == byte) ≡ true). cond-true _ _ _ is ∙ sym (ap (λ c. cond c [] (b ∷ before_byte byte t) ∷ cut_behind byte (cond c (Some t) (behind_byte byte t))) is))
    (λ (is : (b == byte) ≡ false). rw (is, cut) refl)
    (cases_Bool (b == byte))

pub between_cut : (byte : ℕ) (t : List ℕ) → between byte t ≡ before_byte byte t ∷ cut_behind byte (behind_byte byte t)
between_cut byte [] = refl
between_cut byte (b ∷ t) = between_step byte b t (between_cut byte t)

pub fields_cut : (t : List ℕ) → between 32 t ≡ before_byte 32 t ∷ fields_of (behind_byte 32 t)
fields_cut t = between_cut 32 t ∙ ap (λ fs. before_byte 32 t ∷ fs) (same (behind_byte 32 t))
  where
    same : (o : Option (List ℕ)) → cut_behind 32 o ≡ fields_of o
    same None = refl
    same (Some u) = refl

-- both refused by the worst rule
both_bad : (v w : OpenLine) (f g : Form) → (judged v.broken (f (fields_of v.fields))).rule ≡ Some BadLine → (judged w.broken (g (fields_of w.fields))).rule ≡ Some BadLine
    → outcome v.room (judged v.broken (f (fields_of v.fields))) ≡ outcome w.room (judged w.broken (g (fields_of w.fields)))
both_bad v w f g p q = outcome_bad v.room _ p ∙ sym (outcome_bad w.room _ q)

module _ (strings : List (List ℕ)) (awaited : List Awaited) where
  -- a field that there is, with what is noted of it
  field_there : (test : List ℕ → Option ListingRule) (form : List ℕ → Form) (read : Form) (v : OpenLine) (t : List ℕ) → v.fields ≡ Some t
      → ((fs : List (List ℕ)) → read (before_byte 32 t ∷ fs) ≡ judged (test (before_byte 32 t)) (form (before_byte 32 t) fs))
      → outcome v.room (judged v.broken (read (fields_of v.fields))) ≡ outcome v.room (judged (worse v.broken (test (before_byte 32 t))) (form (before_byte 32 t) (fields_of (behind_byte 32 t))))
  field_there test form read v t is step =
      ap (λ fs. outcome v.room (judged v.broken (read fs))) (ap fields_of is ∙ fields_cut t)
      ∙ ap (λ x. outcome v.room (judged v.broken x)) (step (fields_of (behind_byte 32 t)))
      ∙ ap (outcome v.room) (judged_judged v.broken (test (before_byte 32 t)) (form (before_byte 32 t) (fields_of (behind_byte 32 t))))

  pub by_fields : (test : List ℕ → Option ListingRule) (form : List ℕ → Form) (read : Form) (v : OpenLine) (o : Option (List ℕ)) → v.fields ≡ o
      → ((f : List ℕ) (fs : List (List ℕ)) → read (f ∷ fs) ≡ judged (test f) (form f fs)) → read [] ≡ bad → test [] ≡ Some BadLine
      → line_left strings awaited read v ≡ line_left strings awaited (form (field_in o)) (noted (test (field_in o)) (behind_by v o))
  by_fields test form read v None is step empty worst =
      line_same strings awaited v (noted (test []) (noted (Some BadLine) v)) read (form []) refl refl refl
      (both_bad v (noted (test []) (noted (Some BadLine) v)) read (form []) (judged_bad v.broken (read (fields_of v.fields)) (ap (λ o. (read (fields_of o)).rule) is ∙ ap (λ x. x.rule) empty))
      (bad_judged (worse (worse v.broken (Some BadLine)) (test [])) (form [] (fields_of v.fields)) (ap (worse (worse v.broken (Some BadLine))) worst ∙ worse_bad _)))
  by_fields test form read v (Some t) is step empty worst =
      line_same strings awaited v (noted (test (before_byte 32 t)) (behind_by v (Some t))) read (form (before_byte 32 t)) refl refl refl
      (field_there test form read v t is (step (before_byte 32 t)))

  pub field_left : (test : List ℕ → Option ListingRule) (form : Form) (v : OpenLine) → test [] ≡ Some BadLine
      → line_left strings awaited (a_field test form) v ≡ line_left strings awaited form (noted (test (field_in v.fields)) (behind_field v))
  field_left test form v worst = by_fields test (λ f. form) (a_field test form) v v.fields refl (λ f fs. refl) refl worst

  pub number_left : (least most : ℕ) (form : ℕ → Form) (v : OpenLine)
      → line_left strings awaited (a_number least most form) v ≡ line_left strings awaited (form (number_in (field_in v.fields))) (noted (number_rule least most (field_in v.fields)) (behind_field v))
  number_left least most form v = by_fields (number_rule least most) (λ f. form (number_in f)) (a_number least most form) v v.fields refl (λ f fs. refl) refl refl

  -- behind the worst rule nothing else counts
  pub bad_left : (f g : Form) (v : OpenLine) → v.broken ≡ Some BadLine → line_left strings awaited f v ≡ line_left strings awaited g v
  bad_left f g v worst = line_same strings awaited v v f g refl refl refl (both_bad v v f g (bad_judged v.broken (f (fields_of v.fields)) worst) (bad_judged v.broken (g (fields_of v.fields)) worst))

  -- ---- bytes

  not_le : (a b : ℕ) → b < a → nat_le a b ≡ false
  not_le a b below = ⊎_elim (λ (is : nat_le a b ≡ true). let no = leb-true a b is in absurd (omega arith)) (λ is. is) (cases_Bool (nat_le a b))

  spent : (room n : ℕ) (x : Found) (rule : Option ListingRule) → n ≤ room → outcome room (judged rule (record { bytes = n + x.bytes; rule = x.rule; inside = x.inside; added = x.added })) ≡ outcome (room - n) (judged rule x)
  spent room n x rule few = ⊎_elim
      (λ (is : nat_le (n + x.bytes) room ≡ true).
      let fits : n + x.bytes ≤ room = leb-true (n + x.bytes) room is in
      let left : room - (n + x.bytes) ≡ (room - n) - x.bytes = omega arith in
      cond-true _ _ _ is ∙ ap (λ r. unless_broken (worse rule x.rule) (Passed r x.inside x.added)) left ∙ sym (cond-true _ _ _ (le-leb x.bytes (room - n) (omega arith))))
      (λ (is : nat_le (n + x.bytes) room ≡ false).
      let over : room < n + x.bytes = leb-false (n + x.bytes) room is in
      cond-false _ _ _ is ∙ sym (cond-false _ _ _ (not_le x.bytes (room - n) (omega arith))))
      (cases_Bool (nat_le (n + x.bytes) room))

  pub spend_fits : (n : ℕ) (form : Form) (v : OpenLine) → n ≤ v.room
      → line_left strings awaited (paid n form) v ≡ line_left strings awaited form (record { word = v.word; fields = v.fields; broken = v.broken; room = v.room - n; lines = v.lines; rest = v.rest })
  spend_fits n form v few =
      line_same strings awaited v (record { word = v.word; fields = v.fields; broken = v.broken; room = v.room - n; lines = v.lines; rest = v.rest }) (paid n form) form refl refl refl
      (spent v.room n (form (fields_of v.fields)) v.broken few)

  pub spend_over : (n : ℕ) (form : Form) (v : OpenLine) → v.room < n → line_left strings awaited (paid n form) v ≡ line_left strings awaited form (noted (Some BadLine) v)
  spend_over n form v few =
      line_same strings awaited v (noted (Some BadLine) v) (paid n form) form refl refl refl
      (cond-false _ _ _ (not_le (n + (form (fields_of v.fields)).bytes) v.room (omega arith))
      ∙ sym (outcome_bad v.room (judged (worse v.broken (Some BadLine)) (form (fields_of v.fields))) (bad_judged _ (form (fields_of v.fields)) (worse_bad v.broken))))

-- ---- the ends of lines

uncut : (byte : ℕ) (t : List ℕ) → behind_byte byte t ≡ None → before_byte byte t ≡ t
uncut byte [] none = refl
uncut byte (b ∷ t) none = ⊎_elim
    (λ (is : (b == byte) ≡ true). absurd (some_none t (sym (cond-true _ _ _ is) ∙ none)))
    (λ (is : (b == byte) ≡ false). cond-false _ _ _ is ∙ ap (λ u. b ∷ u) (uncut byte t (sym (cond-false _ _ _ is) ∙ none)))
    (cases_Bool (b == byte))
  where
    some_none : (u : List ℕ) → Some u ≡ None → ⊥
    some_none u e = cc

pub no_line : (strings : List (List ℕ)) (awaited : List Awaited) (v : OpenLine) → v.word ≡ None → behind_byte 10 v.rest ≡ None → lines_left strings awaited v ≡ break_from (place_behind strings awaited v) (between 10 v.rest)
unfolding lines_left break_from
no_line strings awaited v word none =
    let whole : between 10 v.rest ≡ v.rest ∷ [] = between_cut 10 v.rest ∙ ap (λ o. before_byte 10 v.rest ∷ cut_behind 10 o) none ∙ ap (λ t. t ∷ []) (uncut 10 v.rest none) in
    ap (λ o. opened (record { awaited = awaited; strings = strings; room = v.room; number = number_by o v.lines }) o v.fields v.rest) word ∙ ap (break_from (place_behind strings awaited v)) (sym whole)

pub a_line : (strings : List (List ℕ)) (awaited : List Awaited) (v : OpenLine) (text : List ℕ) → v.word ≡ Some (before_byte 32 (before_byte 10 text)) → v.fields ≡ behind_byte 32 (before_byte 10 text) → behind_byte 10 text ≡ Some v.rest
    → lines_left strings awaited v ≡ break_from (record { awaited = awaited; strings = strings; room = v.room; number = v.lines }) (between 10 text)
unfolding lines_left break_from
a_line strings awaited v text word fields behind =
    let line = before_byte 10 text in
    let p : Place = record { awaited = awaited; strings = strings; room = v.room; number = v.lines } in
    let o = read_line p (before_byte 32 line) (behind_byte 32 line) in
    let whole : between 10 text ≡ line ∷ (before_byte 10 v.rest ∷ cut_behind 10 (behind_byte 10 v.rest)) = between_cut 10 text ∙ ap (λ o. line ∷ cut_behind 10 o) behind ∙ ap (λ t. line ∷ t) (between_cut 10 v.rest) in
    ap (λ o. opened (record { awaited = awaited; strings = strings; room = v.room; number = number_by o v.lines }) o v.fields v.rest) word
    ∙ ap (λ f. opened p (Some (before_byte 32 line)) f v.rest) fields
    ∙ ap (λ ls. first_of v.lines o (break_from (behind_line p (left_after awaited (before_byte 32 line)) o) ls)) (between_cut 10 v.rest)
    ∙ ap (break_from p) (sym whole)

-- the line is refused
pub refused_left : (strings : List (List ℕ)) (awaited : List Awaited) (v : OpenLine) (w : List ℕ) (form : Form) (rule : ListingRule) → v.word ≡ Some w
    → outcome v.room (judged v.broken (form (fields_of v.fields))) ≡ Refused rule → line_left strings awaited form v ≡ Some (number_of v, rule)
unfolding line_left
refused_left strings awaited v w form rule word is =
    ap (λ x. if_open x v.lines (follow (place_of strings awaited v) awaited (outcome v.room (judged v.broken (form (fields_of v.fields)))) v.rest)) word
    ∙ ap (λ o. follow (place_of strings awaited v) awaited o v.rest) is

pub not_open : (strings : List (List ℕ)) (awaited : List Awaited) (v : OpenLine) (form : Form) → v.word ≡ None → line_left strings awaited form v ≡ Some (number_of v, End)
unfolding line_left
not_open strings awaited v form word =
    ap (λ x. if_open x v.lines (follow (place_of strings awaited v) awaited (outcome v.room (judged v.broken (form (fields_of v.fields)))) v.rest)) word
    ∙ ap (λ o. Some (number_by o v.lines, End)) (sym word)

pub field_over : (strings : List (List ℕ)) (awaited inside : List Awaited) (added : List (List ℕ)) (v : OpenLine) (w t : List ℕ) → v.word ≡ Some w → v.fields ≡ Some t
    → line_left strings awaited (done inside added) v ≡ Some (number_of v, BadLine)
field_over strings awaited inside added v w t word fields =
    refused_left strings awaited v w (done inside added) BadLine word
    (outcome_bad v.room _ (judged_bad v.broken (done inside added (fields_of v.fields)) (ap (λ fs. (done inside added fs).rule) (ap fields_of fields ∙ fields_cut t))))

pub rule_broken : (strings : List (List ℕ)) (awaited inside : List Awaited) (added : List (List ℕ)) (v : OpenLine) (w : List ℕ) (rule : ListingRule) → v.word ≡ Some w → v.fields ≡ None → v.broken ≡ Some rule
    → line_left strings awaited (done inside added) v ≡ Some (number_of v, rule)
rule_broken strings awaited inside added v w rule word fields broken =
    refused_left strings awaited v w (done inside added) rule word
    (ap (λ o. outcome v.room (judged v.broken (done inside added (fields_of o)))) fields
    ∙ cond-true _ _ _ (le-leb 0 v.room (omega arith))
    ∙ ap (λ r. unless_broken r (Passed (v.room - 0) inside added)) (worse_none v.broken ∙ broken))

pub line_done : (strings : List (List ℕ)) (awaited inside : List Awaited) (added : List (List ℕ)) (v : OpenLine) (w : List ℕ) → v.word ≡ Some w → v.fields ≡ None → v.broken ≡ None
    → line_left strings awaited (done inside added) v ≡ break_from (place_behind (strings ++ added) (inside ++ awaited) v) (between 10 v.rest)
unfolding line_left
line_done strings awaited inside added v w word fields broken =
    let o : outcome v.room (judged v.broken (done inside added (fields_of v.fields))) ≡ Passed v.room inside added =
    ap (λ o. outcome v.room (judged v.broken (done inside added (fields_of o)))) fields
    ∙ cond-true _ _ _ (le-leb 0 v.room (omega arith))
    ∙ ap (λ r. unless_broken r (Passed (v.room - 0) inside added)) (worse_none v.broken ∙ broken)
    ∙ ap (λ r. Passed r inside added) (omega arith) in
    ap (λ x. if_open x v.lines (follow (place_of strings awaited v) awaited (outcome v.room (judged v.broken (done inside added (fields_of v.fields)))) v.rest)) word
    ∙ ap (λ o. follow (place_of strings awaited v) awaited o v.rest) o
    ∙ ap (λ n. break_from (record { awaited = inside ++ awaited; strings = strings ++ added; room = v.room; number = suc n }) (between 10 v.rest)) (ap (λ x. number_by x v.lines) word)

-- ---- where a byte stands

module _ (byte : ℕ) where
  abbrev others : List ℕ → ℕ
  others t = position_or_len (λ x. x == byte) t

  here_is : (b : ℕ) (t : List ℕ) → (b == byte) ≡ true → others (b ∷ t) ≡ 0
  here_is b t is = cond-false _ _ _ (ap not is)

  here_not : (b : ℕ) (t : List ℕ) → (b == byte) ≡ false → others (b ∷ t) ≡ suc (others t)
  here_not b t is = cond-true _ _ _ (ap not is) ∙ (omega arith)

  before_len : (t : List ℕ) → take (others t) t ≡ before_byte byte t
  before_len [] = refl
  before_len (b ∷ t) = ⊎_elim
      (λ (is : (b == byte) ≡ true). ap (λ n. take n (b ∷ t)) (here_is b t is) ∙ sym (cond-true _ _ _ is))
      (λ (is : (b == byte) ≡ false). ap (λ n. take n (b ∷ t)) (here_not b t is) ∙ ap (λ u. b ∷ u) (before_len t) ∙ sym (cond-false _ _ _ is))
      (cases_Bool (b == byte))

  behind_len : (t : List ℕ) → others t < length t → Some (drop (suc (others t)) t) ≡ behind_byte byte t
  behind_len [] inside = absurd (omega arith)
  behind_len (b ∷ t) inside = ⊎_elim
      (λ (is : (b == byte) ≡ true). ap (λ n. Some (drop (suc n) (b ∷ t))) (here_is b t is) ∙ sym (cond-true _ _ _ is))
      (λ (is : (b == byte) ≡ false). ap (λ n. Some (drop (suc n) (b ∷ t))) (here_not b t is) ∙ behind_len t (omega (arith, here_not b t is)) ∙ sym (cond-false _ _ _ is))
      (cases_Bool (b == byte))

  none_len : (t : List ℕ) → length t ≤ others t → behind_byte byte t ≡ None
  none_len [] past = refl
  none_len (b ∷ t) past = ⊎_elim
      (λ (is : (b == byte) ≡ true). absurd (omega (arith, here_is b t is)))
      (λ (is : (b == byte) ≡ false). cond-false _ _ _ is ∙ none_len t (omega (arith, here_not b t is)))
      (cases_Bool (b == byte))

  pub found_at : (t : List ℕ) (at : ℕ) → Some at ≡ cond (nat_lt (position_or_len (λ x. x == byte) t) (length t)) (Some (position_or_len (λ x. x == byte) t)) None → (at ≡ others t) × (others t < length t)
  found_at t at is = ⊎_elim
      (λ (below : nat_lt (others t) (length t) ≡ true). let same : Some at ≡ Some (others t) = is ∙ cond-true _ _ _ below in (cc, ltb-true (others t) (length t) below))
      (λ (past : nat_lt (others t) (length t) ≡ false). let no : Some at ≡ None = is ∙ cond-false _ _ _ past in absurd cc)
      (cases_Bool (nat_lt (others t) (length t)))

  pub cut_before : (t : List ℕ) (at : ℕ) → Some at ≡ cond (nat_lt (position_or_len (λ x. x == byte) t) (length t)) (Some (position_or_len (λ x. x == byte) t)) None → take at t ≡ before_byte byte t
  cut_before t at is = ap (λ n. take n t) (found_at t at is).0 ∙ before_len t

  pub cut_some : (t u : List ℕ) (at : ℕ) → Some at ≡ cond (nat_lt (position_or_len (λ x. x == byte) t) (length t)) (Some (position_or_len (λ x. x == byte) t)) None → u ≡ drop (at + 1) t → Some u ≡ behind_byte byte t
  cut_some t u at is tail =
      let f = found_at t at is in
      let next : at + 1 ≡ suc (others t) = omega (arith, f.0) in
      ap Some (tail ∙ ap (λ n. drop n t) next) ∙ behind_len t f.1

  pub cut_none : (t : List ℕ) → None ≡ cond (nat_lt (position_or_len (λ x. x == byte) t) (length t)) (Some (position_or_len (λ x. x == byte) t)) None → None ≡ behind_byte byte t
  cut_none t is = ⊎_elim
      (λ (below : nat_lt (others t) (length t) ≡ true). let no : None ≡ Some (others t) = is ∙ cond-true _ _ _ below in absurd cc)
      (λ (past : nat_lt (others t) (length t) ≡ false). sym (none_len t (ltb-false (others t) (length t) past)))
      (cases_Bool (nat_lt (others t) (length t)))

pub whole_before : (byte : ℕ) (t : List ℕ) → None ≡ behind_byte byte t → t ≡ before_byte byte t
whole_before byte t none = sym (uncut byte t (sym none))

-- ---- options that a view shows

pub some_shown : {A : Type 0} (f : A → List ℕ) (o : Option A) → is_some o ≡ true → (x : List ℕ) × (option_map f o ≡ Some x)
some_shown f None is = absurd (false≢true is)
some_shown f (Some a) is = (f a, refl)

pub none_shown : {A : Type 0} (f : A → List ℕ) (o : Option A) → is_some o ≡ false → option_map f o ≡ None
none_shown f None is = refl
none_shown f (Some a) is = absurd (false≢true (sym is))

pub refuses_from : {a b : Break} (same : a ≡ b) (n : ℕ) (fault : Fault ListingRule) → Refuses b n fault → Refuses a n fault
refuses_from same n (Broken rule) told = same ∙ told
refuses_from same n OutOfMemory told = tt

-- ---- a field of which a rule was noted

noted_rule : (flag : Bool) {T : Type 0} (x : T) → cond flag None (Some NotCanonical) ≡ rule_of (Some (x, flag))
noted_rule true x = refl
noted_rule false x = refl

noted_as : (v mid new : OpenLine) (f : List ℕ) (r s : Option ListingRule) → mid ≡ behind_field v → new ≡ noted r mid → r ≡ s → new ≡ noted s (behind_field v)
noted_as v mid new f r s cut is same = is ∙ ap (noted r) cut ∙ ap (λ x. noted x (behind_field v)) same

module _ (test : List ℕ → Option ListingRule) (worst : test [] ≡ Some BadLine) (v mid new : OpenLine) (f : List ℕ) (field : f ≡ field_in v.fields) (cut : mid ≡ behind_field v) (strings : List (List ℕ)) (awaited : List Awaited) where
  pub tested_as : (r : Option ListingRule) → new ≡ noted r mid → r ≡ test f → (form : Form) → line_left strings awaited (a_field test form) v ≡ line_left strings awaited form new
  tested_as r is same form = field_left strings awaited test form v worst ∙ ap (line_left strings awaited form) (sym (noted_as v mid new f r (test (field_in v.fields)) cut is (same ∙ ap test field)))

  pub tested_some : {T : Type 0} (x : T) (flag : Bool) → new ≡ noted (cond flag None (Some NotCanonical)) mid → rule_of (Some (x, flag)) ≡ test f → (form : Form) → line_left strings awaited (a_field test form) v ≡ line_left strings awaited form new
  tested_some {T} x flag is same form = tested_as (cond flag None (Some NotCanonical)) is (noted_rule flag x ∙ same) form

module _ (least most : ℕ) (v mid new : OpenLine) (f : List ℕ) (field : f ≡ field_in v.fields) (cut : mid ≡ behind_field v) (strings : List (List ℕ)) (awaited : List Awaited) (form : ℕ → Form) where
  counted_as : (r : Option ListingRule) → new ≡ noted r mid → r ≡ number_rule least most f → line_left strings awaited (a_number least most form) v ≡ line_left strings awaited (form (number_in f)) new
  counted_as r is same =
      number_left strings awaited least most form v
      ∙ ap (line_left strings awaited (form (number_in (field_in v.fields)))) (sym (noted_as v mid new f r (number_rule least most (field_in v.fields)) cut is (same ∙ ap (number_rule least most) field)))
      ∙ ap (λ g. line_left strings awaited (form (number_in g)) new) (sym field)

  pub counted_some : (n : ℕ) (flag : Bool) → new ≡ noted (cond flag None (Some NotCanonical)) mid → rule_of (Some (n, flag)) ≡ number_rule least most f → n ≡ number_in f
      → line_left strings awaited (a_number least most form) v ≡ line_left strings awaited (form n) new
  counted_some n flag is same value = counted_as (cond flag None (Some NotCanonical)) is (noted_rule flag n ∙ same) ∙ ap (λ k. line_left strings awaited (form k) new) (sym value)

  pub counted_none : (n : ℕ) → new ≡ noted (Some BadLine) mid → Some BadLine ≡ number_rule least most f → line_left strings awaited (a_number least most form) v ≡ line_left strings awaited (form n) new
  counted_none n is same = counted_as (Some BadLine) is same ∙ bad_left strings awaited (form (number_in f)) (form n) new (ap (λ x. x.broken) is ∙ worse_bad mid.broken)

pub noted_none : (w : OpenLine) → noted None w ≡ w
noted_none w = ap (λ r. record { word = w.word; fields = w.fields; broken = r; room = w.room; lines = w.lines; rest = w.rest }) (worse_none w.broken)

-- a field that breaks no rule
pub field_kept : (test : List ℕ → Option ListingRule) (worst : test [] ≡ Some BadLine) (v new : OpenLine) (f : List ℕ) → f ≡ field_in v.fields → new ≡ behind_field v → (strings : List (List ℕ)) (awaited : List Awaited)
    → test f ≡ None → (form : Form) → line_left strings awaited (a_field test form) v ≡ line_left strings awaited form new
field_kept test worst v new f field cut strings awaited none form =
    field_left strings awaited test form v worst
    ∙ ap (λ r. line_left strings awaited form (noted r (behind_field v))) (ap test (sym field) ∙ none)
    ∙ ap (line_left strings awaited form) (noted_none (behind_field v) ∙ sym cut)

pub reference_noted : (flag : Bool) {T : Type 0} (x : T) → cond flag None (Some NotCanonical) ≡ reference_rule_of (Ok (x, flag))
reference_noted true x = refl
reference_noted false x = refl

-- ---- the end of the text, where nothing is awaited

pub nothing_awaited : (strings : List (List ℕ)) (v : OpenLine) (w : List ℕ) → v.word ≡ Some w → lines_left strings [] v ≡ Some (number_of v, BadLine)
unfolding lines_left
nothing_awaited strings v w word =
    ap (λ o. opened (place_of strings [] v) o v.fields v.rest) word

pub text_ended : (strings : List (List ℕ)) (v : OpenLine) → v.word ≡ None → (length v.rest == 0) ≡ true → lines_left strings [] v ≡ None
unfolding lines_left
text_ended strings v word empty = ap (λ o. opened (place_of strings [] v) o v.fields v.rest) word ∙ cond-true _ _ _ empty

pub text_goes_on : (strings : List (List ℕ)) (v : OpenLine) → v.word ≡ None → (length v.rest == 0) ≡ false → lines_left strings [] v ≡ Some (number_of v, End)
unfolding lines_left
text_goes_on strings v word more = ap (λ o. opened (place_of strings [] v) o v.fields v.rest) word ∙ cond-false _ _ _ more

-- ---- a string behind the first word

module _ (strings : List (List ℕ)) (awaited : List Awaited) (adds : List ℕ → List (List ℕ)) where
  -- there is none, or a longer one
  pub no_string : (v new : OpenLine) (text : List ℕ) (form : Form) → short_string (string_in text) ≡ None → new ≡ noted (Some BadLine) v → line_left strings awaited (a_string adds text) v ≡ line_left strings awaited form new
  no_string v new text form none is =
      line_same strings awaited v (noted (Some BadLine) v) (a_string adds text) form refl refl refl
      (both_bad v (noted (Some BadLine) v) (a_string adds text) form (judged_bad v.broken (string_by adds text (string_in text)) (by (string_in text) none)) (bad_judged (worse v.broken (Some BadLine)) (form (fields_of v.fields)) (worse_bad v.broken)))
      ∙ ap (line_left strings awaited form) (sym is)
    where
      by : (o : Option (List ℕ)) → short_string o ≡ None → (string_by adds text o).rule ≡ Some BadLine
      by None empty = refl
      by (Some s) long = ⊎_elim
          (λ (small : nat_lt (length s) 65536 ≡ true). let clash : Some s ≡ None = sym (cond-true _ _ _ small) ∙ long in absurd cc)
          (λ (big : nat_lt (length s) 65536 ≡ false). cond-false _ _ _ big)
          (cases_Bool (nat_lt (length s) 65536))

  pub string_left : (v new : OpenLine) (text s : List ℕ) (flag : Bool) → string_in text ≡ Some s → length s < 65536 → flag ≡ bytes_eq text (quoted s)
      → new ≡ noted (cond flag None (Some NotCanonical)) (record { word = v.word; fields = None; broken = v.broken; room = v.room; lines = v.lines; rest = v.rest })
      → line_left strings awaited (a_string adds text) v ≡ line_left strings awaited (paid (length s) (done [] (adds s))) new
  string_left v new text s flag found short spelled is =
      let rule = cond flag None (Some NotCanonical) in
      let empty : OpenLine = record { word = v.word; fields = None; broken = v.broken; room = v.room; lines = v.lines; rest = v.rest } in
      let judges : cond (nat_lt (length s) 65536) (unless_spelled text (quoted s)) (Some BadLine) ≡ rule = cond-true _ _ _ (lt-ltb (length s) 65536 short) ∙ ap (λ b. cond b None (Some NotCanonical)) (sym spelled) in
      let size : length s + 0 ≡ length s = omega arith in
      line_same strings awaited v (noted rule empty) (a_string adds text) (paid (length s) (done [] (adds s))) refl refl refl
      (ap (λ o. outcome v.room (judged v.broken (string_by adds text o))) found
      ∙ ap (λ r. outcome v.room (record { bytes = length s; rule = worse v.broken r; inside = []; added = adds s })) judges
      ∙ ap (λ r. outcome v.room (record { bytes = length s; rule = r; inside = []; added = adds s })) (sym (worse_none (worse v.broken rule)))
      ∙ ap (λ n. outcome v.room (record { bytes = n; rule = worse (worse v.broken rule) None; inside = []; added = adds s })) (sym size))
      ∙ ap (line_left strings awaited (paid (length s) (done [] (adds s)))) (sym is)
