-- What reading the values or the numbers of a line leaves of its form.
use Rattle.std.proofs.Common.{◌≡◌, ℕ, zero, suc, ◌+◌, ◌<◌, ◌≤◌, ◌==◌, ◌||◌, ◌&&◌, cond, Bool, true, false, List, [], ◌∷◌, length, Option, Some, None, refl, sym, ap, ◌∙◌, ⊎_elim, arith}
use Rattle.std.specs.Prelude.{codes, is_some, option_map, unwrap_or}
use Rattle.std.specs.Str.{bytes_eq}
use Rattle.std.proofs.lemmas.Bool.{false≢true, cases_Bool, cond-true, cond-false}
use Rattle.pex_listing.specs.Breaks.{Awaited, Form, Found, a_byte, a_field, a_name, a_number, a_value, all_values, bad, before_byte, behind_byte, digits_rule, done, fields_of, integer_rule, judged, more_values, number_rule, numbers, paid, reference_rule}
use Rattle.pex_listing.specs.Fields.{kind_of}
use Rattle.pex_listing.specs.Left.{OpenLine, behind_by, behind_field, field_in, has_field, line_left, may_be_good, noted, view}
use Rattle.pex_listing.specs.Opened.{fields_left}
use Rattle.pex_listing.specs.declared.listing.Listing.{Listing}
use Rattle.pex_listing.specs.declared.faults.ListingRule.{ListingRule}
use Rattle.pex_listing.specs.declared.faults.ListingRule.TheVariants.{BadLine, NotCanonical, BadName, End}
use Rattle.pex_listing.specs.declared.fields.ValueKind.{ValueKind}
use Rattle.pex_listing.specs.declared.fields.ValueKind.TheVariants.{Nothing, Name, Text, Integer, Real, Truth}
use Rattle.pex_listing.proofs.Leaving.{bad_left, by_fields, fields_cut, form_same, noted_none, worse_bad}

-- ---- a field less

abbrev left_by : Option (List ℕ) → List ℕ
left_by None = []
left_by (Some t) = 32 ∷ t

left_shown : {A : Type 0} (f : A → List ℕ) (o : Option A) → unwrap_or (option_map (λ x. 32 ∷ f x) o) [] ≡ left_by (option_map f o)
left_shown f None = refl
left_shown f (Some a) = refl

behind_shorter : (t : List ℕ) → length (left_by (behind_byte 32 t)) ≤ length t
behind_shorter [] = omega arith
behind_shorter (b ∷ t) = ⊎_elim
    (λ (is : (b == 32) ≡ true). let same : length (left_by (behind_byte 32 (b ∷ t))) ≡ length (32 ∷ t) = ap (λ o. length (left_by o)) (cond-true _ _ _ is) in omega (arith, same))
    (λ (is : (b == 32) ≡ false). let same : length (left_by (behind_byte 32 (b ∷ t))) ≡ length (left_by (behind_byte 32 t)) = ap (λ o. length (left_by o)) (cond-false _ _ _ is) in omega (arith, same, behind_shorter t))
    (cases_Bool (b == 32))

field_shorter : (v w : OpenLine) (o : Option (List ℕ)) → v.fields ≡ o → w ≡ behind_by v o → (is_some o && may_be_good v.broken) ≡ true → length (left_by w.fields) < length (left_by v.fields)
field_shorter v w None is cut has = absurd (false≢true has)
field_shorter v w (Some t) is cut has =
    let now : length (left_by w.fields) ≡ length (left_by (behind_byte 32 t)) = ap (λ (x : OpenLine). length (left_by x.fields)) cut in
    let before : length (left_by v.fields) ≡ length (32 ∷ t) = ap (λ o. length (left_by o)) is in
    omega (arith, now, before, behind_shorter t)

pub cut_shorter : (old new : Listing) → view new ≡ behind_field (view old) → has_field (view old) ≡ true → length (fields_left new) < length (fields_left old)
cut_shorter old new cut has =
    let a : length (fields_left old) ≡ length (left_by (view old).fields) = ap length (left_shown (λ fields. fields.now) old.fields) in
    let b : length (fields_left new) ≡ length (left_by (view new).fields) = ap length (left_shown (λ fields. fields.now) new.fields) in
    omega (arith, a, b, field_shorter (view old) (view new) (view old).fields refl cut has)

-- ---- one more of several numbers

number_step : (n : ℕ) (f : List ℕ) (fs : List (List ℕ)) → numbers (suc n) (f ∷ fs) ≡ paid 2 (a_number 0 65535 (λ _. numbers n)) (f ∷ fs)
unfolding numbers
number_step n f fs = refl

pub number_next : (strings : List (List ℕ)) (awaited : List Awaited) (n : ℕ) (v : OpenLine) (t : List ℕ) → v.fields ≡ Some t
    → line_left strings awaited (numbers (suc n)) v ≡ line_left strings awaited (paid 2 (a_number 0 65535 (λ _. numbers n))) v
number_next strings awaited n v t is =
    let cut : fields_of v.fields ≡ before_byte 32 t ∷ fields_of (behind_byte 32 t) = ap fields_of is ∙ fields_cut t in
    form_same strings awaited v (numbers (suc n)) (paid 2 (a_number 0 65535 (λ _. numbers n)))
    (ap (numbers (suc n)) cut ∙ number_step n (before_byte 32 t) (fields_of (behind_byte 32 t)) ∙ sym (ap (paid 2 (a_number 0 65535 (λ _. numbers n))) cut))

pub no_number : (n : ℕ) → numbers n [] ≡ done [] [] []
unfolding numbers
no_number zero = refl
no_number (suc n) = refl

pub no_numbers : (strings : List (List ℕ)) (awaited : List Awaited) (v : OpenLine) → line_left strings awaited (numbers 0) v ≡ line_left strings awaited (done [] []) v
unfolding numbers
no_numbers strings awaited v = refl

-- ---- no further field

some_by : (o : Option (List ℕ)) (b : Option ListingRule) → (is_some o && may_be_good b) ≡ true → (t : List ℕ) × (o ≡ Some t)
some_by None b has = absurd (false≢true has)
some_by (Some t) b has = (t, refl)

pub some_field : (v : OpenLine) → has_field v ≡ true → (t : List ℕ) × (v.fields ≡ Some t)
some_field v has = some_by v.fields v.broken has

module _ (strings : List (List ℕ)) (awaited : List Awaited) (form : Form) (empty : form [] ≡ done [] [] []) where
  no_more_by : (v : OpenLine) (o : Option (List ℕ)) (b : Option ListingRule) → v.fields ≡ o → v.broken ≡ b → (is_some o && may_be_good b) ≡ false → line_left strings awaited form v ≡ line_left strings awaited (done [] []) v
  no_more_by v None b is broken lacks = form_same strings awaited v form (done [] []) (ap (λ o. form (fields_of o)) is ∙ empty ∙ sym (ap (λ o. done [] [] (fields_of o)) is))
  no_more_by v (Some t) (Some BadLine) is broken lacks = bad_left strings awaited form (done [] []) v broken
  no_more_by v (Some t) None is broken lacks = absurd (false≢true (sym lacks))
  no_more_by v (Some t) (Some BadName) is broken lacks = absurd (false≢true (sym lacks))
  no_more_by v (Some t) (Some NotCanonical) is broken lacks = absurd (false≢true (sym lacks))
  no_more_by v (Some t) (Some End) is broken lacks = absurd (false≢true (sym lacks))

  pub no_more : (v : OpenLine) → has_field v ≡ false → line_left strings awaited form v ≡ line_left strings awaited (done [] []) v
  no_more v none = no_more_by v v.fields v.broken refl refl none

-- ---- values

module _ (strings : List (List ℕ)) where
  -- what is behind the first field of a value
  abbrev pub behind_kind : ValueKind → Form → Form
  behind_kind Nothing form = paid 1 form
  behind_kind Name form = a_name strings (paid 3 form)
  behind_kind Text form = a_name strings (paid 3 form)
  behind_kind Integer form = a_field integer_rule (paid 5 form)
  behind_kind Real form = a_field digits_rule (paid 5 form)
  behind_kind Truth form = a_byte (paid 2 form)

  abbrev behind_word : Option ValueKind → Form → Form
  behind_word None form = λ fields. bad
  behind_word (Some kind) form = behind_kind kind form

  abbrev kind_rule : Option ValueKind → Option ListingRule
  kind_rule None = Some BadLine
  kind_rule (Some kind) = None

  abbrev value_by : Bool → Bool → Bool → Bool → Bool → Bool → Form → List (List ℕ) → Found
  value_by a b c d e g form fs =
      cond a (paid 1 form fs) (cond (b || c) (a_name strings (paid 3 form) fs) (cond d (a_field integer_rule (paid 5 form) fs) (cond e (a_field digits_rule (paid 5 form) fs) (cond g (a_byte (paid 2 form) fs) bad))))

  abbrev kind_by : Bool → Bool → Bool → Bool → Bool → Bool → Option ValueKind
  kind_by a b c d e g = cond a (Some Nothing) (cond b (Some Name) (cond c (Some Text) (cond d (Some Integer) (cond e (Some Real) (cond g (Some Truth) None)))))

  step_by : (a b c d e g : Bool) (form : Form) (fs : List (List ℕ)) → value_by a b c d e g form fs ≡ judged (kind_rule (kind_by a b c d e g)) (behind_word (kind_by a b c d e g) form fs)
  step_by true b c d e g form fs = refl
  step_by false true c d e g form fs = refl
  step_by false false true d e g form fs = refl
  step_by false false false true e g form fs = refl
  step_by false false false false true g form fs = refl
  step_by false false false false false true form fs = refl
  step_by false false false false false false form fs = refl

  value_step : (form : Form) (f : List ℕ) (fs : List (List ℕ)) → a_value strings form (f ∷ fs) ≡ judged (kind_rule (kind_of f)) (behind_word (kind_of f) form fs)
  unfolding a_value
  value_step form f fs = step_by (bytes_eq f (codes "none")) (bytes_eq f (codes "id")) (bytes_eq f (codes "text")) (bytes_eq f (codes "int")) (bytes_eq f (codes "float")) (bytes_eq f (codes "bool")) form fs

  no_value : (form : Form) → a_value strings form [] ≡ bad
  unfolding a_value
  no_value form = refl

  module _ (s : List (List ℕ)) (awaited : List Awaited) (form : Form) (v mid : OpenLine) (word : List ℕ) (is : word ≡ field_in v.fields) (cut : mid ≡ behind_field v) where
    value_left : (kind : Option ValueKind) → kind_of word ≡ kind → line_left s awaited (a_value strings form) v ≡ line_left s awaited (behind_word kind form) (noted (kind_rule kind) mid)
    value_left kind of =
        by_fields s awaited (λ f. kind_rule (kind_of f)) (λ f. behind_word (kind_of f) form) (a_value strings form) v v.fields refl (value_step form) (no_value form) refl
        ∙ ap (λ k. line_left s awaited (behind_word k form) (noted (kind_rule k) (behind_field v))) (ap kind_of (sym is) ∙ of)
        ∙ ap (λ w. line_left s awaited (behind_word kind form) (noted (kind_rule kind) w)) (sym cut)

    pub value_kept : (kind : ValueKind) → kind_of word ≡ Some kind → line_left s awaited (a_value strings form) v ≡ line_left s awaited (behind_kind kind form) mid
    value_kept kind of = value_left (Some kind) of ∙ ap (line_left s awaited (behind_kind kind form)) (noted_none mid)

    pub value_lost : (other : Form) (new : OpenLine) → kind_of word ≡ None → new ≡ noted (Some BadLine) mid → line_left s awaited (a_value strings form) v ≡ line_left s awaited other new
    value_lost other new of lost =
        value_left None of
        ∙ ap (line_left s awaited (behind_word None form)) (sym lost)
        ∙ bad_left s awaited (behind_word None form) other new (ap (λ x. x.broken) lost ∙ worse_bad mid.broken)

  -- ---- several values

  paid_same : (n : ℕ) (form other : Form) (fs : List (List ℕ)) → form fs ≡ other fs → paid n form fs ≡ paid n other fs
  paid_same n form other fs same = ap (λ x. record { bytes = n + x.bytes; rule = x.rule; inside = x.inside; added = x.added }) same

  field_same : (test : List ℕ → Option ListingRule) (n : ℕ) (form other : Form) (k : ℕ) → ((gs : List (List ℕ)) → length gs ≤ k → form gs ≡ other gs) → (fs : List (List ℕ)) → length fs ≤ k
      → a_field test (paid n form) fs ≡ a_field test (paid n other) fs
  field_same test n form other k same [] few = refl
  field_same test n form other k same (g ∷ gs) few = ap (judged (test g)) (paid_same n form other gs (same gs (omega arith)))

  kind_same : (kind : Option ValueKind) (form other : Form) (k : ℕ) → ((gs : List (List ℕ)) → length gs ≤ k → form gs ≡ other gs) → (fs : List (List ℕ)) → length fs ≤ k → behind_word kind form fs ≡ behind_word kind other fs
  kind_same None form other k same fs few = refl
  kind_same (Some Nothing) form other k same fs few = paid_same 1 form other fs (same fs few)
  kind_same (Some Name) form other k same fs few = field_same (reference_rule strings) 3 form other k same fs few
  kind_same (Some Text) form other k same fs few = field_same (reference_rule strings) 3 form other k same fs few
  kind_same (Some Integer) form other k same fs few = field_same integer_rule 5 form other k same fs few
  kind_same (Some Real) form other k same fs few = field_same digits_rule 5 form other k same fs few
  kind_same (Some Truth) form other k same [] few = refl
  kind_same (Some Truth) form other k same (g ∷ gs) few = ap (judged (number_rule 0 255 g)) (paid_same 2 form other gs (same gs (omega arith)))

  value_same : (form other : Form) (k : ℕ) → ((gs : List (List ℕ)) → length gs ≤ k → form gs ≡ other gs) → (f : List ℕ) (fs : List (List ℕ)) → length fs ≤ k → a_value strings form (f ∷ fs) ≡ a_value strings other (f ∷ fs)
  value_same form other k same f fs few = value_step form f fs ∙ ap (judged (kind_rule (kind_of f))) (kind_same (kind_of f) form other k same fs few) ∙ sym (value_step other f fs)

  more_same : (n m : ℕ) (fs : List (List ℕ)) → length fs ≤ n → length fs ≤ m → more_values strings n fs ≡ more_values strings m fs
  more_same zero zero fs p q = refl
  more_same zero (suc m) [] p q = refl
  more_same zero (suc m) (f ∷ fs) p q = absurd (omega arith)
  more_same (suc n) zero [] p q = refl
  more_same (suc n) zero (f ∷ fs) p q = absurd (omega arith)
  more_same (suc n) (suc m) [] p q = refl
  more_same (suc n) (suc m) (f ∷ fs) p q = value_same (more_values strings n) (more_values strings m) (length fs) (λ gs few. more_same n m gs (omega arith) (omega arith)) f fs (omega arith)

  all_step : (f : List ℕ) (fs : List (List ℕ)) → all_values strings (f ∷ fs) ≡ a_value strings (all_values strings) (f ∷ fs)
  all_step f fs = value_same (more_values strings (length fs)) (all_values strings) (length fs) (λ gs few. more_same (length fs) (length gs) gs few (omega arith)) f fs (omega arith)

  pub value_next : (s : List (List ℕ)) (awaited : List Awaited) (v : OpenLine) (t : List ℕ) → v.fields ≡ Some t → line_left s awaited (all_values strings) v ≡ line_left s awaited (a_value strings (all_values strings)) v
  value_next s awaited v t is =
      let cut : fields_of v.fields ≡ before_byte 32 t ∷ fields_of (behind_byte 32 t) = ap fields_of is ∙ fields_cut t in
      form_same s awaited v (all_values strings) (a_value strings (all_values strings))
      (ap (all_values strings) cut ∙ all_step (before_byte 32 t) (fields_of (behind_byte 32 t)) ∙ sym (ap (a_value strings (all_values strings)) cut))
