-- The fields that a listing writes break no rule, and take the bytes of what they spell.
use Rattle.std.proofs.Common.{◌≡◌, ℕ, zero, suc, ℤ, pos, negsuc, ◌+◌, ◌<◌, ◌≤◌, ◌^◌, ◌==◌, Bool, true, false, List, [], ◌∷◌, ◌++◌, length, Option, Some, None, refl, sym, ap, subst, ◌∙◌, append_assoc, ⊎_elim, arith}
use Rattle.std.specs.Prelude.{codes, FitsSigned}
use Rattle.std.specs.Fmt.{decimal, signed_decimal}
use Rattle.std.specs.Int.{w32}
use Rattle.std.specs.List.{list_all, list_any, flat_map, position, AllByRecursion}
use Rattle.std.specs.Str.{bytes_eq}
use Rattle.std.proofs.lemmas.Bool.{agree_below_at, and_from, cases_Bool, cases_lt, cond-true, cond-false, eqb-true, false≢true, lt-ltb}
use Rattle.std.proofs.lemmas.Fmt.{decimal_nonempty, digits_decimal, digits_value-decimal}
use Rattle.std.proofs.lemmas.List.{length-append}
use Rattle.std.proofs.lemmas.Option.{slice_get_past}
use Rattle.papy_base.proofs.DigitLemmas.{digit_numerals}
use Rattle.pex_values.specs.declared.values.Datum.{Datum}
use Rattle.pex_values.specs.declared.values.Datum.TheVariants.{NoneValue, Word, Quoted, Int, Float, Bool as BoolByte}
use Rattle.pex_values.specs.Opcodes.{operand_table, operands_of}
use Rattle.pex_values.specs.Shape.{AgreesWith, IsReference, IsShapedDatum}
use Rattle.pex_values.specs.Spelling as spell
use Rattle.pex_listing.specs.Breaks.{Awaited, Form, Found, a_field, a_name, a_number, a_value, digits_rule, judged, more_values, number_by_value, number_in, number_rule, operands, paid, values, values_behind, written, integer_rule}
use Rattle.pex_listing.specs.Lines.{eight_digits, reference}
use Rattle.pex_listing.specs.Listing as form
use Rattle.pex_listing.specs.Numbers.{are_digits, is_hex_digit}
use Rattle.pex_listing.proofs.Cuts.{is_token, token_of}
use Rattle.pex_listing.proofs.OneField.{decimal_token, reference_token}
use Rattle.pex_listing.proofs.Unbroken.{digits_unbroken, integer_unbroken, number_unbroken, reference_unbroken}
use Rattle.listing_laws.proofs.Steps.{AreTokens, clear, none_more, row, word_rank}

-- ---- single fields

number_is : (n : ℕ) → n < 2 ^ 64 → number_in (decimal n) ≡ n
number_is n small =
    let digits : are_digits (decimal n) ≡ true = and_from _ _ (lt-ltb 0 (length (decimal n)) (decimal_nonempty n small)) (digits_decimal digit_numerals n small) in
    let is : written (decimal n) ≡ Some (pos n) = cond-true _ _ _ digits ∙ ap (λ k. Some (pos k)) (digits_value-decimal digit_numerals n small) in
    ap number_by_value is

module _ (bytes : ℕ) (inside : List Awaited) (added : List (List ℕ)) where
  pub paid_so : (n : ℕ) (form : Form) (fs : List (List ℕ)) → form fs ≡ clear bytes inside added → paid n form fs ≡ clear (n + bytes) inside added
  paid_so n form fs e = ap (λ x. record { bytes = n + x.bytes; rule = x.rule; inside = x.inside; added = x.added }) e

  pub field_so : (rule : List ℕ → Option _) (form : Form) (f : List ℕ) (fs : List (List ℕ)) → rule f ≡ None → form fs ≡ clear bytes inside added → a_field rule form (f ∷ fs) ≡ clear bytes inside added
  field_so rule form f fs is e = λ i. judged (is i) (e i)

  pub name_so : (strings : List (List ℕ)) (form : Form) (p : ℕ) (fs : List (List ℕ)) → IsReference (length strings) p → form fs ≡ clear bytes inside added → a_name strings form (reference strings p ∷ fs) ≡ clear bytes inside added
  name_so strings form p fs known e = λ i. judged (reference_unbroken strings p known i) (e i)

  pub number_so : (least most : ℕ) (form : ℕ → Form) (n : ℕ) (fs : List (List ℕ)) → least ≤ n → n ≤ most → most < 2 ^ 64 → form n fs ≡ clear bytes inside added → a_number least most form (decimal n ∷ fs) ≡ clear bytes inside added
  number_so least most form n fs low high small e =
      ap (λ k. judged (number_rule least most (decimal n)) (form k fs)) (number_is n (omega arith)) ∙ (λ i. judged (number_unbroken least most n low high small i) (e i))

abbrev pub beside : ℕ → Found → Found
beside n x = record { bytes = n + x.bytes; rule = x.rule; inside = x.inside; added = x.added }

pub byte_rule : (n : ℕ) → n < 2 ^ 8 → number_rule 0 255 (decimal n) ≡ None
byte_rule n small = number_unbroken 0 255 n (omega arith) (omega arith) (omega arith)

pub flags_rule : (n : ℕ) → n < 2 ^ 32 → number_rule 0 4294967295 (decimal n) ≡ None
flags_rule n small = number_unbroken 0 4294967295 n (omega arith) (omega arith) (omega arith)

pub time_rule : (n : ℕ) → n < 2 ^ 64 → number_rule 0 18446744073709551615 (decimal n) ≡ None
time_rule n small = number_unbroken 0 18446744073709551615 n (omega arith) (omega arith) (omega arith)

-- ---- values

module _ (strings : List (List ℕ)) where
  abbrev pub datum_fields : Datum → List (List ℕ)
  datum_fields NoneValue = codes "none" ∷ []
  datum_fields (Word n) = codes "id" ∷ reference strings n ∷ []
  datum_fields (Quoted n) = codes "text" ∷ reference strings n ∷ []
  datum_fields (Int n) = codes "int" ∷ signed_decimal n ∷ []
  datum_fields (Float n) = codes "float" ∷ eight_digits n ∷ []
  datum_fields (BoolByte n) = codes "bool" ∷ decimal n ∷ []

  pub datum_row : (d : Datum) (fs : List (List ℕ)) (r : List ℕ) → form.datum (reference strings) d ++ row fs r ≡ row (datum_fields d ++ fs) r
  datum_row NoneValue fs r = refl
  datum_row (Word n) fs r = refl
  datum_row (Quoted n) fs r = refl
  datum_row (Int n) fs r = refl
  datum_row (Float n) fs r = refl
  datum_row (BoolByte n) fs r = refl

  pub datums_row : (ds : List Datum) (fs : List (List ℕ)) (r : List ℕ) → flat_map (form.datum (reference strings)) ds ++ row fs r ≡ row (flat_map datum_fields ds ++ fs) r
  datums_row [] fs r = refl
  datums_row (d ∷ ds) fs r =
      append_assoc (form.datum (reference strings) d) (flat_map (form.datum (reference strings)) ds) (row fs r)
      ∙ ap (λ t. form.datum (reference strings) d ++ t) (datums_row ds fs r)
      ∙ datum_row d (flat_map datum_fields ds ++ fs) r
      ∙ ap (λ us. row us r) (sym (append_assoc (datum_fields d) (flat_map datum_fields ds) fs))

  pub signed_token : (z : ℤ) → FitsSigned w32 z → is_token (signed_decimal z) ≡ true
  signed_token (pos n) fits = decimal_token n (omega arith)
  signed_token (negsuc n) fits = decimal_token (suc n) (omega arith)

  hex_digits : (n : ℕ) → list_all is_hex_digit (eight_digits n) ≡ true
  hex_digits n = ⊎_elim
      (λ is. is)
      (λ (other : list_all is_hex_digit (eight_digits n) ≡ false). let no : None ≡ Some _ = sym (digits_unbroken n) ∙ cond-false _ _ _ other in absurd cc)
      (cases_Bool (list_all is_hex_digit (eight_digits n)))

  digits_token : (n : ℕ) → is_token (eight_digits n) ≡ true
  digits_token n = token_of is_hex_digit refl refl (eight_digits n) (hex_digits n)

  pub datum_tokens : (d : Datum) → IsShapedDatum (length strings) d → AreTokens (datum_fields d)
  datum_tokens NoneValue shaped = (refl, tt)
  datum_tokens (Word n) shaped = (refl, (reference_token strings n shaped, tt))
  datum_tokens (Quoted n) shaped = (refl, (reference_token strings n shaped, tt))
  datum_tokens (Int n) shaped = (refl, (signed_token n shaped, tt))
  datum_tokens (Float n) shaped = (refl, (digits_token n, tt))
  datum_tokens (BoolByte n) shaped = (refl, (decimal_token n (omega (arith, shaped)), tt))

  pub tokens_both : (fs gs : List (List ℕ)) → AreTokens fs → AreTokens gs → AreTokens (fs ++ gs)
  tokens_both [] gs each more = more
  tokens_both (f ∷ fs) gs each more = (each.0, tokens_both fs gs each.1 more)

  pub datums_tokens : (ds : List Datum) → AllByRecursion (IsShapedDatum (length strings)) ds → AreTokens (flat_map datum_fields ds)
  datums_tokens [] each = tt
  datums_tokens (d ∷ ds) each = tokens_both (datum_fields d) (flat_map datum_fields ds) (datum_tokens d each.0) (datums_tokens ds each.1)

  pub value_so : (bytes : ℕ) (inside : List Awaited) (form : Form) (d : Datum) (fs : List (List ℕ)) → IsShapedDatum (length strings) d → form fs ≡ clear bytes inside []
      → a_value strings form (datum_fields d ++ fs) ≡ clear (length (spell.datum d) + bytes) inside []
  unfolding a_value
  value_so bytes inside form NoneValue fs shaped e = paid_so bytes inside [] 1 form fs e
  value_so bytes inside form (Word n) fs shaped e = name_so (3 + bytes) inside [] strings (paid 3 form) n fs shaped (paid_so bytes inside [] 3 form fs e)
  value_so bytes inside form (Quoted n) fs shaped e = name_so (3 + bytes) inside [] strings (paid 3 form) n fs shaped (paid_so bytes inside [] 3 form fs e)
  value_so bytes inside form (Int n) fs shaped e = field_so (5 + bytes) inside [] integer_rule (paid 5 form) (signed_decimal n) fs (integer_unbroken n shaped) (paid_so bytes inside [] 5 form fs e)
  value_so bytes inside form (Float n) fs shaped e = field_so (5 + bytes) inside [] digits_rule (paid 5 form) (eight_digits n) fs (digits_unbroken n) (paid_so bytes inside [] 5 form fs e)
  value_so bytes inside form (BoolByte n) fs shaped e =
      number_so (2 + bytes) inside [] 0 255 (λ _. paid 2 form) n fs (omega arith) (omega (arith, shaped)) (omega arith) (paid_so bytes inside [] 2 form fs e)

  pub values_so : (bytes : ℕ) (inside : List Awaited) (form : Form) (ds : List Datum) (fs : List (List ℕ)) → AllByRecursion (IsShapedDatum (length strings)) ds → form fs ≡ clear bytes inside []
      → values strings (length ds) form (flat_map datum_fields ds ++ fs) ≡ clear (length (flat_map spell.datum ds) + bytes) inside []
  values_so bytes inside form [] fs each e = e ∙ ap (λ n. clear n inside []) (none_more bytes)
  values_so bytes inside form (d ∷ ds) fs each e =
      let more = flat_map spell.datum ds in
      let size : length (spell.datum d) + (length more + bytes) ≡ length (spell.datum d ++ more) + bytes = omega (arith, length-append (spell.datum d) more) in
      ap (a_value strings (values strings (length ds) form)) (append_assoc (datum_fields d) (flat_map datum_fields ds) fs)
      ∙ value_so (length more + bytes) inside (values strings (length ds) form) d (flat_map datum_fields ds ++ fs) each.0 (values_so bytes inside form ds fs each.1 e)
      ∙ ap (λ n. clear n inside []) size

  more_open : (n : ℕ) (d : Datum) (fs : List (List ℕ)) → more_values strings (suc n) (datum_fields d ++ fs) ≡ a_value strings (more_values strings n) (datum_fields d ++ fs)
  more_open n NoneValue fs = refl
  more_open n (Word p) fs = refl
  more_open n (Quoted p) fs = refl
  more_open n (Int p) fs = refl
  more_open n (Float p) fs = refl
  more_open n (BoolByte p) fs = refl

  -- as many rounds as there are values are enough
  more_so : (n : ℕ) (ds : List Datum) → length ds ≤ n → AllByRecursion (IsShapedDatum (length strings)) ds → more_values strings n (flat_map datum_fields ds) ≡ clear (length (flat_map spell.datum ds)) [] []
  more_so zero [] few each = refl
  more_so zero (d ∷ ds) few each = absurd (omega (arith, few))
  more_so (suc n) [] few each = refl
  more_so (suc n) (d ∷ ds) few each =
      more_open n d (flat_map datum_fields ds)
      ∙ value_so (length (flat_map spell.datum ds)) [] (more_values strings n) d (flat_map datum_fields ds) each.0 (more_so n ds (omega (arith, few)) each.1)
      ∙ ap (λ m. clear m [] []) (sym (length-append (spell.datum d) (flat_map spell.datum ds)))

  one_field : (d : Datum) → 1 ≤ length (datum_fields d)
  one_field NoneValue = omega arith
  one_field (Word p) = omega arith
  one_field (Quoted p) = omega arith
  one_field (Int p) = omega arith
  one_field (Float p) = omega arith
  one_field (BoolByte p) = omega arith

  enough : (ds : List Datum) → length ds ≤ length (flat_map datum_fields ds)
  enough [] = omega arith
  enough (d ∷ ds) = omega (arith, one_field d, enough ds, length-append (datum_fields d) (flat_map datum_fields ds))

  -- ---- instructions

  pub opcode_so : (o : Option (ℕ × Bool)) (fixed more : List Datum) → AgreesWith o (length fixed) (length more) → AllByRecursion (IsShapedDatum (length strings)) fixed → AllByRecursion (IsShapedDatum (length strings)) more
      → operands strings o (flat_map datum_fields fixed ++ flat_map datum_fields more) ≡ clear (1 + (length (flat_map spell.datum fixed) + length (spell.counted o more))) [] []
  opcode_so None fixed more agrees each others = absurd agrees
  opcode_so (Some (n, true)) fixed more agrees each others =
      let size = length (flat_map spell.datum more) in
      let count : 5 + size ≡ length (spell.counted (Some (n, true)) more) = sym (length-append (spell.integer (pos (length more))) (flat_map spell.datum more)) in
      let behind = paid_so size [] [] 5 (λ fs. more_values strings (length fs) fs) (flat_map datum_fields more) (more_so (length (flat_map datum_fields more)) more (enough more) others) in
      let all = values_so (5 + size) [] (values_behind strings true) fixed (flat_map datum_fields more) each behind in
      ap (λ m. paid 1 (values strings m (values_behind strings true)) (flat_map datum_fields fixed ++ flat_map datum_fields more)) (sym agrees)
      ∙ paid_so (length (flat_map spell.datum fixed) + (5 + size)) [] [] 1 (values strings (length fixed) (values_behind strings true)) (flat_map datum_fields fixed ++ flat_map datum_fields more) all
      ∙ ap (λ m. clear (1 + (length (flat_map spell.datum fixed) + m)) [] []) count
  opcode_so (Some (n, false)) fixed (d ∷ more) agrees each others = absurd (omega (arith, agrees.1))
  opcode_so (Some (n, false)) fixed [] agrees each others =
      let all = values_so 0 [] (values_behind strings false) fixed [] each refl in
      ap (λ m. paid 1 (values strings m (values_behind strings false)) (flat_map datum_fields fixed ++ [])) (sym agrees.0)
      ∙ paid_so (length (flat_map spell.datum fixed) + 0) [] [] 1 (values strings (length fixed) (values_behind strings false)) (flat_map datum_fields fixed ++ []) all

pub is_opcode : (o a b : ℕ) → AgreesWith (operands_of o) a b → o < 36
is_opcode o a b agrees = ⊎_elim (λ below. below) (λ above. absurd (subst (λ t. AgreesWith t a b) (slice_get_past operand_table o above) agrees)) (cases_lt o 36)

pub opcode_token : (o : ℕ) → o < 36 → is_token (form.opcode_name o) ≡ true
unfolding form.opcode_name
opcode_token o below = agree_below_at (λ k. is_token (form.opcode_name k)) (λ k. true) 36 o refl below

pub opcode_among : (o : ℕ) → o < 36 → list_any (bytes_eq (form.opcode_name o)) form.opcode_names ≡ true
unfolding form.opcode_name
opcode_among o below = agree_below_at (λ k. list_any (bytes_eq (form.opcode_name k)) form.opcode_names) (λ k. true) 36 o refl below

is_at : Option ℕ → ℕ → Bool
is_at None k = false
is_at (Some n) k = n == k

at_place : (o : Option ℕ) (k : ℕ) → is_at o k ≡ true → o ≡ Some k
unfolding is_at
at_place None k is = absurd (false≢true is)
at_place (Some n) k is = ap Some (eqb-true n k is)

pub opcode_place : (o : ℕ) → o < 36 → position (bytes_eq (form.opcode_name o)) form.opcode_names ≡ Some o
unfolding form.opcode_name is_at
opcode_place o below = at_place _ o (agree_below_at (λ k. is_at (position (bytes_eq (form.opcode_name k)) form.opcode_names) k) (λ k. true) 36 o refl below)

pub opcode_rank : (o : ℕ) → o < 36 → word_rank (form.opcode_name o) ≡ 2
unfolding form.opcode_name
opcode_rank o below = eqb-true _ _ (agree_below_at (λ k. word_rank (form.opcode_name k) == 2) (λ k. true) 36 o refl below)
