-- How a string in quotes is read, byte for byte.
use Rattle.std.proofs.Common.{◌≡◌, ℕ, suc, ◌<◌, ◌≤◌, ◌==◌, ◌&&◌, ◌||◌, ◌+◌, ◌*◌, Bool, true, false, cond, List, [], ◌∷◌, ◌++◌, length, drop, Option, Some, None, refl, sym, ap, ◌∙◌, ⊎_elim, append_assoc, append-nil, length-append, arith}
use Rattle.std.specs.Prelude.{IfSome, nat_lt, nat_le, option_map}
use Rattle.std.specs.Char.{digit_value}
use Rattle.std.specs.Str.{bytes_eq}
use Rattle.std.specs.Cmp.Lexicographic.{bytes_decides}
use Rattle.std.proofs.lemmas.Bool.{false≢true, and_parts, cases_Bool, cond-true, cond-false, eqb-true, leb-true, lt-ltb}
use Rattle.pex_listing.specs.Breaks.{AtByte, AtEscape, AtHigh, AtLow, front, string_in, unquoted, with_byte}
use Rattle.pex_listing.specs.Fields.{Spells, byte_of, cut_first, short_string}
use Rattle.pex_listing.specs.Numbers.{is_hex_digit}

-- ---- the first byte of some

pub first_shown : (xs : List ℕ) (b : ℕ) (t : List ℕ) → ◌≡◌ {A = Option (ℕ × List ℕ)} (Some (b, t)) (cut_first xs) → xs ≡ b ∷ t
first_shown [] b t is = absurd cc
first_shown (c ∷ u) b t is = let same : ◌≡◌ {A = Option (ℕ × List ℕ)} (Some (b, t)) (Some (c, u)) = is ∙ cond-true _ _ _ (lt-ltb 0 (length (c ∷ u)) (omega arith)) in
    let pair : ◌≡◌ {A = ℕ × List ℕ} (b, t) (c, u) = cc in
    ap (λ (p : ℕ × List ℕ). p.0 ∷ p.1) (sym pair)

pub none_shown : (xs : List ℕ) → ◌≡◌ {A = Option (ℕ × List ℕ)} None (cut_first xs) → xs ≡ []
none_shown [] is = refl
none_shown (c ∷ u) is = let clash : ◌≡◌ {A = Option (ℕ × List ℕ)} None (Some (c, u)) = is ∙ cond-true _ _ _ (lt-ltb 0 (length (c ∷ u)) (omega arith)) in absurd cc

-- ---- behind `\x`

pub coded_byte : (xs : List ℕ) (high low b : ℕ) (behind rest : List ℕ) → xs ≡ high ∷ behind → behind ≡ low ∷ rest → Some b ≡ byte_of high low → unquoted AtHigh xs ≡ with_byte b (unquoted AtByte rest)
coded_byte xs high low b behind rest first second is = ⊎_elim
    (λ (hex : (is_hex_digit high && is_hex_digit low) ≡ true).
    let parts = and_parts (is_hex_digit high) (is_hex_digit low) hex in
    let value : Some b ≡ Some (16 * digit_value high + digit_value low) = is ∙ cond-true _ _ _ hex in
    let same : b ≡ 16 * digit_value high + digit_value low = cc in
    ap (unquoted AtHigh) (first ∙ ap (λ t. high ∷ t) second) ∙ cond-true _ _ _ parts.0 ∙ cond-true _ _ _ parts.1 ∙ ap (λ k. with_byte k (unquoted AtByte rest)) (sym same))
    (λ (bad : (is_hex_digit high && is_hex_digit low) ≡ false). let none : Some b ≡ None = is ∙ cond-false _ _ _ bad in absurd cc)
    (cases_Bool (is_hex_digit high && is_hex_digit low))

pub coded_none : (xs : List ℕ) (high low : ℕ) (behind rest : List ℕ) → xs ≡ high ∷ behind → behind ≡ low ∷ rest → None ≡ byte_of high low → unquoted AtHigh xs ≡ None
coded_none xs high low behind rest first second none =
    ap (unquoted AtHigh) (first ∙ ap (λ t. high ∷ t) second)
    ∙ ⊎_elim
    (λ (is : is_hex_digit high ≡ true). ⊎_elim
    (λ (it : is_hex_digit low ≡ true). let some : None ≡ Some (16 * digit_value high + digit_value low) = none ∙ cond-true (is_hex_digit high && is_hex_digit low) _ _ (ap (λ b. b && is_hex_digit low) is ∙ it) in absurd cc)
    (λ (it : is_hex_digit low ≡ false). cond-true _ _ _ is ∙ cond-false _ _ _ it)
    (cases_Bool (is_hex_digit low)))
    (λ (is : is_hex_digit high ≡ false). cond-false _ _ _ is)
    (cases_Bool (is_hex_digit high))

pub coded_ends : (xs : List ℕ) (high : ℕ) (behind : List ℕ) → xs ≡ high ∷ behind → behind ≡ [] → unquoted AtHigh xs ≡ None
coded_ends xs high behind first second = ap (unquoted AtHigh) (first ∙ ap (λ t. high ∷ t) second) ∙ both (is_hex_digit high)
  where
    both : (b : Bool) → cond b (unquoted (AtLow (digit_value high)) []) None ≡ None
    both true = refl
    both false = refl

-- ---- behind `\`

pub escape_plain : (xs : List ℕ) (b : ℕ) (t : List ℕ) → xs ≡ b ∷ t → ((b == 34) || (b == 92)) ≡ true → unquoted AtEscape xs ≡ with_byte b (unquoted AtByte t)
escape_plain xs b t first is = ap (unquoted AtEscape) first ∙ cond-true _ _ _ is

pub escape_coded : (xs : List ℕ) (b : ℕ) (t : List ℕ) → xs ≡ b ∷ t → ((b == 34) || (b == 92)) ≡ false → (b == 120) ≡ true → unquoted AtEscape xs ≡ unquoted AtHigh t
escape_coded xs b t first other is = ap (unquoted AtEscape) first ∙ cond-false _ _ _ other ∙ cond-true _ _ _ is

pub escape_none : (xs : List ℕ) (b : ℕ) (t : List ℕ) → xs ≡ b ∷ t → ((b == 34) || (b == 92)) ≡ false → (b == 120) ≡ false → unquoted AtEscape xs ≡ None
escape_none xs b t first other is = ap (unquoted AtEscape) first ∙ cond-false _ _ _ other ∙ cond-false _ _ _ is

-- ---- at a byte

pub quote_within : (xs : List ℕ) (b : ℕ) (t : List ℕ) → xs ≡ b ∷ t → (b == 34) ≡ true → bytes_eq xs (34 ∷ []) ≡ false → unquoted AtByte xs ≡ None
quote_within xs b [] first is other = absurd (false≢true (sym other ∙ (bytes_decides xs (34 ∷ [])).1 (first ∙ ap (λ k. k ∷ []) (eqb-true b 34 is))))
quote_within xs b (c ∷ t) first is other = ap (unquoted AtByte) first ∙ cond-true _ _ _ is ∙ cond-false _ _ _ (not_none (length t))
  where
    not_none : (n : ℕ) → (suc n == 0) ≡ false
    not_none n = ⊎_elim (λ (e : (suc n == 0) ≡ true). let clash : suc n ≡ 0 = eqb-true (suc n) 0 e in absurd (omega arith)) (λ e. e) (cases_Bool (suc n == 0))

pub byte_escaped : (xs : List ℕ) (b : ℕ) (t : List ℕ) → xs ≡ b ∷ t → (b == 34) ≡ false → (b == 92) ≡ true → unquoted AtByte xs ≡ unquoted AtEscape t
byte_escaped xs b t first quote is = ap (unquoted AtByte) first ∙ cond-false _ _ _ quote ∙ cond-true _ _ _ is

pub byte_plain : (xs : List ℕ) (b : ℕ) (t : List ℕ) → xs ≡ b ∷ t → (b == 34) ≡ false → (b == 92) ≡ false → (nat_le 32 b && nat_le b 126) ≡ true → unquoted AtByte xs ≡ with_byte b (unquoted AtByte t)
byte_plain xs b t first quote slash is = ap (unquoted AtByte) first ∙ cond-false _ _ _ quote ∙ cond-false _ _ _ slash ∙ cond-true _ _ _ is

pub byte_none : (xs : List ℕ) (b : ℕ) (t : List ℕ) → xs ≡ b ∷ t → (b == 34) ≡ false → (b == 92) ≡ false → (nat_le 32 b && nat_le b 126) ≡ false → unquoted AtByte xs ≡ None
byte_none xs b t first quote slash is = ap (unquoted AtByte) first ∙ cond-false _ _ _ quote ∙ cond-false _ _ _ slash ∙ cond-false _ _ _ is

-- ---- all bytes

pub text_step : (done rest behind : List ℕ) (b : ℕ) (whole : Option (List ℕ)) → whole ≡ option_map (λ t. done ++ t) (unquoted AtByte rest) → unquoted AtByte rest ≡ with_byte b (unquoted AtByte behind) → whole ≡ option_map (λ t. (done ++ b ∷ []) ++ t) (unquoted AtByte behind)
text_step done rest behind b whole is step = is ∙ ap (option_map (λ t. done ++ t)) step ∙ pushed (unquoted AtByte behind)
  where
    pushed : (o : Option (List ℕ)) → option_map (λ t. done ++ t) (with_byte b o) ≡ option_map (λ t. (done ++ b ∷ []) ++ t) o
    pushed None = refl
    pushed (Some t) = ap Some (sym (append_assoc done (b ∷ []) t))

pub text_end : (done rest : List ℕ) (whole : Option (List ℕ)) → length done < 65536 → whole ≡ option_map (λ t. done ++ t) (unquoted AtByte rest) → bytes_eq rest (34 ∷ []) ≡ true → short_string whole ≡ Some done
text_end done rest whole short is last =
    ap short_string (is ∙ ap (λ t. option_map (λ u. done ++ u) (unquoted AtByte t)) ((bytes_decides rest (34 ∷ [])).0 last) ∙ ap Some (append-nil done)) ∙ cond-true _ _ _ (lt-ltb (length done) 65536 short)

pub text_none : (done rest : List ℕ) (whole : Option (List ℕ)) → whole ≡ option_map (λ t. done ++ t) (unquoted AtByte rest) → unquoted AtByte rest ≡ None → short_string whole ≡ None
text_none done rest whole is none = ap short_string (is ∙ ap (option_map (λ t. done ++ t)) none)

too_long : (o : Option (List ℕ)) → ((t : List ℕ) → o ≡ Some t → 65536 ≤ length t) → short_string o ≡ None
too_long None long = refl
too_long (Some t) long = cond-false _ _ _ (not_below (length t) 65536 (long t refl))
  where
    not_below : (a b : ℕ) → b ≤ a → nat_lt a b ≡ false
    not_below a b most = ⊎_elim (λ (is : nat_lt a b ≡ true). let no = leb-true (suc a) b is in absurd (omega arith)) (λ is. is) (cases_Bool (nat_lt a b))

pub text_long : (done rest behind : List ℕ) (b : ℕ) (whole : Option (List ℕ)) → whole ≡ option_map (λ t. done ++ t) (unquoted AtByte rest) → unquoted AtByte rest ≡ with_byte b (unquoted AtByte behind) → 65535 ≤ length done → short_string whole ≡ None
text_long done rest behind b whole is step long = ap short_string (text_step done rest behind b whole is step) ∙ too_long _ (each (unquoted AtByte behind))
  where
    each : (o : Option (List ℕ)) (t : List ℕ) → option_map (λ t. (done ++ b ∷ []) ++ t) o ≡ Some t → 65536 ≤ length t
    each None t e = absurd cc
    each (Some u) t e = let same : (done ++ b ∷ []) ++ u ≡ t = cc in omega (arith, ap length same, length-append (done ++ b ∷ []) u, length-append done (b ∷ []))

pub none_before : (o : Option (List ℕ)) → o ≡ option_map (λ t. [] ++ t) o
none_before None = refl
none_before (Some t) = refl

pub short_length : (o : Option (List ℕ)) (t : List ℕ) → short_string o ≡ Some t → (o ≡ Some t) × (length t < 65536)
short_length None t is = absurd cc
short_length (Some u) t is = ⊎_elim
    (λ (small : nat_lt (length u) 65536 ≡ true). let same : Some u ≡ Some t = sym (cond-true _ _ _ small) ∙ is in let equal : u ≡ t = cc in (same, omega (arith, leb-true (suc (length u)) 65536 small, ap length equal)))
    (λ (big : nat_lt (length u) 65536 ≡ false). let clash : None ≡ Some t = sym (cond-false _ _ _ big) ∙ is in absurd cc)
    (cases_Bool (nat_lt (length u) 65536))

pub quote_first : (text inner : List ℕ) → Some inner ≡ cond (front text == 34) (Some (drop 1 text)) None → string_in text ≡ unquoted AtByte inner
quote_first text inner is = ⊎_elim
    (λ (quote : (front text == 34) ≡ true). let same : Some inner ≡ Some (drop 1 text) = is ∙ cond-true _ _ _ quote in let equal : inner ≡ drop 1 text = cc in cond-true _ _ _ quote ∙ ap (unquoted AtByte) (sym equal))
    (λ (other : (front text == 34) ≡ false). let clash : Some inner ≡ None = is ∙ cond-false _ _ _ other in absurd cc)
    (cases_Bool (front text == 34))

pub no_quote : (text : List ℕ) → None ≡ cond (front text == 34) (Some (drop 1 text)) None → string_in text ≡ None
no_quote text is = ⊎_elim
    (λ (quote : (front text == 34) ≡ true). let some : None ≡ Some (drop 1 text) = is ∙ cond-true _ _ _ quote in absurd cc)
    (λ (other : (front text == 34) ≡ false). cond-false _ _ _ other)
    (cases_Bool (front text == 34))

pub spells_as : (xs t : List ℕ) (o : Option (ℕ × List ℕ)) → unquoted AtByte xs ≡ unquoted AtEscape t → Spells AtEscape t o → Spells AtByte xs o
spells_as xs t None same told = same ∙ told
spells_as xs t (Some found) same told = same ∙ told

pub shorter_than : {T : Type 0} (size : T → ℕ) (o : Option T) (m n : ℕ) → m < n → IfSome o (λ s. size s < m) → IfSome o (λ s. size s < n)
shorter_than size None m n more told = tt
shorter_than size (Some s) m n more told = omega arith
