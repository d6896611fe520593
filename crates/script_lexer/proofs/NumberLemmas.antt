-- Numbers.
use Rattle.std.proofs.Common.{◌≡◌, ℕ, suc, ◌+◌, ◌<◌, ◌≤◌, ◌^◌, Bool, true, false, List, [], ◌∷◌, ◌++◌, length, take, drop, refl, sym, ap, subst, ◌∙◌, ⊎_elim, one-add, arith, lit≤}
use Rattle.std.specs.Prelude.{◌⊎◌}
use Rattle.std.specs.List.{prefix_len}
use Rattle.std.proofs.lemmas.Bool.{eqb-true, cases_Bool, and_parts}
use Rattle.std.proofs.lemmas.List.{take-append-drop, take-take}
use Rattle.std.proofs.lemmas.List.Sums.{prefix_len-le-length}
use Rattle.script_lexer.specs.declared.opening.Opening.TheVariants as opening
use Rattle.script_lexer.specs.declared.token.Token.TheVariants as token
use Rattle.script_lexer.specs.declared.piece.Piece.TheVariants as piece
use Rattle.script_lexer.specs.declared.fault.LexRule.{LexRule}
use Rattle.script_lexer.specs.declared.fault.LexRule.TheVariants as rule
use Rattle.script_lexer.specs.Rules.{rule_number, BreaksFrom, BeginsWith}
use Rattle.script_lexer.specs.Answers.{Opens, Stands, IsLowest}
use Rattle.script_lexer.proofs.Standing.{stands, lowest}
use Rattle.std.specs.Char.{is_ascii_digit, is_ascii_hexdigit}
use Rattle.std.specs.Int.{w32, cast_signed}
use Rattle.std.specs.Str.Parse.{digits_value}
use Rattle.std.proofs.lemmas.Int.{to_z_pos}
use Rattle.std.specs.Prelude.{ℤ, pos}
use Rattle.script_lexer.specs.Bytes.{opening_of, is_word_start}
use Rattle.script_lexer.specs.Pieces.{Numeral, numeral, is_hexadecimal, int_of}
use Rattle.script_lexer.specs.Rules.{IsFraction}
use Rattle.script_lexer.specs.Answers.{is_hexadecimal_at}
use Rattle.script_lexer.proofs.Runs.{whole_run, run_of_take, behind_front}

pub hex_numeral : (b : ℕ) (bs : List ℕ) → is_hexadecimal b bs ≡ true
    → numeral b bs ≡ record { base = 16; digits = take (prefix_len is_ascii_hexdigit (drop 1 bs)) (drop 1 bs); after = drop (prefix_len is_ascii_hexdigit (drop 1 bs)) (drop 1 bs) }
hex_numeral b bs e = rw e refl

pub dec_numeral : (b : ℕ) (bs : List ℕ) → is_hexadecimal b bs ≡ false
    → numeral b bs ≡ record { base = 10; digits = b ∷ take (prefix_len is_ascii_digit bs) bs; after = drop (prefix_len is_ascii_digit bs) bs }
dec_numeral b bs e = rw e refl

-- the front that passes, taken twice
front_front : (p : ℕ → Bool) (bs : List ℕ) → take (prefix_len p (take (prefix_len p bs) bs)) (take (prefix_len p bs) bs) ≡ take (prefix_len p bs) bs
front_front p bs = rw (run_of_take p bs (prefix_len p bs) (omega arith)) (take-take (prefix_len p bs) (prefix_len p bs) bs (omega arith))

-- a hexadecimal number's first bytes decide
hexadecimal-append : (b : ℕ) (os back : List ℕ) → is_hexadecimal b os ≡ true → is_hexadecimal b (os ++ back) ≡ true
hexadecimal-append b [] back e = absurd cc
hexadecimal-append b (x ∷ []) back e = absurd cc
hexadecimal-append b (x ∷ h ∷ os) back e = e

pub hex_letter : (b x : ℕ) (hs : List ℕ) → is_hexadecimal b (x ∷ hs) ≡ true → x ≡ 120
hex_letter b x [] e = absurd cc
hex_letter b x (h ∷ hs) e = eqb-true x 120 (and_parts _ _ (and_parts _ _ e).1).0

hex_take : (b x : ℕ) (hs : List ℕ) → is_hexadecimal b (x ∷ hs) ≡ true → is_hexadecimal b (x ∷ take (prefix_len is_ascii_hexdigit hs) hs) ≡ true
hex_take b x [] e = absurd cc
hex_take b x (h ∷ hs) e =
    let digit : is_ascii_hexdigit h ≡ true = (and_parts _ _ (and_parts _ _ e).1).1 in
    let run : prefix_len is_ascii_hexdigit (h ∷ hs) ≡ suc (prefix_len is_ascii_hexdigit hs) = rw (digit, one-add) refl in
    rw run e

-- a decimal front of a hexadecimal number is its 0 alone
decimal_front_of_hex : (b x : ℕ) (os : List ℕ) → x ≡ 120 → drop (prefix_len is_ascii_digit (x ∷ os)) (x ∷ os) ≡ [] → ⊥
decimal_front_of_hex b x os is_x h =
    let none : is_ascii_digit x ≡ false = rw is_x refl in
    let whole : x ∷ os ≡ [] = rw none at h in
    absurd cc

hex_most : (b x : ℕ) (hs os back : List ℕ) → is_hexadecimal b (x ∷ hs) ≡ true → x ∷ hs ≡ os ++ back → (numeral b os).after ≡ [] → length os ≤ suc (prefix_len is_ascii_hexdigit hs)
hex_most b x hs [] back hex same h = omega arith
hex_most b x hs (y ∷ os) back hex same h =
    let tail : hs ≡ os ++ back = cc in
    let letter : y ≡ 120 = let e : y ≡ x = cc in e ∙ hex_letter b x hs hex in
    ⊎_elim
    (λ (yes : is_hexadecimal b (y ∷ os) ≡ true).
    let after : drop (prefix_len is_ascii_hexdigit os) os ≡ [] = ap (λ (n : Numeral). n.after) (sym (hex_numeral b (y ∷ os) yes)) ∙ h in
    let le : length os ≤ prefix_len is_ascii_hexdigit (os ++ back) = whole_run is_ascii_hexdigit os back after in
    let le' : length os ≤ prefix_len is_ascii_hexdigit hs = rw tail le in
    omega arith)
    (λ (no : is_hexadecimal b (y ∷ os) ≡ false).
    absurd (decimal_front_of_hex b y os letter (ap (λ (n : Numeral). n.after) (sym (dec_numeral b (y ∷ os) no)) ∙ h)))
    (cases_Bool (is_hexadecimal b (y ∷ os)))

abbrev numeral_base : Numeral → ℕ
numeral_base n = n.base

no_hex_rule : (b : ℕ) (bs : List ℕ) → is_hexadecimal b bs ≡ true → digits_value 16 (take (prefix_len is_ascii_hexdigit (drop 1 bs)) (drop 1 bs)) ≤ 0xFFFFFFFF → (BeginsWith is_word_start (drop (prefix_len is_ascii_hexdigit (drop 1 bs)) (drop 1 bs)) → ⊥) → (r : LexRule) → BreaksFrom opening.Number r b bs → ⊥
no_hex_rule b bs hex small no_word rule.BadByte broken = broken
no_hex_rule b bs hex small no_word rule.OpenText broken = broken
no_hex_rule b bs hex small no_word rule.BadEscape broken = broken
no_hex_rule b bs hex small no_word rule.FloatLiteral broken = let e : 16 ≡ numeral_base (numeral b bs) = rw hex refl in absurd (omega (arith, e, broken.0))
no_hex_rule b bs hex small no_word rule.FloatWord broken = broken
no_hex_rule b bs hex small no_word rule.NumberRange broken = let h = rw hex at broken in ⊎_elim (λ lt. absurd (omega arith)) no_word h
no_hex_rule b bs hex small no_word rule.TextTooLong broken = broken
no_hex_rule b bs hex small no_word rule.OpenComment broken = broken
no_hex_rule b bs hex small no_word rule.TooLarge broken = broken

hex_at : (b x : ℕ) (hs : List ℕ) → opening_of b ≡ opening.Number → is_hexadecimal b (x ∷ hs) ≡ true → digits_value 16 (take (prefix_len is_ascii_hexdigit hs) hs) ≤ 0xFFFFFFFF
    → (BeginsWith is_word_start (drop (prefix_len is_ascii_hexdigit hs) hs) → ⊥)
    → Stands (b ∷ x ∷ hs) (piece.Token (token.Int (cast_signed w32 (digits_value 16 (take (prefix_len is_ascii_hexdigit hs) hs))))) (prefix_len is_ascii_hexdigit hs + 2)
hex_at b x hs opens hex small no_word =
    let k = prefix_len is_ascii_hexdigit hs in
    let whole = hex_numeral b (x ∷ take k hs) (hex_take b x hs hex) in
    stands opening.Number b (x ∷ hs) _ (suc k) (k + 2) (omega arith) (omega (arith, prefix_len-le-length is_ascii_hexdigit hs)) opens (
      ap (λ (n : Numeral). n.after) whole ∙ behind_front is_ascii_hexdigit hs,
      sym (ap (λ (n : Numeral). piece.Token (token.Int (int_of n))) whole ∙ ap (λ (t : List ℕ). piece.Token (token.Int (cast_signed w32 (digits_value 16 t)))) (front_front is_ascii_hexdigit hs)),
    )
    (λ os back q same h. hex_most b x hs os back hex same h.0)
    (no_hex_rule b (x ∷ hs) hex small no_word)

pub hexadecimal_stands : (rest behind digits after : List ℕ) (k n : ℕ) → Opens opening.Number rest → is_hexadecimal_at rest ≡ true → behind ≡ drop 2 rest → k ≡ prefix_len is_ascii_hexdigit behind → digits ≡ take k behind → after ≡ drop k behind
    → n ≡ digits_value 16 digits → n < 2 ^ 32 → (BeginsWith is_word_start after → ⊥) → Stands rest (piece.Token (token.Int (cast_signed w32 n))) (k + 2)
hexadecimal_stands [] behind digits after k n opens hex is_behind run ds rest_is value small no_word = absurd opens
hexadecimal_stands (b ∷ []) behind digits after k n opens hex is_behind run ds rest_is value small no_word = absurd cc
hexadecimal_stands (b ∷ x ∷ hs) behind digits after k n opens hex is_behind run ds rest_is value small no_word =
    let r : k ≡ prefix_len is_ascii_hexdigit hs = run ∙ ap (prefix_len is_ascii_hexdigit) is_behind in
    let d : digits ≡ take (prefix_len is_ascii_hexdigit hs) hs = cc in
    let a : after ≡ drop (prefix_len is_ascii_hexdigit hs) hs = cc in
    let v : n ≡ digits_value 16 (take (prefix_len is_ascii_hexdigit hs) hs) = value ∙ ap (digits_value 16) d in
    subst (λ (m : ℕ). Stands (b ∷ x ∷ hs) (piece.Token (token.Int (cast_signed w32 m))) (k + 2)) (sym v)
    (subst (λ (m : ℕ). Stands (b ∷ x ∷ hs) (piece.Token (token.Int (cast_signed w32 (digits_value 16 (take (prefix_len is_ascii_hexdigit hs) hs))))) (m + 2)) (sym r)
    (hex_at b x hs opens hex (omega arith) (subst (λ (t : List ℕ). BeginsWith is_word_start t → ⊥) a no_word)))

-- ---- decimal

dec_take : (b : ℕ) (bs : List ℕ) → is_hexadecimal b bs ≡ false → (k : ℕ) → is_hexadecimal b (take k bs) ≡ false
dec_take b bs dec k = ⊎_elim
    (λ (yes : is_hexadecimal b (take k bs) ≡ true).
    let whole : is_hexadecimal b (take k bs ++ drop k bs) ≡ true = hexadecimal-append b (take k bs) (drop k bs) yes in
    let e : is_hexadecimal b bs ≡ true = rw take-append-drop at whole in
    absurd cc)
    (λ no. no)
    (cases_Bool (is_hexadecimal b (take k bs)))

dec_most : (b : ℕ) (bs os back : List ℕ) → is_hexadecimal b bs ≡ false → bs ≡ os ++ back → (numeral b os).after ≡ [] → length os ≤ prefix_len is_ascii_digit bs
dec_most b bs os back dec same h =
    ⊎_elim
    (λ (yes : is_hexadecimal b os ≡ true). let e : is_hexadecimal b bs ≡ true = ap (is_hexadecimal b) same ∙ hexadecimal-append b os back yes in absurd cc)
    (λ (no : is_hexadecimal b os ≡ false).
    let after : drop (prefix_len is_ascii_digit os) os ≡ [] = ap (λ (n : Numeral). n.after) (sym (dec_numeral b os no)) ∙ h in
    let le : length os ≤ prefix_len is_ascii_digit (os ++ back) = whole_run is_ascii_digit os back after in
    rw same le)
    (cases_Bool (is_hexadecimal b os))

no_dec_rule : (b : ℕ) (bs : List ℕ) → is_hexadecimal b bs ≡ false → digits_value 10 (b ∷ take (prefix_len is_ascii_digit bs) bs) ≤ 2147483647 → (IsFraction (drop (prefix_len is_ascii_digit bs) bs) → ⊥) → (BeginsWith is_word_start (drop (prefix_len is_ascii_digit bs) bs) → ⊥) → (r : LexRule) → BreaksFrom opening.Number r b bs → ⊥
no_dec_rule b bs dec small no_fraction no_word rule.BadByte broken = broken
no_dec_rule b bs dec small no_fraction no_word rule.OpenText broken = broken
no_dec_rule b bs dec small no_fraction no_word rule.BadEscape broken = broken
no_dec_rule b bs dec small no_fraction no_word rule.FloatLiteral broken = let h = rw dec at broken.1 in no_fraction h
no_dec_rule b bs dec small no_fraction no_word rule.FloatWord broken = broken
no_dec_rule b bs dec small no_fraction no_word rule.NumberRange broken = let h = rw dec at broken in ⊎_elim (λ lt. absurd (omega arith)) no_word h
no_dec_rule b bs dec small no_fraction no_word rule.TextTooLong broken = broken
no_dec_rule b bs dec small no_fraction no_word rule.OpenComment broken = broken
no_dec_rule b bs dec small no_fraction no_word rule.TooLarge broken = broken

dec_at : (b : ℕ) (bs : List ℕ) → opening_of b ≡ opening.Number → is_hexadecimal b bs ≡ false → digits_value 10 (b ∷ take (prefix_len is_ascii_digit bs) bs) ≤ 2147483647
    → (IsFraction (drop (prefix_len is_ascii_digit bs) bs) → ⊥) → (BeginsWith is_word_start (drop (prefix_len is_ascii_digit bs) bs) → ⊥)
    → Stands (b ∷ bs) (piece.Token (token.Int (pos (digits_value 10 (b ∷ take (prefix_len is_ascii_digit bs) bs))))) (1 + prefix_len is_ascii_digit bs)
dec_at b bs opens dec small no_fraction no_word =
    let k = prefix_len is_ascii_digit bs in
    let whole = dec_numeral b (take k bs) (dec_take b bs dec k) in
    stands opening.Number b bs _ k (1 + k) (omega arith) (prefix_len-le-length is_ascii_digit bs) opens (
      ap (λ (n : Numeral). n.after) whole ∙ behind_front is_ascii_digit bs,
      sym (ap (λ (n : Numeral). piece.Token (token.Int (int_of n))) whole ∙ ap (λ (t : List ℕ). piece.Token (token.Int (pos (digits_value 10 (b ∷ t))))) (front_front is_ascii_digit bs)),
    )
    (λ os back q same h. dec_most b bs os back dec same h.0)
    (no_dec_rule b bs dec small no_fraction no_word)

digits_are : (b : ℕ) (bs digits : List ℕ) (k : ℕ) → digits ≡ take (1 + k) (b ∷ bs) → digits ≡ b ∷ take k bs
digits_are b bs digits k e = e ∙ rw one-add refl

after_is : (b : ℕ) (bs after : List ℕ) (k : ℕ) → after ≡ drop (1 + k) (b ∷ bs) → after ≡ drop k bs
after_is b bs after k e = e ∙ rw one-add refl

pub decimal_stands : (rest behind digits after : List ℕ) (k n : ℕ) → Opens opening.Number rest → is_hexadecimal_at rest ≡ false → behind ≡ drop 1 rest → k ≡ prefix_len is_ascii_digit behind → digits ≡ take (1 + k) rest → after ≡ drop (1 + k) rest
    → n ≡ digits_value 10 digits → n ≤ 2147483647 → (IsFraction after → ⊥) → (BeginsWith is_word_start after → ⊥) → Stands rest (piece.Token (token.Int (cast_signed w32 n))) (1 + k)
decimal_stands [] behind digits after k n opens dec is_behind run ds rest_is value small no_fraction no_word = absurd opens
decimal_stands (b ∷ bs) behind digits after k n opens dec is_behind run ds rest_is value small no_fraction no_word =
    let r : k ≡ prefix_len is_ascii_digit bs = run ∙ ap (prefix_len is_ascii_digit) is_behind in
    let d : digits ≡ b ∷ take (prefix_len is_ascii_digit bs) bs = digits_are b bs digits k ds ∙ ap (λ (m : ℕ). b ∷ take m bs) r in
    let a : after ≡ drop (prefix_len is_ascii_digit bs) bs = after_is b bs after k rest_is ∙ ap (λ (m : ℕ). drop m bs) r in
    let v : n ≡ digits_value 10 (b ∷ take (prefix_len is_ascii_digit bs) bs) = value ∙ ap (digits_value 10) d in
    let z : cast_signed w32 n ≡ pos (digits_value 10 (b ∷ take (prefix_len is_ascii_digit bs) bs)) = to_z_pos w32 n (omega arith) ∙ ap pos v in
    subst (λ (m : ℤ). Stands (b ∷ bs) (piece.Token (token.Int m)) (1 + k)) (sym z)
    (subst (λ (m : ℕ). Stands (b ∷ bs) (piece.Token (token.Int (pos (digits_value 10 (b ∷ take (prefix_len is_ascii_digit bs) bs))))) (1 + m)) (sym r)
    (dec_at b bs opens dec (omega arith) (subst (λ (t : List ℕ). IsFraction t → ⊥) a no_fraction) (subst (λ (t : List ℕ). BeginsWith is_word_start t → ⊥) a no_word)))

dec_least : (b : ℕ) (bs : List ℕ) → is_hexadecimal b bs ≡ false → (IsFraction (drop (prefix_len is_ascii_digit bs) bs) → ⊥) → (r : LexRule) → BreaksFrom opening.Number r b bs → 6 ≤ rule_number r
dec_least b bs dec no_fraction rule.BadByte broken = absurd broken
dec_least b bs dec no_fraction rule.OpenText broken = absurd broken
dec_least b bs dec no_fraction rule.BadEscape broken = absurd broken
dec_least b bs dec no_fraction rule.FloatLiteral broken = absurd (let h = rw dec at broken.1 in no_fraction h)
dec_least b bs dec no_fraction rule.FloatWord broken = absurd broken
dec_least b bs dec no_fraction rule.NumberRange broken = lit≤ tt
dec_least b bs dec no_fraction rule.TextTooLong broken = lit≤ tt
dec_least b bs dec no_fraction rule.OpenComment broken = lit≤ tt
dec_least b bs dec no_fraction rule.TooLarge broken = lit≤ tt

pub decimal_refused : (rest behind digits after : List ℕ) (k : ℕ) → Opens opening.Number rest → is_hexadecimal_at rest ≡ false → behind ≡ drop 1 rest → k ≡ prefix_len is_ascii_digit behind → digits ≡ take (1 + k) rest → after ≡ drop (1 + k) rest
    → (IsFraction after → ⊥) → (2147483647 < digits_value 10 digits) ⊎ BeginsWith is_word_start after → IsLowest rest rule.NumberRange
decimal_refused [] behind digits after k opens dec is_behind run ds rest_is no_fraction bad = absurd opens
decimal_refused (b ∷ bs) behind digits after k opens dec is_behind run ds rest_is no_fraction bad =
    let r : k ≡ prefix_len is_ascii_digit bs = run ∙ ap (prefix_len is_ascii_digit) is_behind in
    let d : b ∷ take (prefix_len is_ascii_digit bs) bs ≡ digits = sym (digits_are b bs digits k ds ∙ ap (λ (m : ℕ). b ∷ take m bs) r) in
    let a : drop (prefix_len is_ascii_digit bs) bs ≡ after = sym (after_is b bs after k rest_is ∙ ap (λ (m : ℕ). drop m bs) r) in
    lowest opening.Number b bs rule.NumberRange opens
    (rw (dec, d, a) bad)
    (dec_least b bs dec (subst (λ (t : List ℕ). IsFraction t → ⊥) (sym a) no_fraction))
