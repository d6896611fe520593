-- Signs.
use Rattle.std.proofs.Common.{◌≡◌, ℕ, ◌≤◌, true, false, cond, eqb, List, [], ◌∷◌, ◌++◌, length, get_or, Option, Some, None, refl, sym, ap, ◌∙◌, ⊎_elim, arith, lit≤}
use Rattle.std.proofs.lemmas.Bool.{eqb-true, cases_Bool}
use Rattle.script_lexer.specs.declared.opening.Opening.TheVariants as opening
use Rattle.script_lexer.specs.declared.token.Token.TheVariants as token
use Rattle.script_lexer.specs.declared.piece.Piece.TheVariants as piece
use Rattle.script_lexer.specs.declared.fault.LexRule.{LexRule}
use Rattle.script_lexer.specs.declared.fault.LexRule.TheVariants as rule
use Rattle.script_lexer.specs.Rules.{BreaksFrom}
use Rattle.script_lexer.specs.Answers.{Opens, Stands, pair_at}
use Rattle.script_lexer.proofs.Standing.{stands}
use Rattle.script_lexer.specs.declared.sign.Sign.{Sign}
use Rattle.script_lexer.specs.declared.sign.Sign.TheVariants as sign
use Rattle.script_lexer.specs.Words.{sign_spelling, sign_of_byte, sign_before_equal, sign_of_bytes}

-- a sign has one byte or two, and is found by them
data Form (s : Sign) : Type 0 where
  one_byte : (b : ℕ) → sign_spelling s ≡ b ∷ [] → sign_of_byte b ≡ Some s → Form s
  two_bytes : (b c : ℕ) → sign_spelling s ≡ b ∷ c ∷ [] → sign_of_bytes b c ≡ Some s → Form s

form_of : (s : Sign) → Form s
form_of sign.OpenParen = one_byte 40 refl refl
form_of sign.CloseParen = one_byte 41 refl refl
form_of sign.OpenBracket = one_byte 91 refl refl
form_of sign.CloseBracket = one_byte 93 refl refl
form_of sign.Comma = one_byte 44 refl refl
form_of sign.Dot = one_byte 46 refl refl
form_of sign.Assign = one_byte 61 refl refl
form_of sign.Less = one_byte 60 refl refl
form_of sign.Greater = one_byte 62 refl refl
form_of sign.Plus = one_byte 43 refl refl
form_of sign.Minus = one_byte 45 refl refl
form_of sign.Star = one_byte 42 refl refl
form_of sign.Slash = one_byte 47 refl refl
form_of sign.Percent = one_byte 37 refl refl
form_of sign.Not = one_byte 33 refl refl
form_of sign.Equal = two_bytes 61 61 refl refl
form_of sign.NotEqual = two_bytes 33 61 refl refl
form_of sign.LessEqual = two_bytes 60 61 refl refl
form_of sign.GreaterEqual = two_bytes 62 61 refl refl
form_of sign.And = two_bytes 38 38 refl refl
form_of sign.Or = two_bytes 124 124 refl refl
form_of sign.PlusAssign = two_bytes 43 61 refl refl
form_of sign.MinusAssign = two_bytes 45 61 refl refl
form_of sign.StarAssign = two_bytes 42 61 refl refl
form_of sign.SlashAssign = two_bytes 47 61 refl refl
form_of sign.PercentAssign = two_bytes 37 61 refl refl

-- and what is found has these bytes
found_if : (t s : Sign) (b k : ℕ) (rest : Option Sign) → sign_spelling t ≡ k ∷ [] → (rest ≡ Some s → b ∷ [] ≡ sign_spelling s) → cond (eqb b k) (Some t) rest ≡ Some s → b ∷ [] ≡ sign_spelling s
found_if t s b k rest spelled others h =
    ⊎_elim
    (λ (yes : eqb b k ≡ true).
    let same : Some t ≡ Some s = rw yes at h in
    let is_t : t ≡ s = cc in
    ap (λ (x : ℕ). x ∷ []) (eqb-true b k yes) ∙ sym spelled ∙ ap sign_spelling is_t)
    (λ (no : eqb b k ≡ false). let later : rest ≡ Some s = rw no at h in others later)
    (cases_Bool (eqb b k))

found_pair_if : (t s : Sign) (b c k : ℕ) (rest : Option Sign) → sign_spelling t ≡ k ∷ c ∷ [] → (rest ≡ Some s → b ∷ c ∷ [] ≡ sign_spelling s) → cond (eqb b k) (Some t) rest ≡ Some s → b ∷ c ∷ [] ≡ sign_spelling s
found_pair_if t s b c k rest spelled others h =
    ⊎_elim
    (λ (yes : eqb b k ≡ true).
    let same : Some t ≡ Some s = rw yes at h in
    let is_t : t ≡ s = cc in
    ap (λ (x : ℕ). x ∷ c ∷ []) (eqb-true b k yes) ∙ sym spelled ∙ ap sign_spelling is_t)
    (λ (no : eqb b k ≡ false). let later : rest ≡ Some s = rw no at h in others later)
    (cases_Bool (eqb b k))

pub byte_found : (s : Sign) (b : ℕ) → sign_of_byte b ≡ Some s → b ∷ [] ≡ sign_spelling s
byte_found s b h =
    (found_if sign.OpenParen s b 40 _ refl
    (found_if sign.CloseParen s b 41 _ refl
    (found_if sign.OpenBracket s b 91 _ refl
    (found_if sign.CloseBracket s b 93 _ refl
    (found_if sign.Comma s b 44 _ refl
    (found_if sign.Dot s b 46 _ refl
    (found_if sign.Assign s b 61 _ refl
    (found_if sign.Less s b 60 _ refl
    (found_if sign.Greater s b 62 _ refl
    (found_if sign.Plus s b 43 _ refl
    (found_if sign.Minus s b 45 _ refl
    (found_if sign.Star s b 42 _ refl
    (found_if sign.Slash s b 47 _ refl
    (found_if sign.Percent s b 37 _ refl
    (found_if sign.Not s b 33 _ refl
    (λ (e : None ≡ Some s). absurd cc)))))))))))))))) h

equal_found : (s : Sign) (b : ℕ) → sign_before_equal b ≡ Some s → b ∷ 61 ∷ [] ≡ sign_spelling s
equal_found s b h =
    (found_pair_if sign.Equal s b 61 61 _ refl
    (found_pair_if sign.NotEqual s b 61 33 _ refl
    (found_pair_if sign.LessEqual s b 61 60 _ refl
    (found_pair_if sign.GreaterEqual s b 61 62 _ refl
    (found_pair_if sign.PlusAssign s b 61 43 _ refl
    (found_pair_if sign.MinusAssign s b 61 45 _ refl
    (found_pair_if sign.StarAssign s b 61 42 _ refl
    (found_pair_if sign.SlashAssign s b 61 47 _ refl
    (found_pair_if sign.PercentAssign s b 61 37 _ refl
    (λ (e : None ≡ Some s). absurd cc)))))))))) h

pub bytes_found : (s : Sign) (b c : ℕ) → sign_of_bytes b c ≡ Some s → b ∷ c ∷ [] ≡ sign_spelling s
bytes_found s b c h =
    ⊎_elim
    (λ (yes : eqb c 61 ≡ true).
    let equal : sign_before_equal b ≡ Some s = rw yes at h in
    ap (λ (x : ℕ). b ∷ x ∷ []) (eqb-true c 61 yes) ∙ equal_found s b equal)
    (λ (no : eqb c 61 ≡ false).
    let rest : cond (eqb b c) (cond (eqb b 38) (Some sign.And) (cond (eqb b 124) (Some sign.Or) None)) None ≡ Some s = rw no at h in
    ⊎_elim
    (λ (twice : eqb b c ≡ true).
    let either : cond (eqb b 38) (Some sign.And) (cond (eqb b 124) (Some sign.Or) None) ≡ Some s = rw twice at rest in
    let same : b ≡ c = eqb-true b c twice in
    ⊎_elim
    (λ (is_and : eqb b 38 ≡ true).
    let e : Some sign.And ≡ Some s = rw is_and at either in
    let is_s : sign.And ≡ s = cc in
    let b-is : b ≡ 38 = eqb-true b 38 is_and in
    let c-is : c ≡ 38 = sym same ∙ b-is in
    rw (b-is, c-is) (ap sign_spelling is_s))
    (λ (not_and : eqb b 38 ≡ false).
    let or : cond (eqb b 124) (Some sign.Or) None ≡ Some s = rw not_and at either in
    ⊎_elim
    (λ (is_or : eqb b 124 ≡ true).
    let e : Some sign.Or ≡ Some s = rw is_or at or in
    let is_s : sign.Or ≡ s = cc in
    let b-is : b ≡ 124 = eqb-true b 124 is_or in
    let c-is : c ≡ 124 = sym same ∙ b-is in
    rw (b-is, c-is) (ap sign_spelling is_s))
    (λ (not_or : eqb b 124 ≡ false). let e : None ≡ Some s = rw not_or at or in absurd cc)
    (cases_Bool (eqb b 124)))
    (cases_Bool (eqb b 38)))
    (λ (differ : eqb b c ≡ false). let e : None ≡ Some s = rw differ at rest in absurd cc)
    (cases_Bool (eqb b c)))
    (cases_Bool (eqb c 61))

-- two signs of one spelling are one
pub same_sign : (s t : Sign) → sign_spelling s ≡ sign_spelling t → s ≡ t
same_sign s t e = by_form s t (form_of s) (form_of t) e
  where
    by_form : (s t : Sign) → Form s → Form t → sign_spelling s ≡ sign_spelling t → s ≡ t
    by_form s t (one_byte b e f) (one_byte c g h) same = let bc : b ≡ c = cc in cc
    by_form s t (one_byte b e f) (two_bytes c d g h) same = absurd cc
    by_form s t (two_bytes b d e f) (one_byte c g h) same = absurd cc
    by_form s t (two_bytes b d e f) (two_bytes c x g h) same = let bc : b ≡ c = cc in let dx : d ≡ x = cc in cc

-- what follows the first byte of a sign
sign_tail_short : (s : Sign) (b : ℕ) (os back bs : List ℕ) → bs ≡ os ++ back → b ∷ os ≡ sign_spelling s → length os ≤ 1
sign_tail_short s b os back bs same e = by_form (form_of s)
  where
    by_form : Form s → length os ≤ 1
    by_form (one_byte c g h) = let none : os ≡ [] = cc in rw none (lit≤ tt)
    by_form (two_bytes c d g h) = let one : os ≡ d ∷ [] = cc in rw one (lit≤ tt)

no_sign_rule : (b : ℕ) (bs : List ℕ) (s : Sign) (after : List ℕ) → b ∷ bs ≡ sign_spelling s ++ after → (r : LexRule) → BreaksFrom opening.Sign r b bs → ⊥
no_sign_rule b bs s after e rule.BadByte broken = broken s after e
no_sign_rule b bs s after e rule.OpenText broken = broken
no_sign_rule b bs s after e rule.BadEscape broken = broken
no_sign_rule b bs s after e rule.FloatLiteral broken = broken
no_sign_rule b bs s after e rule.FloatWord broken = broken
no_sign_rule b bs s after e rule.NumberRange broken = broken
no_sign_rule b bs s after e rule.TextTooLong broken = broken
no_sign_rule b bs s after e rule.OpenComment broken = broken
no_sign_rule b bs s after e rule.TooLarge broken = broken

pub two_byte_sign : (rest : List ℕ) (s : Sign) → Opens opening.Sign rest → pair_at rest ≡ Some s → Stands rest (piece.Token (token.Sign s)) 2
two_byte_sign [] s opens h = absurd opens
two_byte_sign (b ∷ []) s opens h = absurd cc
two_byte_sign (b ∷ c ∷ bs) s opens h =
    stands opening.Sign b (c ∷ bs) (piece.Token (token.Sign s)) 1 2 refl (omega arith) opens
    (s, bytes_found s b c h, refl)
    (λ os back q same w. sign_tail_short w.0 b os back (c ∷ bs) same w.1)
    (no_sign_rule b (c ∷ bs) s bs (ap (λ (t : List ℕ). t ++ bs) (bytes_found s b c h)))

pair_at-of : (b : ℕ) (bs : List ℕ) (y : ℕ) (after : List ℕ) → bs ≡ y ∷ after → pair_at (b ∷ bs) ≡ sign_of_bytes b y
pair_at-of b bs y after e = ap (λ (t : List ℕ). pair_at (b ∷ t)) e

one_byte_most : (b : ℕ) (bs os back : List ℕ) (s : Sign) → pair_at (b ∷ bs) ≡ None → bs ≡ os ++ back → b ∷ os ≡ sign_spelling s → length os ≤ 0
one_byte_most b bs [] back s none same e = omega arith
one_byte_most b bs (c ∷ os) back s none same e = by_form (form_of s)
  where
    by_form : Form s → length (c ∷ os) ≤ 0
    by_form (one_byte x g h) = absurd cc
    by_form (two_bytes x y g h) =
        let first : b ≡ x = cc in
        let second : c ≡ y = cc in
        let there : pair_at (b ∷ bs) ≡ Some s = pair_at-of b bs c (os ++ back) same ∙ ap (λ (n : ℕ). sign_of_bytes b n) second ∙ ap (λ (n : ℕ). sign_of_bytes n y) first ∙ h in
        let no : None ≡ Some s = sym none ∙ there in
        absurd cc

pub one_byte_sign : (rest : List ℕ) (s : Sign) → Opens opening.Sign rest → pair_at rest ≡ None → sign_of_byte (get_or rest 0 0) ≡ Some s → Stands rest (piece.Token (token.Sign s)) 1
one_byte_sign [] s opens none h = absurd opens
one_byte_sign (b ∷ bs) s opens none h =
    stands opening.Sign b bs (piece.Token (token.Sign s)) 0 1 refl (omega arith) opens
    (s, byte_found s b h, refl)
    (λ os back q same w. one_byte_most b bs os back w.0 none same w.1)
    (no_sign_rule b bs s bs (ap (λ (t : List ℕ). t ++ bs) (byte_found s b h)))
