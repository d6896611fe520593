-- Words.
use Rattle.std.proofs.Common.{◌≡◌, ℕ, ◌+◌, ◌<◌, ◌≤◌, List, [], ◌∷◌, ◌++◌, length, take, drop, refl, sym, ap, subst, ◌∙◌, one-add, arith, lit≤}
use Rattle.std.specs.List.{prefix_len}
use Rattle.std.proofs.lemmas.List.{length-take, length-map}
use Rattle.std.proofs.lemmas.List.Sums.{prefix_len-le-length}
use Rattle.script_lexer.specs.declared.opening.Opening.TheVariants as opening
use Rattle.script_lexer.specs.declared.token.Token.{Token}
use Rattle.script_lexer.specs.declared.piece.Piece.TheVariants as piece
use Rattle.script_lexer.specs.declared.fault.LexRule.{LexRule}
use Rattle.script_lexer.specs.declared.fault.LexRule.TheVariants as rule
use Rattle.script_lexer.specs.Rules.{rule_number, BreaksFrom}
use Rattle.script_lexer.specs.Answers.{Opens, Stands, IsLowest}
use Rattle.script_lexer.proofs.Standing.{stands, lowest}
use Rattle.papy_base.specs.Case.{folded}
use Rattle.script_lexer.specs.declared.keyword.Keyword.TheVariants as keyword
use Rattle.script_lexer.specs.Words.{keyword_spelling}
use Rattle.script_lexer.specs.Bytes.{opening_of, is_word_byte}
use Rattle.script_lexer.specs.Pieces.{IsWord}
use Rattle.script_lexer.proofs.Runs.{whole_run, behind_front}

no_word_rule : (b : ℕ) (bs : List ℕ) → (folded (b ∷ take (prefix_len is_word_byte bs) bs) ≡ keyword_spelling keyword.Float → ⊥) → 1 + prefix_len is_word_byte bs ≤ 255 → (r : LexRule) → BreaksFrom opening.Word r b bs → ⊥
no_word_rule b bs not_float short rule.BadByte broken = broken
no_word_rule b bs not_float short rule.OpenText broken = broken
no_word_rule b bs not_float short rule.BadEscape broken = broken
no_word_rule b bs not_float short rule.FloatLiteral broken = broken
no_word_rule b bs not_float short rule.FloatWord broken = not_float broken
no_word_rule b bs not_float short rule.NumberRange broken = broken
no_word_rule b bs not_float short rule.TextTooLong broken = absurd (omega arith)
no_word_rule b bs not_float short rule.OpenComment broken = broken
no_word_rule b bs not_float short rule.TooLarge broken = broken

-- the bytes of the word
word_is : (b : ℕ) (bs word : List ℕ) (k : ℕ) → word ≡ take (1 + k) (b ∷ bs) → word ≡ b ∷ take k bs
word_is b bs word k e = e ∙ rw one-add refl

word_at : (b : ℕ) (bs : List ℕ) (t : Token) → opening_of b ≡ opening.Word → 1 + prefix_len is_word_byte bs ≤ 255
    → IsWord (b ∷ take (prefix_len is_word_byte bs) bs) t → (folded (b ∷ take (prefix_len is_word_byte bs) bs) ≡ keyword_spelling keyword.Float → ⊥) → Stands (b ∷ bs) (piece.Token t) (1 + prefix_len is_word_byte bs)
word_at b bs t opens short is_word not_float =
    let n = prefix_len is_word_byte bs in
    stands opening.Word b bs (piece.Token t) n (1 + n) (omega arith) (prefix_len-le-length is_word_byte bs) opens
    (behind_front is_word_byte bs, (t, is_word, refl))
    (λ os back q e h. let le : length os ≤ prefix_len is_word_byte (os ++ back) = whole_run is_word_byte os back h.0 in rw e le)
    (no_word_rule b bs not_float short)

pub word_stands : (rest behind word : List ℕ) (k : ℕ) (t : Token) → Opens opening.Word rest → behind ≡ drop 1 rest → k ≡ prefix_len is_word_byte behind → 1 + k ≤ 255 → word ≡ take (1 + k) rest
    → IsWord word t → (folded word ≡ keyword_spelling keyword.Float → ⊥) → Stands rest (piece.Token t) (1 + k)
word_stands [] behind word k t opens is_behind run short is_word h not_float = absurd opens
word_stands (b ∷ bs) behind word k t opens is_behind run short is_word h not_float =
    let r : k ≡ prefix_len is_word_byte bs = run ∙ ap (prefix_len is_word_byte) is_behind in
    let w : word ≡ b ∷ take (prefix_len is_word_byte bs) bs = word_is b bs word k is_word ∙ ap (λ (n : ℕ). b ∷ take n bs) r in
    subst (λ (n : ℕ). Stands (b ∷ bs) (piece.Token t) (1 + n)) (sym r)
    (word_at b bs t opens (omega arith) (subst (λ (x : List ℕ). IsWord x t) w h) (subst (λ (x : List ℕ). folded x ≡ keyword_spelling keyword.Float → ⊥) w not_float))

float_is_short : (b : ℕ) (bs : List ℕ) → folded (b ∷ take (prefix_len is_word_byte bs) bs) ≡ keyword_spelling keyword.Float → 1 + prefix_len is_word_byte bs ≤ 5
float_is_short b bs e =
    let n = prefix_len is_word_byte bs in
    let len : length (folded (b ∷ take n bs)) ≡ 5 = ap length e in
    let same : length (folded (b ∷ take n bs)) ≡ length (b ∷ take n bs) = length-map (b ∷ take n bs) _ in
    omega (arith, length-take n bs, prefix_len-le-length is_word_byte bs)

word_least_long : (b : ℕ) (bs : List ℕ) → 255 < 1 + prefix_len is_word_byte bs → (r : LexRule) → BreaksFrom opening.Word r b bs → 7 ≤ rule_number r
word_least_long b bs long rule.BadByte broken = absurd broken
word_least_long b bs long rule.OpenText broken = absurd broken
word_least_long b bs long rule.BadEscape broken = absurd broken
word_least_long b bs long rule.FloatLiteral broken = absurd broken
word_least_long b bs long rule.FloatWord broken = absurd (omega (arith, float_is_short b bs broken))
word_least_long b bs long rule.NumberRange broken = absurd broken
word_least_long b bs long rule.TextTooLong broken = lit≤ tt
word_least_long b bs long rule.OpenComment broken = lit≤ tt
word_least_long b bs long rule.TooLarge broken = lit≤ tt

pub word_too_long : (rest behind : List ℕ) (k : ℕ) → Opens opening.Word rest → behind ≡ drop 1 rest → k ≡ prefix_len is_word_byte behind → 255 < 1 + k → IsLowest rest rule.TextTooLong
word_too_long [] behind k opens is_behind run long = absurd opens
word_too_long (b ∷ bs) behind k opens is_behind run long =
    let r : k ≡ prefix_len is_word_byte bs = run ∙ ap (prefix_len is_word_byte) is_behind in
    let long' : 255 < 1 + prefix_len is_word_byte bs = omega arith in
    lowest opening.Word b bs rule.TextTooLong opens long' (word_least_long b bs long')
