-- What breaks a rule at a place where a piece begins.
use Rattle.std.specs.Prelude.{◌≡◌, ℕ, ◌+◌, ◌<◌, Bool, false, List, [], ◌∷◌, ◌++◌, length, None, ◌⊎◌, IsTrue, ◌==◌, if◌then◌else◌}
use Rattle.std.specs.List.{prefix_len}
use Rattle.std.specs.Char.{is_ascii_digit}
use Rattle.papy_base.specs.Case.{folded}
use Rattle.script_lexer.specs.declared.opening.Opening.{Opening}
use Rattle.script_lexer.specs.declared.opening.Opening.TheVariants as opening
use Rattle.script_lexer.specs.declared.keyword.Keyword.TheVariants as keyword
use Rattle.script_lexer.specs.declared.sign.Sign.{Sign}
use Rattle.script_lexer.specs.declared.quoted.TextItem.{TextItem}
use Rattle.script_lexer.specs.declared.fault.LexRule.{LexRule}
use Rattle.script_lexer.specs.declared.fault.LexRule.TheVariants as rule
use Rattle.script_lexer.specs.Words.{keyword_spelling, sign_spelling}
use Rattle.script_lexer.specs.Bytes.{opening_of, is_blank, is_documentation_byte, is_word_start, is_word_byte, front, behind}
use Rattle.script_lexer.specs.Pieces.{numeral, magnitude, behind_close, AreItems, are_good, items_bytes}

abbrev pub rule_number : LexRule → ℕ
rule_number rule.BadByte = 1
rule_number rule.OpenText = 2
rule_number rule.BadEscape = 3
rule_number rule.FloatLiteral = 4
rule_number rule.FloatWord = 5
rule_number rule.NumberRange = 6
rule_number rule.TextTooLong = 7
rule_number rule.OpenComment = 8
rule_number rule.TooLarge = 9

-- the first byte passes
abbrev pub BeginsWith : (ℕ → Bool) → List ℕ → Type 0
BeginsWith test [] = ⊥
BeginsWith test (b ∷ bytes) = IsTrue (test b)

-- a line end or the file's end stands here, perhaps behind a backslash
abbrev pub IsUnclosed : List ℕ → Type 0
IsUnclosed [] = Unit {0}
IsUnclosed (b ∷ []) = (b ≡ 10) ⊎ (b ≡ 92)
IsUnclosed (b ∷ c ∷ bytes) = (b ≡ 10) ⊎ ((b ≡ 92) × (c ≡ 10))

-- a point and a digit
abbrev pub IsFraction : List ℕ → Type 0
IsFraction [] = ⊥
IsFraction (b ∷ bytes) = (b ≡ 46) × BeginsWith is_ascii_digit bytes

-- the greatest number that may be written in a base
abbrev pub limit_of : ℕ → ℕ
limit_of base = if base == 16 then 0xFFFFFFFF else 2147483647

-- `;/` without `/;`
abbrev pub IsOpenComment : List ℕ → Type 0
IsOpenComment [] = ⊥
IsOpenComment (b ∷ bytes) = (b ≡ 47) × (behind_close bytes ≡ None)

-- b opened a piece, and the bytes behind it break the rule
abbrev pub BreaksFrom : Opening → LexRule → ℕ → List ℕ → Type 0
BreaksFrom opening.Nothing rule.BadByte b bytes = Unit {0}
BreaksFrom opening.Join rule.BadByte b bytes = BeginsWith (λ c. c == 10) (behind is_blank bytes) → ⊥
BreaksFrom opening.Sign rule.BadByte b bytes = (s : Sign) (after : List ℕ) → b ∷ bytes ≡ sign_spelling s ++ after → ⊥
BreaksFrom opening.Quote rule.OpenText b bytes =
    (items : List TextItem) × (after : List ℕ) × AreItems items × (bytes ≡ items_bytes items ++ after) × IsUnclosed after
BreaksFrom opening.Quote rule.BadEscape b bytes =
    (items : List TextItem) × (after : List ℕ) × AreItems items × (bytes ≡ items_bytes items ++ 34 ∷ after) × (are_good items ≡ false)
BreaksFrom opening.Quote rule.TextTooLong b bytes =
    (items : List TextItem) × (after : List ℕ) × AreItems items × (bytes ≡ items_bytes items ++ 34 ∷ after) × (1024 < length items)
BreaksFrom opening.Number rule.FloatLiteral b bytes = ((numeral b bytes).base ≡ 10) × IsFraction (numeral b bytes).after
BreaksFrom opening.Number rule.NumberRange b bytes =
    (limit_of (numeral b bytes).base < magnitude (numeral b bytes)) ⊎ BeginsWith is_word_start (numeral b bytes).after
BreaksFrom opening.Word rule.FloatWord b bytes = folded (b ∷ front is_word_byte bytes) ≡ keyword_spelling keyword.Float
BreaksFrom opening.Word rule.TextTooLong b bytes = 255 < 1 + prefix_len is_word_byte bytes
BreaksFrom opening.Documentation rule.TextTooLong b bytes = 65535 < prefix_len is_documentation_byte bytes
BreaksFrom opening.Documentation rule.OpenComment b bytes = behind is_documentation_byte bytes ≡ []
BreaksFrom opening.Comment rule.OpenComment b bytes = IsOpenComment bytes
-- no other rule is broken where a piece begins
BreaksFrom _ _ b bytes = ⊥

-- the rule is broken at a place, where these bytes stand
abbrev pub Breaks : LexRule → List ℕ → Type 0
Breaks r [] = ⊥
Breaks r (b ∷ bytes) = BreaksFrom (opening_of b) r b bytes
