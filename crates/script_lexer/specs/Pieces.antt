-- The pieces of a script: blanks, joins, comments, line ends and tokens, and how each is spelled.
use Rattle.std.specs.Prelude.{◌≡◌, ◌≢◌, ℕ, ◌≤◌, ℤ, pos, Bool, true, false, List, [], ◌∷◌, ◌++◌, length, drop, map, Option, Some, None, ◌⊎◌, ◌==◌, ◌&&◌, ◌||◌, MatchBool, if◌then◌else◌}
use Rattle.std.specs.List.{flat_map, list_all, AllByRecursion}
use Rattle.std.specs.Char.{is_ascii_digit, is_ascii_hexdigit}
use Rattle.std.specs.Int.{w32, cast_signed}
use Rattle.std.specs.Str.Parse.{digits_value}
use Rattle.papy_base.specs.Case.{folded}
use Rattle.script_lexer.specs.declared.opening.Opening.{Opening}
use Rattle.script_lexer.specs.declared.opening.Opening.TheVariants as opening
use Rattle.script_lexer.specs.declared.keyword.Keyword.{Keyword}
use Rattle.script_lexer.specs.declared.sign.Sign.{Sign}
use Rattle.script_lexer.specs.declared.token.Token.{Token}
use Rattle.script_lexer.specs.declared.token.Token.TheVariants as token
use Rattle.script_lexer.specs.declared.piece.Piece.{Piece}
use Rattle.script_lexer.specs.declared.piece.Piece.TheVariants as piece
use Rattle.script_lexer.specs.declared.quoted.TextItem.{TextItem}
use Rattle.script_lexer.specs.declared.quoted.TextItem.TheVariants as item
use Rattle.script_lexer.specs.Words.{keyword_spelling, sign_spelling}
use Rattle.script_lexer.specs.Bytes.{opening_of, is_blank, is_comment_byte, is_documentation_byte, is_word_byte, front, behind}

-- ---- texts

-- A text is made of bytes that stand for themselves, and of a backslash with the byte behind it.
abbrev pub item_bytes : TextItem → List ℕ
item_bytes (item.Plain b) = b ∷ []
item_bytes (item.Escaped b) = 92 ∷ b ∷ []

-- neither kind holds a line end, and a quote or a backslash doesn't stand for itself
abbrev pub IsItem : TextItem → Type 0
IsItem (item.Plain b) = (b ≢ 34) × (b ≢ 92) × (b ≢ 10)
IsItem (item.Escaped b) = b ≢ 10

-- `\n`, `\t`, `\\` and `\"`
abbrev pub is_escape : ℕ → Bool
is_escape b = (b == 110) || ((b == 116) || ((b == 92) || (b == 34)))

abbrev pub is_good_item : TextItem → Bool
is_good_item (item.Plain b) = true
is_good_item (item.Escaped b) = is_escape b

-- the byte that an item means
abbrev pub item_value : TextItem → ℕ
item_value (item.Plain b) = b
item_value (item.Escaped b) = if b == 110 then 10 else (if b == 116 then 9 else b)

abbrev pub items_bytes : List TextItem → List ℕ
items_bytes items = flat_map item_bytes items

abbrev pub AreItems : List TextItem → Type 0
AreItems items = AllByRecursion IsItem items

abbrev pub are_good : List TextItem → Bool
are_good items = list_all is_good_item items

-- ---- numbers

-- the digits of a number in their base, and what stands behind them
pub record Numeral : Type 0 where
  pub base : ℕ
  pub digits : List ℕ
  pub after : List ℕ

-- `0x` and a hexadecimal digit
abbrev pub is_hexadecimal : ℕ → List ℕ → Bool
is_hexadecimal b [] = false
is_hexadecimal b (x ∷ []) = false
is_hexadecimal b (x ∷ h ∷ bytes) = (b == 48) && ((x == 120) && is_ascii_hexdigit h)

abbrev pub numeral : ℕ → List ℕ → Numeral
numeral b bytes =
    if is_hexadecimal b bytes
    then (record { base = 16; digits = front is_ascii_hexdigit (drop 1 bytes); after = behind is_ascii_hexdigit (drop 1 bytes) })
    else (record { base = 10; digits = b ∷ front is_ascii_digit bytes; after = behind is_ascii_digit bytes })

abbrev pub magnitude : Numeral → ℕ
magnitude n = digits_value n.base n.digits

-- hexadecimal digits are read as two's complement
abbrev pub int_of : Numeral → ℤ
int_of n = if n.base == 16 then cast_signed w32 (magnitude n) else pos (magnitude n)

-- ---- comments

-- what stands behind the first `/;`
abbrev pub behind_close : List ℕ → Option (List ℕ)
behind_close [] = None
behind_close (b ∷ []) = None
behind_close (b ∷ c ∷ bytes) = if (b == 47) && (c == 59) then Some bytes else behind_close (c ∷ bytes)

-- Behind the semicolon: up to the line's end; behind `;/` up to the first `/;`.
abbrev pub IsComment : List ℕ → Type 0
IsComment [] = Unit {0}
IsComment (b ∷ bytes) = MatchBool (b == 47) (behind_close bytes ≡ Some []) (behind is_comment_byte (b ∷ bytes) ≡ [])

-- ---- words

-- a keyword in any case, or else a name
abbrev pub IsWord : List ℕ → Token → Type 0
IsWord bytes t =
    ((k : Keyword) × (folded bytes ≡ keyword_spelling k) × (t ≡ token.Key k))
    ⊎ (((k : Keyword) → folded bytes ≢ keyword_spelling k) × (t ≡ token.Word bytes))

-- ---- pieces

-- The bytes behind the first, which is b, complete the piece that b opened.
abbrev pub Completes : Opening → ℕ → List ℕ → Piece → Type 0
Completes opening.Blank b bytes p = (bytes ≡ []) × (p ≡ piece.Blank)
Completes opening.LineEnd b bytes p = (bytes ≡ []) × (p ≡ piece.LineEnd)
-- a backslash, blanks and a line end
Completes opening.Join b bytes p = (behind is_blank bytes ≡ 10 ∷ []) × (p ≡ piece.Join)
Completes opening.Comment b bytes p = IsComment bytes × (p ≡ piece.Comment)
-- up to the first closing brace
Completes opening.Documentation b bytes p =
    (behind is_documentation_byte bytes ≡ 125 ∷ []) × (p ≡ piece.Token (token.Doc (front is_documentation_byte bytes)))
Completes opening.Quote b bytes p =
    (items : List TextItem) × AreItems items × (are_good items ≡ true) × (bytes ≡ items_bytes items ++ 34 ∷ []) × (p ≡ piece.Token (token.Quoted (map item_value items)))
Completes opening.Number b bytes p = ((numeral b bytes).after ≡ []) × (p ≡ piece.Token (token.Int (int_of (numeral b bytes))))
Completes opening.Word b bytes p = (behind is_word_byte bytes ≡ []) × ((t : Token) × IsWord (b ∷ bytes) t × (p ≡ piece.Token t))
Completes opening.Sign b bytes p = (s : Sign) × (b ∷ bytes ≡ sign_spelling s) × (p ≡ piece.Token (token.Sign s))
Completes opening.Nothing b bytes p = ⊥

-- the bytes, all of them, spell the piece
abbrev pub Spells : List ℕ → Piece → Type 0
Spells [] p = ⊥
Spells (b ∷ bytes) p = Completes (opening_of b) b bytes p

-- The bytes spell the piece where `after` follows them, and no longer front spells a piece.
pub record IsLongest (bytes after : List ℕ) (p : Piece) : Type 0 where
  pub spelled : Spells bytes p
  pub longest : (other back : List ℕ) (q : Piece) → bytes ++ after ≡ other ++ back → Spells other q → length other ≤ length bytes
