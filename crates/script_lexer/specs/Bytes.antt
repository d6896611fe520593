-- Classes of bytes, and what a byte opens.
use Rattle.std.specs.Prelude.{ℕ, Bool, true, false, List, drop, not, ◌==◌, ◌||◌, if◌then◌else◌}
use Rattle.std.specs.List.{prefix_len, take_while, count_by}
use Rattle.std.specs.Int.{is_in_range}
use Rattle.std.specs.Char.{is_ascii_digit, is_ascii_hexdigit, is_ascii_alphabetic}
use Rattle.script_lexer.specs.declared.opening.ByteClass.{ByteClass}
use Rattle.script_lexer.specs.declared.opening.ByteClass.TheVariants as class
use Rattle.script_lexer.specs.declared.opening.Opening.{Opening}
use Rattle.script_lexer.specs.declared.opening.Opening.TheVariants as opening

-- space, tab and carriage return
abbrev pub is_blank : ℕ → Bool
is_blank b = (b == 32) || ((b == 9) || (b == 13))

abbrev pub is_line_end : ℕ → Bool
is_line_end b = b == 10

-- a byte that a comment up to the line's end may hold
abbrev pub is_comment_byte : ℕ → Bool
is_comment_byte b = not (b == 10)

-- a byte that a documentation may hold
abbrev pub is_documentation_byte : ℕ → Bool
is_documentation_byte b = not (b == 125)

-- a letter or `_`
abbrev pub is_word_start : ℕ → Bool
is_word_start b = is_ascii_alphabetic b || (b == 95)

-- a letter, a digit or `_`
abbrev pub is_word_byte : ℕ → Bool
is_word_byte b = is_word_start b || is_ascii_digit b

abbrev pub class_test : ByteClass → ℕ → Bool
class_test class.Blank b = is_blank b
class_test class.Comment b = is_comment_byte b
class_test class.Documentation b = is_documentation_byte b
class_test class.Digit b = is_ascii_digit b
class_test class.HexDigit b = is_ascii_hexdigit b
class_test class.Word b = is_word_byte b

-- ! % & ( ) * + , - . / < = > [ ] |
abbrev pub is_sign_start : ℕ → Bool
is_sign_start b =
    (b == 33) || ((b == 37) || ((b == 38) || (is_in_range 40 47 b || (is_in_range 60 62 b || ((b == 91) || ((b == 93) || (b == 124)))))))

-- what a piece opens with this byte
unfoldable pub opening_of : ℕ → Opening
opening_of b =
    if is_blank b then opening.Blank
    else (if b == 10 then opening.LineEnd
    else (if b == 92 then opening.Join
    else (if b == 59 then opening.Comment
    else (if b == 123 then opening.Documentation
    else (if b == 34 then opening.Quote
    else (if is_ascii_digit b then opening.Number
    else (if is_word_start b then opening.Word
    else (if is_sign_start b then opening.Sign
    else opening.Nothing))))))))

-- Words, numbers and signs hold no line end.
abbrev pub stays_in_line : Opening → Bool
stays_in_line opening.Blank = false
stays_in_line opening.LineEnd = false
stays_in_line opening.Join = false
stays_in_line opening.Comment = false
stays_in_line opening.Documentation = false
stays_in_line opening.Quote = false
stays_in_line opening.Number = true
stays_in_line opening.Word = true
stays_in_line opening.Sign = true
stays_in_line opening.Nothing = false

-- the front of the bytes that pass a test, and what stands behind it
abbrev pub front : (ℕ → Bool) → List ℕ → List ℕ
front test bytes = take_while test bytes

abbrev pub behind : (ℕ → Bool) → List ℕ → List ℕ
behind test bytes = drop (prefix_len test bytes) bytes

-- how many physical lines end in the bytes
abbrev pub line_ends : List ℕ → ℕ
line_ends bytes = count_by is_line_end bytes
