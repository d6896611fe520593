-- The fields of a listing's lines, and its lines up to the end of the string table.
use Rattle.std.specs.Prelude.{ℕ, Bool, false, List, [], ◌∷◌, ◌++◌, ◌/◌, ◌%◌, ◌==◌, ◌&&◌, ◌||◌, not, nat_lt, nat_le, length, take, is_some, codes, slice_index_or, Option, if◌then◌else◌}
use Rattle.std.specs.Char.{is_ascii_alphanumeric}
use Rattle.std.specs.List.{flat_map, list_all, position}
use Rattle.std.specs.Fmt.{decimal, digit_glyph}
use Rattle.std.specs.Str.{bytes_eq}
use Rattle.pex_values.specs.Spelling.{four_bytes}

-- two lower-case hexadecimal digits
abbrev pub two_digits : ℕ → List ℕ
two_digits byte = digit_glyph false (byte / 16) ∷ digit_glyph false (byte % 16) ∷ []

-- the eight hexadecimal digits of a number of 32 bits
abbrev pub eight_digits : ℕ → List ℕ
eight_digits n = flat_map two_digits (four_bytes n)

-- a byte between quotes: `\"`, `\\`, those from 20h to 7Eh as they are, and all others as `\x` and two digits
abbrev pub escaped : ℕ → List ℕ
escaped byte =
    if byte == 34 then codes "\\\"" else (if byte == 92 then codes "\\\\" else (if nat_le 32 byte && nat_le byte 126 then byte ∷ [] else codes "\\x" ++ two_digits byte))

-- a string in quotes
abbrev pub quoted : List ℕ → List ℕ
quoted text = 34 ∷ flat_map escaped text ++ 34 ∷ []

-- letters, digits, and `_ : . [ ]`
abbrev pub is_word_byte : ℕ → Bool
is_word_byte byte = is_ascii_alphanumeric byte || (byte == 95 || (byte == 58 || (byte == 46 || (byte == 91 || byte == 93))))

-- one such byte or more
abbrev pub is_word : List ℕ → Bool
is_word bytes = nat_lt 0 (length bytes) && list_all is_word_byte bytes

-- the place of the first string of these bytes
abbrev pub first_place : List (List ℕ) → List ℕ → Option ℕ
first_place strings bytes = position (λ string. bytes_eq bytes string) strings

-- a word of at most 64 bytes, which no string before this place has
abbrev pub is_own_word : List (List ℕ) → ℕ → List ℕ → Bool
is_own_word strings place string = is_word string && (nat_le (length string) 64 && not (is_some (first_place (take place strings) string)))

-- how a reference to this string is spelled: by its bytes where they are a word of its own, else by `#` and its place
abbrev pub spelled_at : List (List ℕ) → ℕ → List ℕ → List ℕ
spelled_at strings place string = if is_own_word strings place string then string else 35 ∷ decimal place

unfoldable pub reference : List (List ℕ) → ℕ → List ℕ
reference strings place = spelled_at strings place (slice_index_or strings place [])

-- a field behind its space
abbrev pub field : List ℕ → List ℕ
field text = 32 ∷ text

abbrev pub number : ℕ → List ℕ
number n = field (decimal n)

abbrev pub line_end : List ℕ
line_end = 10 ∷ []

-- a line with a string behind its first word
abbrev pub string_line : List ℕ → List ℕ → List ℕ
string_line word text = word ++ 32 ∷ quoted text ++ 10 ∷ []

-- the line that each listing begins with: the minor version and the time
abbrev pub first_line : ℕ → ℕ → List ℕ
first_line minor time = codes "pex " ++ (decimal minor ++ 32 ∷ (decimal time ++ 10 ∷ []))

-- the lines of the source, the user and the machine
abbrev pub header_lines : List ℕ → List ℕ → List ℕ → List ℕ
header_lines source user machine = string_line (codes "source") source ++ (string_line (codes "user") user ++ string_line (codes "machine") machine)

-- a line for each string of the table
abbrev pub table_lines : List (List ℕ) → List ℕ
table_lines strings = flat_map (string_line (codes "string")) strings
