-- The first line of a text that breaks a rule of listings, with that rule. What may stand in a line is told by the lines before it.
use Rattle.std.specs.Prelude.{ℕ, zero, suc, ◌+◌, ◌-◌, ◌*◌, Bool, true, false, List, [], ◌∷◌, ◌++◌, ◌==◌, ◌&&◌, ◌||◌, not, nat_lt, nat_le, length, drop, codes, Option, Some, None, unwrap_or, ℤ, pos, negsuc, neg_ℤ, if◌then◌else◌}
use Rattle.std.specs.Char.{digit_value, is_ascii_uppercase}
use Rattle.std.specs.Fmt.{decimal, signed_decimal}
use Rattle.std.specs.List.{list_all, list_any, position}
use Rattle.std.specs.Str.{bytes_eq}
use Rattle.std.specs.Str.Parse.{digits_value}
use Rattle.pex_values.specs.Bits.{has_read, has_variable, has_write}
use Rattle.pex_values.specs.Opcodes.{operands_of}
use Rattle.pex_listing.specs.Lines.{first_place, is_word, quoted, reference}
use Rattle.pex_listing.specs.Listing.{opcode_names}
use Rattle.pex_listing.specs.Numbers.{are_digits, is_hex_digit}
use Rattle.pex_listing.specs.declared.faults.ListingRule.{ListingRule}
use Rattle.pex_listing.specs.declared.faults.ListingRule.TheVariants.{BadLine, NotCanonical, BadName, End}

-- ---- fields: the rule that one breaks, if any

-- of two rules of one line the one that is told
abbrev pub worse : Option ListingRule → Option ListingRule → Option ListingRule
worse None b = b
worse (Some BadLine) b = Some BadLine
worse (Some BadName) None = Some BadName
worse (Some BadName) (Some BadLine) = Some BadLine
worse (Some BadName) (Some BadName) = Some BadName
worse (Some BadName) (Some NotCanonical) = Some BadName
worse (Some BadName) (Some End) = Some BadName
worse (Some NotCanonical) None = Some NotCanonical
worse (Some NotCanonical) (Some BadLine) = Some BadLine
worse (Some NotCanonical) (Some BadName) = Some BadName
worse (Some NotCanonical) (Some NotCanonical) = Some NotCanonical
worse (Some NotCanonical) (Some End) = Some NotCanonical
worse (Some End) None = Some End
worse (Some End) (Some BadLine) = Some BadLine
worse (Some End) (Some BadName) = Some BadName
worse (Some End) (Some NotCanonical) = Some NotCanonical
worse (Some End) (Some End) = Some End

-- a field of the right form is judged by the one spelling of what it spells
abbrev pub unless_spelled : List ℕ → List ℕ → Option ListingRule
unless_spelled text spelling = if bytes_eq text spelling then None else Some NotCanonical

abbrev pub front : List ℕ → ℕ
front [] = 0
front (b ∷ t) = b

-- the number that digits write, with a minus before it or not
abbrev pub written : List ℕ → Option ℤ
written text = if are_digits text then Some (pos (digits_value 10 text)) else (if front text == 45 && are_digits (drop 1 text) then Some (neg_ℤ (pos (digits_value 10 (drop 1 text)))) else None)

-- the number that such a field gives
abbrev pub number_by_value : Option ℤ → ℕ
number_by_value (Some (pos n)) = n
number_by_value (Some (negsuc n)) = 0
number_by_value None = 0

abbrev pub number_in : List ℕ → ℕ
number_in text = number_by_value (written text)

-- a number from the least to the most
abbrev pub number_by : ℕ → ℕ → List ℕ → Option ℤ → Option ListingRule
number_by least most text (Some (pos n)) = if nat_le least n && nat_le n most then unless_spelled text (decimal n) else Some BadLine
number_by least most text (Some (negsuc n)) = Some BadLine
number_by least most text None = Some BadLine

abbrev pub number_rule : ℕ → ℕ → List ℕ → Option ListingRule
number_rule least most text = number_by least most text (written text)

-- a number of 32 bits with a sign
abbrev pub integer_by : List ℕ → Option ℤ → Option ListingRule
integer_by text None = Some BadLine
integer_by text (Some (pos n)) = if nat_lt n 2147483648 then unless_spelled text (signed_decimal (pos n)) else Some BadLine
integer_by text (Some (negsuc n)) = if nat_lt n 2147483648 then unless_spelled text (signed_decimal (negsuc n)) else Some BadLine

abbrev pub integer_rule : List ℕ → Option ListingRule
integer_rule text = integer_by text (written text)

abbrev pub digits_rule : List ℕ → Option ListingRule
digits_rule text = if length text == 8 && list_all is_hex_digit text then (if list_all (λ b. not (is_ascii_uppercase b)) text then None else Some NotCanonical) else Some BadLine

abbrev pub named_by : List (List ℕ) → List ℕ → Option ℕ → Option ListingRule
named_by strings text None = Some BadName
named_by strings text (Some place) = unless_spelled text (reference strings place)

abbrev pub placed_by : List (List ℕ) → List ℕ → ℕ → Option ListingRule
placed_by strings text place = if nat_lt place (length strings) then unless_spelled text (reference strings place) else Some BadName

-- a reference by a word, or by `#` and a place
abbrev pub reference_rule : List (List ℕ) → List ℕ → Option ListingRule
reference_rule strings text =
    if is_word text then named_by strings text (first_place strings text) else (if front text == 35 && are_digits (drop 1 text) then placed_by strings text (digits_value 10 (drop 1 text)) else Some BadLine)

-- ---- strings in quotes

-- where the reading of a string stands: at a byte, behind `\`, behind `\x`, or behind `\x` and a digit of this value
pub data Quoting : Type 0 where
  AtByte : Quoting
  AtEscape : Quoting
  AtHigh : Quoting
  AtLow : ℕ → Quoting

abbrev pub with_byte : ℕ → Option (List ℕ) → Option (List ℕ)
with_byte b None = None
with_byte b (Some t) = Some (b ∷ t)

abbrev pub unquoted : Quoting → List ℕ → Option (List ℕ)
unquoted AtByte [] = None
unquoted AtByte (b ∷ t) =
    if b == 34 then (if length t == 0 then Some [] else None) else (if b == 92 then unquoted AtEscape t else (if nat_le 32 b && nat_le b 126 then with_byte b (unquoted AtByte t) else None))
unquoted AtEscape [] = None
unquoted AtEscape (b ∷ t) = if b == 34 || b == 92 then with_byte b (unquoted AtByte t) else (if b == 120 then unquoted AtHigh t else None)
unquoted AtHigh [] = None
unquoted AtHigh (b ∷ t) = if is_hex_digit b then unquoted (AtLow (digit_value b)) t else None
unquoted (AtLow high) [] = None
unquoted (AtLow high) (b ∷ t) = if is_hex_digit b then with_byte (16 * high + digit_value b) (unquoted AtByte t) else None

-- the string that stands in quotes
abbrev pub string_in : List ℕ → Option (List ℕ)
string_in text = if front text == 34 then unquoted AtByte (drop 1 text) else None

-- ---- lines

-- what may stand behind the lines that were read: a line with one of these words, which must come, or further lines with one of these
-- words, behind so many of them
pub data Awaited : Type 0 where
  One : List (List ℕ) → Awaited
  Many : List (List ℕ) → ℕ → Awaited

abbrev pub any_number_of : List ℕ → Awaited
any_number_of word = Many (word ∷ []) 0

-- what the fields of a line are: the bytes that the line takes of a file, the rule that they break, what may stand right behind the line,
-- and the strings that it adds to the table
pub record Found : Type 0 where
  pub bytes : ℕ
  pub rule : Option ListingRule
  pub inside : List Awaited
  pub added : List (List ℕ)

-- by the fields that are left in a line
abbrev pub Form : Type 0
Form = List (List ℕ) → Found

abbrev pub bad : Found
bad = record { bytes = 0; rule = Some BadLine; inside = []; added = [] }

-- no further field
abbrev pub done : List Awaited → List (List ℕ) → Form
done inside added [] = record { bytes = 0; rule = None; inside = inside; added = added }
done inside added (f ∷ fs) = bad

abbrev pub judged : Option ListingRule → Found → Found
judged rule x = record { bytes = x.bytes; rule = worse rule x.rule; inside = x.inside; added = x.added }

-- so many bytes beside those of the fields
abbrev pub paid : ℕ → Form → Form
paid bytes form fields = record { bytes = bytes + (form fields).bytes; rule = (form fields).rule; inside = (form fields).inside; added = (form fields).added }

-- a field, and those behind it
abbrev pub a_field : (List ℕ → Option ListingRule) → Form → Form
a_field test form [] = bad
a_field test form (f ∷ fs) = judged (test f) (form fs)

-- a number from the least to the most, which may tell what is behind it
abbrev pub a_number : ℕ → ℕ → (ℕ → Form) → Form
a_number least most form [] = bad
a_number least most form (f ∷ fs) = judged (number_rule least most f) (form (number_in f) fs)

abbrev pub a_byte : Form → Form
a_byte form = a_number 0 255 (λ _. form)

abbrev pub some_flags : Form → Form
some_flags form = a_number 0 4294967295 (λ _. form)

abbrev pub a_time : Form → Form
a_time form = a_number 0 18446744073709551615 (λ _. form)

-- so many numbers at most, up to the end of the line
unfoldable pub numbers : ℕ → Form
numbers zero fields = done [] [] fields
numbers (suc n) [] = done [] [] []
numbers (suc n) (f ∷ fs) = paid 2 (a_number 0 65535 (λ _. numbers n)) (f ∷ fs)

abbrev pub size_rule : List ℕ → Option ListingRule
size_rule text = if bytes_eq text (codes "counted") || bytes_eq text (codes "bare") then None else Some BadLine

-- a string behind the first word, which has all the rest of the line
abbrev pub string_by : (List ℕ → List (List ℕ)) → List ℕ → Option (List ℕ) → Found
string_by adds text None = bad
string_by adds text (Some s) = record { bytes = length s; rule = if nat_lt (length s) 65536 then unless_spelled text (quoted s) else Some BadLine; inside = []; added = adds s }

abbrev pub a_string : (List ℕ → List (List ℕ)) → List ℕ → Form
a_string adds text fields = string_by adds text (string_in text)

abbrev pub not_added : List ℕ → List (List ℕ)
not_added text = []

abbrev pub is_added : List ℕ → List (List ℕ)
is_added text = text ∷ []

-- the lines behind the one that a function begins with
abbrev pub function_lines : List Awaited
function_lines = any_number_of (codes "param") ∷ any_number_of (codes "local") ∷ Many opcode_names 0 ∷ []

abbrev pub object_lines : List Awaited
object_lines = any_number_of (codes "variable") ∷ any_number_of (codes "property") ∷ any_number_of (codes "state") ∷ []

-- the functions that must follow a property of these bits
abbrev pub asked : Bool → List ℕ → List Awaited
asked true word = One (word ∷ []) ∷ []
asked false word = []

abbrev pub least_bytes : Bool → ℕ
least_bytes true = 15
least_bytes false = 0

abbrev pub accessor_lines : ℕ → List Awaited
accessor_lines bits = asked (has_read bits) (codes "read") ++ asked (has_write bits) (codes "write")

-- in a value with these strings
module _ (strings : List (List ℕ)) where
  abbrev pub a_name : Form → Form
  a_name = a_field (reference_rule strings)

  -- a value, which is one field or two
  unfoldable pub a_value : Form → Form
  a_value form [] = bad
  a_value form (w ∷ fs) =
      if bytes_eq w (codes "none") then paid 1 form fs else
      (if bytes_eq w (codes "id") || bytes_eq w (codes "text") then a_name (paid 3 form) fs else
      (if bytes_eq w (codes "int") then a_field integer_rule (paid 5 form) fs else
      (if bytes_eq w (codes "float") then a_field digits_rule (paid 5 form) fs else
      (if bytes_eq w (codes "bool") then a_byte (paid 2 form) fs else
      bad))))

  -- so many values
  abbrev pub values : ℕ → Form → Form
  values zero form = form
  values (suc n) form = a_value (values n form)

  -- so many values at most, up to the end of the line
  abbrev pub more_values : ℕ → Form
  more_values zero fields = done [] [] fields
  more_values (suc n) [] = done [] [] []
  more_values (suc n) (f ∷ fs) = a_value (more_values n) (f ∷ fs)

  abbrev pub all_values : Form
  all_values fields = more_values (length fields) fields

  -- values that may follow those of which the number is known
  abbrev pub values_behind : Bool → Form
  values_behind true = paid 5 all_values
  values_behind false = done [] []

  abbrev pub operands : Option (ℕ × Bool) → Form
  operands None fields = bad
  operands (Some (n, may_follow)) fields = paid 1 (values n (values_behind may_follow)) fields

  abbrev pub opcode_line : Option ℕ → Form
  opcode_line None fields = bad
  opcode_line (Some code) fields = operands (operands_of code) fields

  -- a parameter or a local
  abbrev pub pair_line : Form
  pair_line = paid 4 (a_name (a_name (done [] [])))

  -- the fields of a function behind its name
  abbrev pub function_line : Form
  function_line = a_name (a_name (some_flags (a_byte (done function_lines []))))

  -- the variable of an auto property
  abbrev pub own_variable : Bool → Form → Form
  own_variable true form = paid 2 (a_name form)
  own_variable false form = form

  abbrev pub property_end : ℕ → Form
  property_end bits = own_variable (has_variable bits) (paid (least_bytes (has_read bits) + least_bytes (has_write bits)) (done (accessor_lines bits) []))

  -- a line of this word, behind which a text stands
  unfoldable pub line_of : List ℕ → List ℕ → Form
  line_of word text fields =
      if list_any (bytes_eq word) opcode_names then opcode_line (position (bytes_eq word) opcode_names) fields else
      (if bytes_eq word (codes "local") || bytes_eq word (codes "param") then pair_line fields else
      (if bytes_eq word (codes "read") || bytes_eq word (codes "write") then function_line fields else
      (if bytes_eq word (codes "function") then paid 17 (a_name function_line) fields else
      (if bytes_eq word (codes "state") then paid 4 (a_name (done (any_number_of (codes "function") ∷ []) [])) fields else
      (if bytes_eq word (codes "property") then paid 11 (a_name (a_name (a_name (some_flags (a_number 0 255 property_end))))) fields else
      (if bytes_eq word (codes "variable") then paid 8 (a_name (a_name (some_flags (a_value (done [] []))))) fields else
      (if bytes_eq word (codes "object") then paid 22 (a_name (a_field size_rule (a_name (a_name (some_flags (a_name (done object_lines []))))))) fields else
      (if bytes_eq word (codes "flag") then paid 3 (a_name (a_byte (done [] []))) fields else
      (if bytes_eq word (codes "lines") then paid 9 (a_name (a_name (a_name (a_byte (numbers 65535))))) fields else
      (if bytes_eq word (codes "nodebug") then done [] [] fields else
      (if bytes_eq word (codes "debug") then paid 10 (a_time (done (any_number_of (codes "lines") ∷ []) [])) fields else
      (if bytes_eq word (codes "string") then paid 2 (a_string is_added text) fields else
      (if bytes_eq word (codes "machine") || (bytes_eq word (codes "user") || bytes_eq word (codes "source")) then paid 0 (a_string not_added text) fields else
      (if bytes_eq word (codes "pex") then a_number 1 2 (λ _. a_time (done [] [])) fields else
      bad))))))))))))))

-- ---- where a line may stand

abbrev pub is_among : List ℕ → List (List ℕ) → Bool
is_among word words = list_any (bytes_eq word) words

-- whether a line of this word may stand where these are awaited
abbrev pub may_stand : List Awaited → List ℕ → Bool
may_stand [] word = false
may_stand (One words ∷ more) word = is_among word words
may_stand (Many words n ∷ more) word = if is_among word words then nat_lt n 65535 else may_stand more word

-- what is awaited behind that line and the lines inside it
abbrev pub left_after : List Awaited → List ℕ → List Awaited
left_after [] word = []
left_after (One words ∷ more) word = more
left_after (Many words n ∷ more) word = if is_among word words then Many words (suc n) ∷ more else left_after more word

-- whether the text may end there
abbrev pub may_end : List Awaited → Bool
may_end [] = true
may_end (One words ∷ more) = false
may_end (Many words n ∷ more) = may_end more

-- ---- the first break

abbrev pub Break : Type 0
Break = Option (ℕ × ListingRule)

-- where a line stands: what is awaited, the strings of the table so far, the bytes that a file still has, and the line's number
pub record Place : Type 0 where
  pub awaited : List Awaited
  pub strings : List (List ℕ)
  pub room : ℕ
  pub number : ℕ

-- what comes of a line: the rule that it breaks, or what it leaves for the lines behind it
pub data Outcome : Type 0 where
  Refused : ListingRule → Outcome
  Passed : ℕ → List Awaited → List (List ℕ) → Outcome

abbrev pub unless_broken : Option ListingRule → Outcome → Outcome
unless_broken None passed = passed
unless_broken (Some rule) passed = Refused rule

abbrev pub outcome : ℕ → Found → Outcome
outcome room x = if nat_le x.bytes room then unless_broken x.rule (Passed (room - x.bytes) x.inside x.added) else Refused BadLine

abbrev pub line_outcome : Place → List ℕ → Found → Outcome
line_outcome p word x = if may_stand p.awaited word then outcome p.room x else Refused BadLine

-- the place behind a line, where this is awaited behind the lines inside it
abbrev pub behind_line : Place → List Awaited → Outcome → Place
behind_line p awaited (Refused rule) = p
behind_line p awaited (Passed room inside added) = record { awaited = inside ++ awaited; strings = p.strings ++ added; room = room; number = suc p.number }

-- the rule that a line breaks, else the first break behind it
abbrev pub first_of : ℕ → Outcome → Break → Break
first_of number (Refused rule) behind = Some (number, rule)
first_of number (Passed room inside added) behind = behind

-- the break of what stands behind the last line's end
abbrev pub end_break : Place → List ℕ → Break
end_break p last = if may_end p.awaited && length last == 0 then None else Some (p.number, End)

-- what stands before the first such byte, and what stands behind it
abbrev pub before_byte : ℕ → List ℕ → List ℕ
before_byte byte [] = []
before_byte byte (b ∷ t) = if b == byte then [] else b ∷ before_byte byte t

abbrev pub behind_byte : ℕ → List ℕ → Option (List ℕ)
behind_byte byte [] = None
behind_byte byte (b ∷ t) = if b == byte then Some t else behind_byte byte t

-- the texts between bytes of a kind
abbrev pub between : ℕ → List ℕ → List (List ℕ)
between byte [] = [] ∷ []
between byte (b ∷ t) = if b == byte then [] ∷ between byte t else joined b (between byte t)
  where
    joined : ℕ → List (List ℕ) → List (List ℕ)
    joined c [] = (c ∷ []) ∷ []
    joined c (first ∷ more) = (c ∷ first) ∷ more

-- the fields of a line behind its first word
abbrev pub fields_of : Option (List ℕ) → List (List ℕ)
fields_of None = []
fields_of (Some text) = between 32 text

-- what comes of a line of this word, where this stands behind its space
abbrev pub read_line : Place → List ℕ → Option (List ℕ) → Outcome
read_line p word behind = line_outcome p word (line_of p.strings word (unwrap_or behind []) (fields_of behind))

-- the first break of lines from such a place on; the last of them has no end
unfoldable pub break_from : Place → List (List ℕ) → Break
break_from p [] = None
break_from p (last ∷ []) = end_break p last
break_from p (text ∷ next ∷ more) =
    first_of p.number (read_line p (before_byte 32 text) (behind_byte 32 text))
    (break_from (behind_line p (left_after p.awaited (before_byte 32 text)) (read_line p (before_byte 32 text) (behind_byte 32 text))) (next ∷ more))

-- whether there is debug information
abbrev pub debug_line : Awaited
debug_line = One (codes "nodebug" ∷ codes "debug" ∷ [])

-- the parts of a listing
abbrev pub all_parts : List Awaited
all_parts =
    One (codes "pex" ∷ []) ∷ One (codes "source" ∷ []) ∷ One (codes "user" ∷ []) ∷ One (codes "machine" ∷ [])
    ∷ any_number_of (codes "string") ∷ debug_line ∷ any_number_of (codes "flag") ∷ any_number_of (codes "object") ∷ []

-- a value with empty strings and lists has 29 bytes
abbrev pub list_break : List ℕ → Break
list_break text = break_from (record { awaited = all_parts; strings = []; room = 16777216 - 29; number = 1 }) (between 10 text)
