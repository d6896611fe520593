-- What reading a field finds.
use Rattle.std.specs.Prelude.{◌≡◌, ℕ, length, nat_lt, drop, ◌+◌, ◌*◌, List, ◌&&◌, codes, Option, Some, None, Result, Ok, Err, if◌then◌else◌}
use Rattle.std.specs.Char.{digit_value}
use Rattle.std.specs.Str.{bytes_eq}
use Rattle.pex_listing.specs.Breaks.{Quoting, AtByte, front, placed_by, unquoted, with_byte}
use Rattle.pex_listing.specs.Numbers.{is_hex_digit}
use Rattle.pex_listing.specs.declared.faults.ListingRule.{ListingRule}
use Rattle.pex_listing.specs.declared.faults.ListingRule.TheVariants.{BadName}
use Rattle.pex_listing.specs.declared.fields.ValueKind.{ValueKind}
use Rattle.pex_listing.specs.declared.fields.ValueKind.TheVariants.{Nothing, Name, Text, Integer, Real, Truth}

-- the byte of two hexadecimal digits
abbrev pub byte_of : ℕ → ℕ → Option ℕ
byte_of high low = if is_hex_digit high && is_hex_digit low then Some (16 * digit_value high + digit_value low) else None

-- the first byte, and those behind it
abbrev pub cut_first : List ℕ → Option (ℕ × List ℕ)
cut_first bytes = if nat_lt 0 (length bytes) then Some (front bytes, drop 1 bytes) else None

-- a byte is spelled where the reading of a string stands, and these bytes are behind it; or there is no string
abbrev pub Spells : Quoting → List ℕ → Option (ℕ × List ℕ) → Type 0
Spells at bytes None = unquoted at bytes ≡ None
Spells at bytes (Some found) = unquoted at bytes ≡ with_byte found.0 (unquoted AtByte found.1)

-- a string that fits its count
abbrev pub short_string : Option (List ℕ) → Option (List ℕ)
short_string None = None
short_string (Some text) = if nat_lt (length text) 65536 then Some text else None

-- the kind of value that has this word
abbrev pub kind_of : List ℕ → Option ValueKind
kind_of word =
    if bytes_eq word (codes "none") then Some Nothing else (if bytes_eq word (codes "id") then Some Name else (if bytes_eq word (codes "text") then Some Text else
    (if bytes_eq word (codes "int") then Some Integer else (if bytes_eq word (codes "float") then Some Real else (if bytes_eq word (codes "bool") then Some Truth else None)))))

-- the rule that a reference breaks whose place is this
abbrev pub place_rule : List (List ℕ) → List ℕ → Result (Option ℕ) ListingRule → Option ListingRule
place_rule strings text (Err rule) = Some rule
place_rule strings text (Ok None) = Some BadName
place_rule strings text (Ok (Some place)) = placed_by strings text place
