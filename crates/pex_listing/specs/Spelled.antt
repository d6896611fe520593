-- What the table of a file's strings has.
use Rattle.std.specs.Prelude.{◌≡◌, ℕ, Bool, true, List, ◌∷◌, Option, Some, None, unwrap_or, option_map, slice_get, is_none, ◌&&◌, nat_le, nat_lt, length, if◌then◌else◌}
use Rattle.std.specs.Fmt.{decimal}
use Rattle.std.specs.HashMap.{get_by}
use Rattle.std.specs.Str.{bytes_eq}
use Rattle.pex_listing.specs.Lines.{is_word, first_place}
use Rattle.pex_listing.specs.declared.strings.StringWords.{StringWords}

-- the place that the table has for these bytes
abbrev pub place_in : StringWords → List ℕ → Option ℕ
place_in words bytes = get_by (λ key. bytes_eq bytes key.items) words.first

-- a place that fits a reference
abbrev pub two_byte : Option ℕ → Option ℕ
two_byte None = None
two_byte (Some place) = if nat_lt place 65536 then Some place else None

-- the table has the first place of each string that is a word
abbrev pub HasWords : List (List ℕ) → StringWords → Type 0
HasWords strings words = (bytes : List ℕ) → is_word bytes ≡ true → place_in words bytes ≡ first_place strings bytes

-- how the table spells a reference
abbrev pub spelled_in : StringWords → ℕ → List ℕ
spelled_in words place = unwrap_or (option_map (λ bytes. bytes.items) (slice_get words.spelled.items place)) (35 ∷ decimal place)

-- a string was noted at this place, behind those that the table has; it is a word of its own, or not
pub record Noted (old new : StringWords) (string : List ℕ) (place : ℕ) (own : Bool) : Type 0 where
  pub spelled : new.spelled ≡ old.spelled
  pub words : (bytes : List ℕ) → is_word bytes ≡ true → place_in new bytes ≡ (if (bytes_eq string bytes && is_none (place_in old bytes)) then Some place else place_in old bytes)
  pub own_word : own ≡ (is_word string && (nat_le (length string) 64 && is_none (place_in old string)))
