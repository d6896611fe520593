-- What reading the parts of a listing leaves of its first break.
use Rattle.std.specs.Prelude.{◌≡◌, ℕ, suc, ◌<◌, true, false, List, [], ◌∷◌, ◌++◌, codes, Option, None, Some, Result}
use Rattle.std.specs.List.{position}
use Rattle.std.specs.Str.{bytes_eq}
use Rattle.papy_base.specs.declared.faults.Fault.{Fault}
use Rattle.pex_listing.specs.Breaks.{Awaited, Many, Form, a_string, any_number_of, left_after, line_of, may_stand, paid}
use Rattle.pex_listing.specs.Listing.{opcode_names}
use Rattle.pex_listing.specs.Left.{IsTableOf, OpenLine, Reads, begins, lines_left, missing_by, number_of, view}
use Rattle.pex_listing.specs.Opened.{Good}
use Rattle.pex_listing.specs.declared.faults.ListingRule.{ListingRule}
use Rattle.pex_listing.specs.declared.listing.Listing.{Listing}
use Rattle.pex_listing.specs.declared.strings.StringWords.{StringWords}

-- lines that begin with this word have this form, in a value with these strings, where this text stands behind the word
abbrev pub HasForm : List ℕ → (List (List ℕ) → List ℕ → Form) → Type 0
HasForm word form = (strings : List (List ℕ)) (text : List ℕ) → line_of strings word text ≡ form strings text

-- the opcode of this name
abbrev pub opcode_in : List ℕ → Option ℕ
opcode_in word = position (bytes_eq word) opcode_names

abbrev pub opcode_by : Option (List ℕ) → Option ℕ
opcode_by None = None
opcode_by (Some word) = opcode_in word

-- a line of this word may stand where these are awaited, and where none is open, one is missing
pub record MayBegin (word : List ℕ) (strings : List (List ℕ)) (awaited : List Awaited) (v : OpenLine) : Type 0 where
  pub stands : may_stand awaited word ≡ true
  pub missing : begins (word ∷ []) v ≡ false → lines_left strings awaited v ≡ Some (number_of v, missing_by v.word)

-- a part was read, which begins with one of these words
abbrev pub ReadsPart : {T : Type 0} → List (List ℕ) → StringWords → Listing → Listing → Result T (Fault ListingRule) → Type 0
ReadsPart words names old new result =
    (strings : List (List ℕ)) (awaited : List Awaited) (n : ℕ) → IsTableOf strings names → Good old → begins words (view old) ≡ true → n < 65535
    → Reads (lines_left strings (Many words n ∷ awaited) (view old)) result (λ _. lines_left strings (Many words (suc n) ∷ awaited) (view new)) new

-- all such parts were read
abbrev pub ReadsParts : {T : Type 0} → List (List ℕ) → StringWords → Listing → Listing → Result T (Fault ListingRule) → Type 0
ReadsParts words names old new result =
    (strings : List (List ℕ)) (awaited : List Awaited) → IsTableOf strings names → Good old
    → Reads (lines_left strings (Many words 0 ∷ awaited) (view old)) result (λ _. lines_left strings awaited (view new)) new

-- the lines behind the one that tells whether there is debug information, and its time
abbrev pub debug_lines : Option ℕ → List Awaited
debug_lines None = []
debug_lines (Some time) = any_number_of (codes "lines") ∷ []

-- a line of this word with a string was read, which takes so many bytes beside those of the string
abbrev pub ReadsString : List ℕ → ℕ → Listing → Listing → Result (List ℕ) (Fault ListingRule) → Type 0
ReadsString word beside old new result =
    (strings : List (List ℕ)) (awaited : List Awaited) (adds : List ℕ → List (List ℕ)) → HasForm word (λ strings text. paid beside (a_string adds text)) → Good old → MayBegin word strings awaited (view old)
    → Reads (lines_left strings awaited (view old)) result (λ text. lines_left (strings ++ adds text) (left_after awaited word) (view new)) new
