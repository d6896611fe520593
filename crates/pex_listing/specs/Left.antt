-- The first break of what is left of a listing while it is read, and what reading a part of it leaves of that.
use Rattle.std.specs.Prelude.{◌≡◌, ℕ, suc, Bool, true, false, List, [], ◌<◌, ◌^◌, length, vec_len, Option, Some, None, is_some, ◌&&◌, option_map, Result, Ok, Err}
use Rattle.papy_base.specs.declared.faults.Fault.{Fault}
use Rattle.papy_base.specs.declared.faults.Fault.TheVariants.{Broken, OutOfMemory}
use Rattle.pex_listing.specs.Breaks.{Awaited, Break, Form, Outcome, Place, a_field, a_number, before_byte, behind_byte, behind_line, between, break_from, end_break, fields_of, first_of, is_among, judged, left_after, outcome, paid, read_line, worse}
use Rattle.pex_listing.specs.Lines.{reference}
use Rattle.pex_listing.specs.Spelled.{HasWords, spelled_in}
use Rattle.pex_listing.specs.declared.faults.ListingRule.{ListingRule}
use Rattle.pex_listing.specs.declared.faults.ListingRule.TheVariants.{BadLine, NotCanonical, BadName, End}
use Rattle.pex_listing.specs.declared.listing.Listing.{Listing}
use Rattle.pex_listing.specs.declared.strings.StringWords.{StringWords}

-- ---- where a listing stands

-- the open line: its first word, where it has its end; its fields that weren't read yet; the rule that it breaks so far; the bytes that a file
-- still has; how many lines were opened; and what follows the line
pub record OpenLine : Type 0 where
  pub word : Option (List ℕ)
  pub fields : Option (List ℕ)
  pub broken : Option ListingRule
  pub room : ℕ
  pub lines : ℕ
  pub rest : List ℕ

abbrev pub view : Listing → OpenLine
view l = record { word = option_map (λ word. word.now) l.word; fields = option_map (λ fields. fields.now) l.fields; broken = l.broken; room = l.room.left; lines = l.rest.lines; rest = l.rest.bytes.now }

-- the number of the open line, or of the one that is missing
abbrev pub number_by : Option (List ℕ) → ℕ → ℕ
number_by None lines = suc lines
number_by (Some word) lines = lines

abbrev pub number_of : OpenLine → ℕ
number_of v = number_by v.word v.lines

-- whether the open line begins with one of these words
abbrev pub begins_by : List (List ℕ) → Option (List ℕ) → Bool
begins_by words None = false
begins_by words (Some word) = is_among word words

abbrev pub begins : List (List ℕ) → OpenLine → Bool
begins words v = begins_by words v.word

-- why no line of such a word is there
abbrev pub missing_by : Option (List ℕ) → ListingRule
missing_by None = End
missing_by (Some word) = BadLine

-- a rule was noted
abbrev pub noted : Option ListingRule → OpenLine → OpenLine
noted rule v = record { word = v.word; fields = v.fields; broken = worse v.broken rule; room = v.room; lines = v.lines; rest = v.rest }

-- the next field, and the line behind it
abbrev pub field_in : Option (List ℕ) → List ℕ
field_in None = []
field_in (Some text) = before_byte 32 text

abbrev pub behind_by : OpenLine → Option (List ℕ) → OpenLine
behind_by v None = noted (Some BadLine) v
behind_by v (Some text) = record { word = v.word; fields = behind_byte 32 text; broken = v.broken; room = v.room; lines = v.lines; rest = v.rest }

abbrev pub behind_field : OpenLine → OpenLine
behind_field v = behind_by v v.fields

abbrev pub may_be_good : Option ListingRule → Bool
may_be_good (Some BadLine) = false
may_be_good (Some BadName) = true
may_be_good (Some NotCanonical) = true
may_be_good (Some End) = true
may_be_good None = true

-- whether a further field is worth reading
abbrev pub has_field : OpenLine → Bool
has_field v = is_some v.fields && may_be_good v.broken

-- ---- the first break of what is left

abbrev pub place_of : List (List ℕ) → List Awaited → OpenLine → Place
place_of strings awaited v = record { awaited = awaited; strings = strings; room = v.room; number = number_of v }

-- what comes of a line, and then of the lines behind it
abbrev pub follow : Place → List Awaited → Outcome → List ℕ → Break
follow p awaited o rest = first_of p.number o (break_from (behind_line p awaited o) (between 10 rest))

abbrev pub opened : Place → Option (List ℕ) → Option (List ℕ) → List ℕ → Break
opened p None fields rest = end_break p rest
opened p (Some word) fields rest = follow p (left_after p.awaited word) (read_line p word fields) rest

-- no field of the open line was read, and these parts are awaited
unfoldable pub lines_left : List (List ℕ) → List Awaited → OpenLine → Break
lines_left strings awaited v = opened (place_of strings awaited v) v.word v.fields v.rest

-- the place of the line behind the open one
abbrev pub place_behind : List (List ℕ) → List Awaited → OpenLine → Place
place_behind strings awaited v = record { awaited = awaited; strings = strings; room = v.room; number = suc v.lines }

-- where no line is open, one is missing
abbrev pub if_open : Option (List ℕ) → ℕ → Break → Break
if_open None lines left = Some (suc lines, End)
if_open (Some word) lines left = left

-- the fields of the open line that weren't read have this form, and these parts are awaited behind the lines inside it
unfoldable pub line_left : List (List ℕ) → List Awaited → Form → OpenLine → Break
line_left strings awaited form v = if_open v.word v.lines (follow (place_of strings awaited v) awaited (outcome v.room (judged v.broken (form (fields_of v.fields)))) v.rest)

-- ---- what reading leaves

-- some of the open line was read: what was of one form is of the other
pub record Leaves (K : Type 0) (before now : K → Form) (old new : Listing) : Type 0 where
  pub left : (strings : List (List ℕ)) (awaited : List Awaited) (k : K) → line_left strings awaited (before k) (view old) ≡ line_left strings awaited (now k) (view new)

abbrev pub Tested : (List ℕ → Option ListingRule) → Listing → Listing → Type 0
Tested test old new = Leaves Form (a_field test) (λ form. form) old new

abbrev pub Counted : ℕ → ℕ → ℕ → Listing → Listing → Type 0
Counted least most n old new = Leaves (ℕ → Form) (a_number least most) (λ form. form n) old new

abbrev pub Pays : ℕ → Listing → Listing → Type 0
Pays bytes old new = Leaves Form (paid bytes) (λ form. form) old new

abbrev pub Refuses : Break → ℕ → Fault ListingRule → Type 0
Refuses whole number (Broken rule) = whole ≡ Some (number, rule)
Refuses whole number OutOfMemory = Unit {0}

-- a break is that of what is left, or it is told
abbrev pub Reads : {T : Type 0} → Break → Result T (Fault ListingRule) → (T → Break) → Listing → Type 0
Reads whole (Ok value) left new = (whole ≡ left value) × (new.broken ≡ None)
Reads whole (Err fault) left new = Refuses whole (number_of (view new)) fault

-- the rule that a field breaks: the one that tells that it has no value, or that it isn't in its one spelling
abbrev pub rule_of : {T : Type 0} → Option (T × Bool) → Option ListingRule
rule_of None = Some BadLine
rule_of (Some (value, true)) = None
rule_of (Some (value, false)) = Some NotCanonical

abbrev pub reference_rule_of : {T : Type 0} → Result (T × Bool) ListingRule → Option ListingRule
reference_rule_of (Err rule) = Some rule
reference_rule_of (Ok (value, true)) = None
reference_rule_of (Ok (value, false)) = Some NotCanonical

-- the table of these strings
pub record IsTableOf (strings : List (List ℕ)) (table : StringWords) : Type 0 where
  pub words : HasWords strings table
  pub spelled : spelled_in table ≡ reference strings
  pub count : vec_len table.spelled ≡ length strings
  pub few : length strings < 2 ^ 16
