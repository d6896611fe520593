-- What is left of a listing while its lines are read, and what reading a part of it takes.
use Rattle.std.specs.Prelude.{◌≡◌, ℕ, ◌+◌, ◌≤◌, length, Bool, true, List, [], ◌∷◌, ◌++◌, Option, Some, None, unwrap_or, option_map}
use Rattle.pex_listing.specs.Lines.{field}
use Rattle.pex_listing.specs.declared.listing.Listing.{Listing}

-- the fields of the open line that weren't read yet, each behind its space
abbrev pub fields_left : Listing → List ℕ
fields_left l = unwrap_or (option_map (λ fields. field fields.now) l.fields) []

-- what is left of the text behind the fields that were read
abbrev pub behind : Listing → List ℕ
behind l = fields_left l ++ 10 ∷ l.rest.bytes.now

abbrev pub text_from : Option (List ℕ) → Listing → List ℕ
text_from (Some word) l = word ++ behind l
text_from None l = l.rest.bytes.now

-- what is left of the text, the open line with it, of which no field was read
abbrev pub text_left : Listing → List ℕ
text_left l = text_from (option_map (λ word. word.now) l.word) l

-- the open line breaks no rule so far
abbrev pub Good : Listing → Type 0
Good l = l.broken ≡ None

-- a rule was noted unless a test holds
pub record Notes (holds : Bool) (old new : Listing) : Type 0 where
  pub good : Good new → Good old
  pub this : Good new → holds ≡ true
  pub fields : fields_left new ≡ fields_left old
  pub rest : new.rest.bytes.now ≡ old.rest.bytes.now
  pub room : new.room.left ≡ old.room.left

-- so many bytes were taken from the room
pub record Spends (bytes : ℕ) (old new : Listing) : Type 0 where
  pub good : Good new → Good old
  pub room : Good new → new.room.left + bytes ≡ old.room.left
  pub fields : fields_left new ≡ fields_left old
  pub rest : new.rest.bytes.now ≡ old.rest.bytes.now

-- a field was read
pub record Cuts (text : List ℕ) (old new : Listing) : Type 0 where
  pub good : Good new → Good old
  pub taken : Good new → fields_left old ≡ field text ++ fields_left new
  pub shorter : length (fields_left new) ≤ length (fields_left old)
  pub rest : new.rest.bytes.now ≡ old.rest.bytes.now
  pub room : new.room.left ≡ old.room.left

-- fields were read; where the line is good, they are this text, and so many bytes were taken for them
pub record Takes (text : List ℕ) (bytes : ℕ) (old new : Listing) : Type 0 where
  pub good : Good new → Good old
  pub taken : Good new → fields_left old ≡ text ++ fields_left new
  pub shorter : length (fields_left new) ≤ length (fields_left old)
  pub room : Good new → new.room.left + bytes ≡ old.room.left
  pub rest : new.rest.bytes.now ≡ old.rest.bytes.now

-- the same of fields whose value may stand there
pub record Gives (Holds : Type 0) (text : List ℕ) (bytes : ℕ) (old new : Listing) : Type 0 where
  pub takes : Takes text bytes old new
  pub holds : Good new → Holds

-- a line was opened; where it is good, its first word and the fields that were read are this text, and so many bytes were taken for it
pub record Begun (text : List ℕ) (bytes : ℕ) (first now : Listing) : Type 0 where
  pub read : Good now → text_left first ≡ text ++ behind now
  pub room : Good now → now.room.left + bytes ≡ first.room.left

-- the open line was read to its end and is good, and the next one was opened
pub record Ends (old new : Listing) : Type 0 where
  pub last : fields_left old ≡ []
  pub good : Good old
  pub opened : text_left new ≡ old.rest.bytes.now
  pub room : new.room.left ≡ old.room.left

-- these lines were read, and so many bytes were taken for them
pub record TakesLines (lines : List ℕ) (bytes : ℕ) (old new : Listing) : Type 0 where
  pub read : text_left old ≡ lines ++ text_left new
  pub room : new.room.left + bytes ≡ old.room.left

-- the rest of the open line was read, and lines behind it; of their bytes so many were taken before
abbrev pub Continues : List ℕ → ℕ → ℕ → Listing → Listing → Type 0
Continues rest bytes before old new = (text : List ℕ) (first : Listing) (m n : ℕ) → Begun text m first old → n + before ≡ m + bytes → TakesLines (text ++ rest) n first new
