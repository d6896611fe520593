-- What a caller sees of a decoder, and what bytes lead to.
use Rattle.std.specs.Prelude.{◌≡◌, ◌≢◌, ℕ, ◌<◌, ◌≤◌, List, [], ◌++◌, length, take, Result, Ok, Err}
use Rattle.pex_values.specs.declared.values.Pex.{Pex}
use Rattle.pex_values.specs.Fit.{Fits, limit}
use Rattle.pex_values.specs.Plain.{PlainPex, plain}
use Rattle.pex_values.specs.Shape.{IsWellShaped}
use Rattle.pex_values.specs.Spelling.{spelling}
use Rattle.pex_codec.specs.declared.faults.PexFault.{PexFault}
use Rattle.pex_codec.specs.declared.faults.PexFault.TheVariants.{Broken, OutOfMemory}
use Rattle.pex_codec.specs.declared.faults.PexRule.{PexRule}
use Rattle.pex_codec.specs.declared.faults.PexRule.TheVariants.{Truncated, Trailing, TooLarge}
use Rattle.pex_codec.specs.declared.decoder.Fed.{Fed}
use Rattle.pex_codec.specs.declared.decoder.Fed.TheVariants.{More, Done}
use Rattle.pex_codec.specs.declared.decoder.Standing.{Standing}
use Rattle.pex_codec.specs.declared.decoder.Standing.TheVariants as standing
use Rattle.pex_codec.specs.Reading.{Reading, Got, Short, Refused, pex_at}
use Rattle.pex_codec.specs.Spells.{Spells}

-- ---- what bytes are

-- what the first 16 MiB of bytes are
abbrev pub reading : List ℕ → Reading PlainPex
reading bytes = pex_at 0 (take limit bytes)

-- the bytes spell a value
abbrev pub IsSpelling : List ℕ → Type 0
IsSpelling bytes = (v : PlainPex) × Spells v bytes

-- a field is refused
abbrev pub BreaksField : List ℕ → ℕ → PexRule → Type 0
BreaksField bytes offset rule = reading bytes ≡ Refused offset rule

-- no field is refused, and the value isn't complete
abbrev pub IsUnfinished : List ℕ → Type 0
IsUnfinished bytes = reading bytes ≡ Short

-- a first part of the bytes, shorter than they are, spells a value
pub record HasTrailing (bytes : List ℕ) (offset : ℕ) : Type 0 where
  pub spelled : IsSpelling (take offset bytes)
  pub shorter : offset < length bytes

-- the first rule that the bytes break, and where
abbrev pub Breaks : List ℕ → ℕ → PexRule → Type 0
Breaks bytes offset Trailing = HasTrailing bytes offset
Breaks bytes offset TooLarge = IsUnfinished bytes × (limit < length bytes) × (offset ≡ limit)
Breaks bytes offset Truncated = IsUnfinished bytes × (length bytes ≤ limit) × (offset ≡ length bytes)
Breaks bytes offset rule = BreaksField bytes offset rule

-- ---- a decoder

-- the bytes that were taken, and how far they came
pub record Progress : Type 0 where
  pub taken : List ℕ
  pub standing : Standing

pub record IsNew (d : Progress) : Type 0 where
  pub taken : d.taken ≡ []
  pub standing : d.standing ≡ standing.Reading

-- the value ended within the piece, behind so many bytes
pub record Ends (old : Progress) (piece : List ℕ) (n : ℕ) (new : Progress) : Type 0 where
  pub within : n ≤ length piece
  pub taken : new.taken ≡ old.taken ++ take n piece
  pub spelled : IsSpelling new.taken
  pub standing : new.standing ≡ standing.Complete

-- all of the piece was taken, and the value isn't complete
pub record GoesOn (old : Progress) (piece : List ℕ) (new : Progress) : Type 0 where
  pub taken : new.taken ≡ old.taken ++ piece
  pub unfinished : IsUnfinished new.taken
  pub fits : length new.taken ≤ limit
  pub standing : new.standing ≡ standing.Reading

-- what a piece leads to where no call was refused before and the value isn't complete
abbrev pub ReadGives : Progress → List ℕ → Result Fed PexFault → Progress → Type 0
ReadGives old piece (Ok More) new = GoesOn old piece new
ReadGives old piece (Ok (Done n)) new = Ends old piece n new
ReadGives old piece (Err (Broken offset rule)) new =
    Breaks (old.taken ++ piece) offset rule × (rule ≢ Truncated) × (rule ≢ Trailing) × (new.standing ≡ standing.Refused (Broken offset rule))
ReadGives old piece (Err OutOfMemory) new = new.standing ≡ standing.Refused OutOfMemory

-- behind the value only an empty piece may come
pub record EndedGives (old : Progress) (piece : List ℕ) (result : Result Fed PexFault) (new : Progress) : Type 0 where
  pub empty : length piece ≡ 0 → (result ≡ Ok (Done 0)) × (new ≡ old)
  pub trailing : 0 < length piece → (result ≡ Err (Broken (length old.taken) Trailing)) × (new.standing ≡ standing.Refused (Broken (length old.taken) Trailing))

abbrev pub FeedFrom : Standing → Progress → List ℕ → Result Fed PexFault → Progress → Type 0
FeedFrom standing.Reading old piece result new = ReadGives old piece result new
FeedFrom standing.Complete old piece result new = EndedGives old piece result new
FeedFrom (standing.Refused fault) old piece result new = (result ≡ Err fault) × (new ≡ old)

abbrev pub FeedGives : Progress → List ℕ → Result Fed PexFault → Progress → Type 0
FeedGives old piece result new = FeedFrom old.standing old piece result new

-- the value that the bytes spell, or no memory for it
abbrev pub MakesValue : List ℕ → Result Pex PexFault → Type 0
MakesValue taken (Ok v) = Spells (plain v) taken
MakesValue taken (Err OutOfMemory) = Unit {0}
MakesValue taken (Err (Broken offset rule)) = ⊥

abbrev pub EndFrom : Standing → List ℕ → Result Pex PexFault → Type 0
EndFrom standing.Reading taken result = (result ≡ Err (Broken (length taken) Truncated)) × Breaks taken (length taken) Truncated
EndFrom standing.Complete taken result = MakesValue taken result
EndFrom (standing.Refused fault) taken result = result ≡ Err fault

abbrev pub EndGives : Progress → Result Pex PexFault → Type 0
EndGives d result = EndFrom d.standing d.taken result

abbrev pub FinishFrom : Standing → List ℕ → Result Unit PexFault → Type 0
FinishFrom standing.Reading taken result = (result ≡ Err (Broken (length taken) Truncated)) × Breaks taken (length taken) Truncated
FinishFrom standing.Complete taken result = (result ≡ Ok tt) × IsSpelling taken
FinishFrom (standing.Refused fault) taken result = result ≡ Err fault

-- the same without the value
abbrev pub FinishGives : Progress → Result Unit PexFault → Type 0
FinishGives d result = FinishFrom d.standing d.taken result

-- ---- what is left of it where only the number of the bytes is known

-- a value that so many bytes spell
pub record IsSpelledBy (taken : ℕ) (v : PlainPex) : Type 0 where
  pub shaped : IsWellShaped v
  pub fits : Fits v
  pub size : length (spelling v) ≡ taken

-- the value that so many bytes were
abbrev pub IsDecoded : ℕ → Pex → Type 0
IsDecoded taken v = IsSpelledBy taken (plain v)

-- so many bytes were a value
abbrev pub SpellOne : ℕ → Type 0
SpellOne taken = (v : PlainPex) × IsSpelledBy taken v

-- ---- a whole file at once

-- the value that the bytes spell, or the first rule that they break
abbrev pub Decodes : List ℕ → Result Pex PexFault → Type 0
Decodes bytes (Ok v) = Spells (plain v) bytes
Decodes bytes (Err (Broken offset rule)) = Breaks bytes offset rule
Decodes bytes (Err OutOfMemory) = Unit {0}

-- the same without the value
abbrev pub Judges : List ℕ → Result Unit PexFault → Type 0
Judges bytes (Ok _) = IsSpelling bytes
Judges bytes (Err (Broken offset rule)) = Breaks bytes offset rule
Judges bytes (Err OutOfMemory) = Unit {0}

-- a new decoder that got all of the bytes
abbrev pub StandsAt : List ℕ → Progress → Standing → Type 0
StandsAt bytes d standing.Reading = d.taken ≡ bytes
StandsAt bytes d standing.Complete = d.taken ≡ bytes
StandsAt bytes d (standing.Refused fault) = ⊥

abbrev pub GotAll : List ℕ → Result Unit PexFault → Progress → Type 0
GotAll bytes (Ok _) d = StandsAt bytes d d.standing
GotAll bytes (Err (Broken offset rule)) d = Breaks bytes offset rule
GotAll bytes (Err OutOfMemory) d = Unit {0}

abbrev pub DecoderOf : List ℕ → Result Progress PexFault → Type 0
DecoderOf bytes (Ok d) = StandsAt bytes d d.standing
DecoderOf bytes (Err (Broken offset rule)) = Breaks bytes offset rule
DecoderOf bytes (Err OutOfMemory) = Unit {0}
