-- What a decoder holds.
use Rattle.std.specs.Prelude.{◌≡◌, ◌≢◌, ℕ, ◌≤◌, List, ◌++◌, length, take, drop, Result, Ok, Err}
use Rattle.papy_base.specs.declared.faults.Fault.{Fault}
use Rattle.papy_base.specs.declared.faults.Fault.TheVariants as fault
use Rattle.pex_values.specs.Fit.{limit}
use Rattle.pex_values.specs.Plain.{PlainPex}
use Rattle.pex_codec.specs.declared.cursor.Stop.{Stop}
use Rattle.pex_codec.specs.declared.cursor.Stop.TheVariants as stop
use Rattle.pex_codec.specs.declared.decoder.Decoder.TheInside.{Inside}
use Rattle.pex_codec.specs.declared.faults.PexFault.{PexFault}
use Rattle.pex_codec.specs.declared.faults.PexFault.TheVariants.{Broken, OutOfMemory}
use Rattle.pex_codec.specs.declared.faults.PexRule.{PexRule}
use Rattle.pex_codec.specs.declared.faults.PexRule.TheVariants.{Truncated, Trailing}
use Rattle.pex_codec.specs.declared.decoder.Fed.{Fed}
use Rattle.pex_codec.specs.declared.decoder.Fed.TheVariants.{More, Done}
use Rattle.pex_codec.specs.declared.decoder.Standing.{Standing}
use Rattle.pex_codec.specs.declared.decoder.Standing.TheVariants as standing
use Rattle.pex_codec.specs.declared.decoder.ScannedBytes.{ScannedBytes}
use Rattle.pex_codec.specs.Decoding.{Progress, Breaks, IsSpelling, IsUnfinished}
use Rattle.pex_codec.specs.Laws.{AreBytes}
use Rattle.pex_codec.specs.Reading.{Reading, Got, Short, Refused, read_as, pex_at}
use Rattle.pex_codec.specs.Scans.{left_at}

-- where a value ends, and of how many strings it is
abbrev pub ends : Reading PlainPex → Reading ℕ
ends reading = read_as (λ v. length v.strings) reading

-- the scan stands before the open item: what it reads from there on, whatever follows, ends as the file does
pub record Follows (t : ScannedBytes) : Type 0 where
  pub within : t.open ≤ length t.bytes.items
  pub fits : length t.bytes.items ≤ limit
  pub each : AreBytes t.bytes.items
  pub same : (x : List ℕ) → ends (pex_at 0 (t.bytes.items ++ x)) ≡ left_at t.scan t.open (drop t.open t.bytes.items ++ x)

-- and the bytes end within the open item
pub record IsOpen (t : ScannedBytes) : Type 0 where
  pub follows : Follows t
  pub short : left_at t.scan t.open (drop t.open t.bytes.items) ≡ Short

-- the value ended
pub record HasEnded (t : ScannedBytes) : Type 0 where
  pub strings : ℕ
  pub rest : List ℕ
  pub ended : ends (pex_at 0 t.bytes.items) ≡ Got strings t.open rest
  pub within : t.open ≤ length t.bytes.items
  pub each : AreBytes t.bytes.items

-- what going over the bytes led to
abbrev pub GoesOver : ScannedBytes → Result Unit (Fault Stop) → ScannedBytes → Type 0
GoesOver old (Ok _) new = (new.bytes ≡ old.bytes) × HasEnded new
GoesOver old (Err (fault.Broken stop.Short)) new = (new.bytes ≡ old.bytes) × IsOpen new
GoesOver old (Err (fault.Broken (stop.Refused offset rule))) new = ends (pex_at 0 old.bytes.items) ≡ Refused offset rule
GoesOver old (Err fault.OutOfMemory) new = Unit {0}

-- the value ended within the piece, behind so many bytes
pub record TakesEnd (old : List ℕ) (piece : List ℕ) (n : ℕ) (new : List ℕ) : Type 0 where
  pub within : n ≤ length piece
  pub taken : new ≡ old ++ take n piece
  pub spelled : IsSpelling new

pub record TakesAll (old : ScannedBytes) (piece : List ℕ) (new : ScannedBytes) : Type 0 where
  pub taken : new.bytes.items ≡ old.bytes.items ++ piece
  pub unfinished : IsUnfinished new.bytes.items
  pub stands : IsOpen new

-- a rule that a piece may break
pub record BreaksPiece (bytes : List ℕ) (offset : ℕ) (rule : PexRule) : Type 0 where
  pub breaks : Breaks bytes offset rule
  pub more : rule ≢ Truncated
  pub not_behind : rule ≢ Trailing

-- what taking a piece led to
abbrev pub TakesPiece : ScannedBytes → List ℕ → Result Fed PexFault → ScannedBytes → Type 0
TakesPiece old piece (Ok More) new = TakesAll old piece new
TakesPiece old piece (Ok (Done n)) new = TakesEnd old.bytes.items piece n new.bytes.items
TakesPiece old piece (Err (Broken offset rule)) new = BreaksPiece (old.bytes.items ++ piece) offset rule
TakesPiece old piece (Err OutOfMemory) new = Unit {0}

-- ---- the decoder

abbrev pub progress_of : Inside → Progress
progress_of d = record { taken = d.taken.bytes.items; standing = d.standing }

abbrev pub StandsAs : Standing → ScannedBytes → Type 0
StandsAs standing.Reading t = IsOpen t
StandsAs standing.Complete t = IsSpelling t.bytes.items
StandsAs (standing.Refused fault) t = Unit {0}

abbrev pub IsSound : Inside → Type 0
IsSound d = StandsAs d.standing d.taken
