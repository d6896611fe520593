-- What writing a file for each of some words leaves, whose name has another ending.
use Rattle.std.specs.Prelude.{◌≡◌, ℕ, zero, suc, ◌-◌, ◌<◌, List, [], ◌++◌, length, take, slice_index_or, Option, Result, Ok, Err}
use Rattle.papy_io.specs.declared.fault.IoFault.{IoFault}
use Rattle.papy_io.specs.Files.{Files, ChangesTold}
use Rattle.papy_io.specs.WriteFile.{HoldsNow, MayHold}

-- this ending in the place of the last four bytes
abbrev pub renamed : List ℕ → List ℕ → List ℕ
renamed ending word = take (length word - 4) word ++ ending

-- the one in this place
abbrev pub item : List (List ℕ) → ℕ → List ℕ
item items place = slice_index_or items place []

-- so many of the words' files hold their bytes, written one after the other
abbrev pub Written : List ℕ → ℕ → List (List ℕ) → List (List ℕ) → Option Files → Option Files → Type 0
Written ending zero words files old new = new ≡ old
Written ending (suc n) words files old new = (between : Option Files) × Written ending n words files old between
    × ChangesTold (renamed ending (item words n)) (HoldsNow (item files n)) between new

-- the files before one are written, that one may hold the first of its bytes, and those behind it are as they were
pub record WritesSome (ending : List ℕ) (words files : List (List ℕ)) (old new : Option Files) : Type 0 where
  pub count : ℕ
  pub within : count < length words
  pub between : Option Files
  pub written : Written ending count words files old between
  pub cut : ChangesTold (renamed ending (item words count)) (MayHold (item files count)) between new

-- all files are written, or those up to the first that failed
abbrev pub WritesEach : {T : Type 0} → List ℕ → List (List ℕ) → List (List ℕ) → Result T IoFault → Option Files → Option Files → Type 0
WritesEach ending words files (Ok _) old new = Written ending (length words) words files old new
WritesEach ending words files (Err _) old new = WritesSome ending words files old new
