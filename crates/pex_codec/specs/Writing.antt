-- What writing a part of a file does.
use Rattle.std.specs.Prelude.{◌≡◌, ℕ, ◌≤◌, List, [], ◌∷◌, ◌++◌, length, Result, Ok, Err, IfSome, ⊤}
use Rattle.std.specs.List.{AllByRecursion}
use Rattle.pex_values.specs.Fit.{IsCounted, FitsObject, FitsDebug, limit}
use Rattle.pex_values.specs.Plain.{PlainLines, PlainObject, PlainPex}
use Rattle.pex_values.specs.Spelling.{object_data}
use Rattle.pex_codec.specs.declared.faults.EncodeFault.{EncodeFault}
use Rattle.pex_codec.specs.declared.faults.EncodeFault.TheVariants.{TooManyItems, OutOfMemory}

-- after an Ok the part fits, and its bytes stand at the end; TooManyItems comes only where it doesn't fit
abbrev pub Writes : {T : Type 0} → Result T EncodeFault → List ℕ → List ℕ → Type 0 → List ℕ → Type 0
Writes (Ok _) old new Part bytes = Part × (new ≡ old ++ bytes)
Writes (Err TooManyItems) old new Part bytes = ¬ Part
Writes (Err OutOfMemory) old new Part bytes = Unit {0}

abbrev pub FitsLines : PlainLines → Type 0
FitsLines e = IsCounted e.lines

-- the object's lists are short enough, and its data is no longer than a file may be
abbrev pub HasSize : PlainObject → Type 0
HasSize o = FitsObject o × (length (object_data o) ≤ limit)

-- a list that is short enough for its count, of items that fit
abbrev pub FitEach : {A : Type 0} → (A → Type 0) → List A → Type 0
FitEach P xs = IsCounted xs × AllByRecursion P xs

-- what a list of items must be, said in another way
pub record FitsAsList {A : Type 0} (P : A → Type 0) (ListFits : List A → Type 0) (xs : List A) : Type 0 where
  pub all : ListFits xs → FitEach P xs
  pub fit : FitEach P xs → ListFits xs

-- of items that always fit a list must only be short enough for its count

each_fits : {A : Type 0} (xs : List A) → AllByRecursion (λ (x : A). ⊤) xs
each_fits [] = tt
each_fits (x ∷ xs) = (tt, each_fits xs)

pub counted_fits : {A : Type 0} (xs : List A) → FitsAsList (λ (x : A). ⊤) IsCounted xs
counted_fits xs = record { all = λ counted. (counted, each_fits xs); fit = λ all. all.0 }

-- the three parts of a value, in the order of the file

pub record FitsHeader (v : PlainPex) : Type 0 where
  pub source : IsCounted v.source
  pub user : IsCounted v.user
  pub machine : IsCounted v.machine

pub record FitsTables (v : PlainPex) : Type 0 where
  pub strings : FitEach IsCounted v.strings
  pub debug : IfSome v.debug FitsDebug
  pub user_flags : IsCounted v.user_flags

pub record FitsParts (v : PlainPex) : Type 0 where
  pub header : FitsHeader v
  pub tables : FitsTables v
  pub objects : FitEach HasSize v.objects
