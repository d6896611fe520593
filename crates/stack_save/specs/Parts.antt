-- Which parts of a file may be, and what putting one at the end of bytes or taking one from their front does.
use Rattle.std.specs.Prelude.{◌≡◌, ℕ, ◌<◌, ◌^◌, List, ◌++◌, length, Result, Ok, Err, Some, None, ⊤}
use Rattle.std.specs.List.{AllByRecursion}
use Rattle.std.specs.List.Sorted.{IsStrictlyIncreasing}
use Rattle.machine_state.specs.Ranges as ranges
use Rattle.machine_state.specs.Savable as savable
use Rattle.stack_save.specs.Reading.{Found}
use Rattle.stack_save.specs.Spelling.{PlainLocks, PlainThings}
use Rattle.stack_save.specs.declared.fault.HeldFault.{HeldFault}
use Rattle.stack_save.specs.declared.fault.HeldFault.TheVariants.{Broken, OutOfMemory}
use Rattle.stack_save.specs.declared.fault.HeldRule.TheVariants.{BadLayout}

-- ---- putting and taking

-- the part's numbers are those of their types, and its bytes were added
pub record HasPut (InRange : Type 0) (spelling old new : List ℕ) : Type 0 where
  pub in_range : InRange
  pub bytes : new ≡ old ++ spelling

-- the part stood in front of `new`, and it is one that may be
pub record HasTaken {A : Type 0} (IsPart : A → Type 0) (spelling : A → List ℕ) (there : Found A) (part : A) (old new : List ℕ) : Type 0 where
  pub may : IsPart part
  pub found : there ≡ Some (part, new)
  pub bytes : old ≡ spelling part ++ new

abbrev pub Takes : {T A : Type 0} → (T → A) → (A → Type 0) → (A → List ℕ) → (List ℕ → Found A) → Result T HeldFault → List ℕ → List ℕ → Type 0
Takes plain IsPart spelling at (Ok part) old new = HasTaken IsPart spelling (at old) (plain part) old new
Takes plain IsPart spelling at (Err (Broken rule)) old new = (rule ≡ BadLayout) × (at old ≡ None)
Takes plain IsPart spelling at (Err OutOfMemory) old new = Unit {0}

-- ---- which parts may be

-- it fits its fields, and its numbers are those of their types
pub record IsPart {A : Type 0} (Savable InRange : A → Type 0) (part : A) : Type 0 where
  pub savable : Savable part
  pub in_range : InRange part

-- so many parts
pub record AreItems {A : Type 0} (number : ℕ) (Savable InRange : A → Type 0) (parts : List A) : Type 0 where
  pub count : length parts ≡ number
  pub savable : AllByRecursion Savable parts
  pub in_range : AllByRecursion InRange parts

-- fewer parts than this
pub record AreParts {A : Type 0} (limit : ℕ) (Savable InRange : A → Type 0) (parts : List A) : Type 0 where
  pub count : length parts < limit
  pub savable : AllByRecursion Savable parts
  pub in_range : AllByRecursion InRange parts

-- they ascend by their numbers
pub record AreAscending {A : Type 0} (numbers : List A → List ℕ) (InRange : A → Type 0) (parts : List A) : Type 0 where
  pub fit : AreParts (2 ^ 16) (λ (part : A). ⊤) InRange parts
  pub ascend : IsStrictlyIncreasing (numbers parts)

pub record AreLocks (locks : PlainLocks) : Type 0 where
  pub owners : AreAscending savable.firsts ranges.IsPairInRange locks.owners
  pub waiters : AreParts (2 ^ 16) (λ pair. ⊤) ranges.IsPairInRange locks.waiters
  pub free : AreAscending (λ free. free) ranges.IsU16 locks.free
  pub asleep : AreAscending savable.firsts ranges.IsSleeperInRange locks.asleep

pub record AreThings (things : PlainThings) : Type 0 where
  pub arrays : AreParts (2 ^ 16) savable.IsSavableArray ranges.IsArrayInRange things.arrays
  pub devices : AreParts (2 ^ 16) savable.IsSavableDevice ranges.IsDeviceInRange things.devices
  pub stacks : AreParts (2 ^ 16) savable.IsSavableStack ranges.IsStackInRange things.stacks

pub record AreLocksInRange (locks : PlainLocks) : Type 0 where
  pub owners : AllByRecursion ranges.IsPairInRange locks.owners
  pub waiters : AllByRecursion ranges.IsPairInRange locks.waiters
  pub free : AllByRecursion ranges.IsU16 locks.free
  pub asleep : AllByRecursion ranges.IsSleeperInRange locks.asleep

pub record AreThingsInRange (things : PlainThings) : Type 0 where
  pub arrays : AllByRecursion ranges.IsArrayInRange things.arrays
  pub devices : AllByRecursion ranges.IsDeviceInRange things.devices
  pub stacks : AllByRecursion ranges.IsStackInRange things.stacks
