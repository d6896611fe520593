-- Counts of 64 bits. One that stands at its last value stays there, and counts as risen.
use Rattle.std.specs.Prelude.{◌≡◌, ℕ, ◌+◌, ◌-◌, ◌^◌, ◌<◌, ◌≤◌, min, Result, Ok, Err}
use Rattle.papy_io.specs.declared.fault.IoFault.{IoFault}
use Rattle.papy_io.specs.declared.fault.IoFault.TheVariants.{Failed, OutOfMemory}
use Rattle.papy_io.specs.declared.fault.Failed as unit

abbrev pub last_count : ℕ
last_count = 2 ^ 64 - 1

-- the count after one more
abbrev pub counted : ℕ → ℕ
counted count = min (count + 1) last_count

-- the count after n more
abbrev pub counted_by : ℕ → ℕ → ℕ
counted_by count n = min (count + n) last_count

-- it is greater than before, or stands at its last value
pub record HasRisen (before now : ℕ) : Type 0 where
  pub never_falls : before ≤ now
  pub risen : now < last_count → before < now

-- it is greater than before by n, or stands at its last value
pub record HasRisenBy (n before now : ℕ) : Type 0 where
  pub never_falls : before ≤ now
  pub by : now < last_count → now ≡ before + n

-- a count of failed calls rises in a call that answers `Failed`, and in no other
abbrev pub CountsFaults : {T : Type 0} → Result T IoFault → ℕ → ℕ → Type 0
CountsFaults (Ok _) before now = now ≡ before
CountsFaults (Err Failed) before now = HasRisen before now
CountsFaults (Err OutOfMemory) before now = now ≡ before

-- the same of a call that takes no memory
abbrev pub CountsFailures : {T : Type 0} → Result T unit.Failed → ℕ → ℕ → Type 0
CountsFailures (Ok _) before now = now ≡ before
CountsFailures (Err _) before now = HasRisen before now
