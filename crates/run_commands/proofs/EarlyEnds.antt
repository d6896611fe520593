-- A command that ends before anything is written.
use Rattle.std.proofs.Common.{arith, ◌≢◌, ◌≤◌, ◌+◌, ℕ, List, [], append-nil, ap, refl, sym, inl}
use Rattle.std.specs.Prelude.{Option, None, Some, IfSome}
use Rattle.papy_io.specs.Files.{Files}
use Rattle.papy_io.specs.Sink.{Appended}
use Rattle.command_files.specs.declared.ending.Ending.{Ending}
use Rattle.command_files.specs.declared.ending.Ending.TheVariants.{Done, OutOfMemory, Usage, ReadFault, WriteFault, Refused, NotBuilt}
use Rattle.command_files.specs.Ending.{CountsReads, CountsWrites, IsWordBelow, one_later}
use Rattle.command_files.specs.Outputs.{IsPart, Outputs}

-- a file was not read or breaks a rule, or no memory was found
abbrev pub EndsEarly : (Files → Ending → List ℕ → Type 0) → Option Files → Ending → Type 0
EndsEarly Ends holds (Refused word place rule) = IfSome holds (λ files. Ends files (Refused word place rule) [])
EndsEarly Ends holds (ReadFault word) = Unit {0}
EndsEarly Ends holds OutOfMemory = Unit {0}
EndsEarly Ends holds Done = ⊥
EndsEarly Ends holds Usage = ⊥
EndsEarly Ends holds WriteFault = ⊥
EndsEarly Ends holds NotBuilt = ⊥

nothing-yet : (Ends : Files → Ending → List ℕ → Type 0) (holds : Option Files) → IfSome holds (λ files. IsPart (Ends files) [])
nothing-yet Ends None = tt
nothing-yet Ends (Some files) = inl refl

appended-nothing : (written : Option (List ℕ)) → Appended [] written written
appended-nothing None = refl
appended-nothing (Some text) = ap Some (sym (append-nil text))

pub early_outputs : (Ends : Files → Ending → List ℕ → Type 0) (holds : Option Files) (ending : Ending) (written : Option (List ℕ)) → EndsEarly Ends holds ending → Outputs Ends holds ending written written
early_outputs Ends holds (Refused word place rule) written ends = inl (refl, ends)
early_outputs Ends holds (ReadFault word) written ends = refl
early_outputs Ends holds OutOfMemory written ends = ([], appended-nothing written, nothing-yet Ends holds)
early_outputs Ends holds Done written ends = absurd ends
early_outputs Ends holds Usage written ends = absurd ends
early_outputs Ends holds WriteFault written ends = absurd ends
early_outputs Ends holds NotBuilt written ends = absurd ends

pub early_writes : (Ends : Files → Ending → List ℕ → Type 0) (holds : Option Files) (ending : Ending) (count : ℕ) → EndsEarly Ends holds ending → CountsWrites ending count count
early_writes Ends holds (Refused word place rule) count ends = refl
early_writes Ends holds (ReadFault word) count ends = refl
early_writes Ends holds OutOfMemory count ends = refl
early_writes Ends holds Done count ends = absurd ends
early_writes Ends holds Usage count ends = absurd ends
early_writes Ends holds WriteFault count ends = absurd ends
early_writes Ends holds NotBuilt count ends = absurd ends

pub early_is_no_usage : (Ends : Files → Ending → List ℕ → Type 0) (holds : Option Files) (ending : Ending) → EndsEarly Ends holds ending → ending ≢ Usage
early_is_no_usage Ends holds (Refused word place rule) ends = λ is. cc
early_is_no_usage Ends holds (ReadFault word) ends = λ is. cc
early_is_no_usage Ends holds OutOfMemory ends = λ is. cc
early_is_no_usage Ends holds Done ends = absurd ends
early_is_no_usage Ends holds Usage ends = absurd ends
early_is_no_usage Ends holds WriteFault ends = absurd ends
early_is_no_usage Ends holds NotBuilt ends = absurd ends

-- ---- words that stand one place later

pub word_within : (few many : ℕ) (ending : Ending) → few ≤ many → IsWordBelow few ending → IsWordBelow many ending
word_within few many (Refused word place rule) within below = omega arith
word_within few many (ReadFault word) within below = omega arith
word_within few many OutOfMemory within below = tt
word_within few many Done within below = tt
word_within few many Usage within below = tt
word_within few many WriteFault within below = tt
word_within few many NotBuilt within below = tt

pub later_word : (count : ℕ) (ending : Ending) → IsWordBelow count ending → IsWordBelow (count + 1) (one_later ending)
later_word count (Refused word place rule) below = omega arith
later_word count (ReadFault word) below = omega arith
later_word count OutOfMemory below = tt
later_word count Done below = tt
later_word count Usage below = tt
later_word count WriteFault below = tt
later_word count NotBuilt below = tt

pub later_reads : (ending : Ending) (before now : ℕ) → CountsReads ending before now → CountsReads (one_later ending) before now
later_reads (Refused word place rule) before now counts = counts
later_reads (ReadFault word) before now counts = counts
later_reads OutOfMemory before now counts = counts
later_reads Done before now counts = counts
later_reads Usage before now counts = counts
later_reads WriteFault before now counts = counts
later_reads NotBuilt before now counts = counts
