-- What a command has written by the way that it ended.
use Rattle.std.specs.Prelude.{◌≡◌, ◌⊎◌, ℕ, List, [], take, Option, Some, IfSome}
use Rattle.papy_io.specs.Files.{Files, told_bytes}
use Rattle.papy_io.specs.Sink.{Appended}
use Rattle.stack_save.specs.declared.fault.HeldRule.TheVariants.{TooLarge}
use Rattle.command_files.specs.declared.ending.Ending.{Ending}
use Rattle.command_files.specs.declared.ending.Ending.TheVariants.{Done, OutOfMemory, Usage, ReadFault, WriteFault, Refused, NotBuilt}
use Rattle.command_files.specs.declared.refusal.Place.{Place}
use Rattle.command_files.specs.declared.refusal.Rule.{Rule}
use Rattle.command_files.specs.declared.refusal.Rule.TheVariants.{Held}

-- a command that was cut short has written nothing, or the first part of what it writes
abbrev pub IsPart : (Ending → List ℕ → Type 0) → List ℕ → Type 0
IsPart Ends part = (part ≡ []) ⊎ ((text : List ℕ) × (n : ℕ) × Ends Done text × (part ≡ take n text))

-- how a command ends on the file of this name, by the bytes that it holds
abbrev pub AnswersTo : (List ℕ → Ending → List ℕ → Type 0) → List ℕ → Files → Ending → List ℕ → Type 0
AnswersTo Ends name files ending text = (bytes : List ℕ) × (told_bytes (Some files) name ≡ Some bytes) × Ends bytes ending text

-- a held file is too large to be written, which is known only after the lines of its run were written
pub record RefusedLate (Ends : Files → Ending → List ℕ → Type 0) (holds : Option Files) (word : ℕ) (place : Place) (rule : Rule) (before now : Option (List ℕ)) : Type 0 where
  pub rule_is : rule ≡ Held TooLarge
  pub text : List ℕ
  pub appended : Appended text before now
  pub ends : IfSome holds (λ files. Ends files (Refused word place rule) text)
  pub part : IfSome holds (λ files. IsPart (Ends files) text)

-- what a command that ends so has written by the way that it ended
abbrev pub Outputs : (Files → Ending → List ℕ → Type 0) → Option Files → Ending → Option (List ℕ) → Option (List ℕ) → Type 0
Outputs Ends holds Done before now =
    (text : List ℕ) × Appended text before now × IfSome holds (λ files. Ends files Done text)
Outputs Ends holds OutOfMemory before now =
    (part : List ℕ) × Appended part before now × IfSome holds (λ files. IsPart (Ends files) part)
Outputs Ends holds WriteFault before now =
    (part : List ℕ) × Appended part before now × IfSome holds (λ files. IsPart (Ends files) part)
Outputs Ends holds (ReadFault word) before now = now ≡ before
Outputs Ends holds Usage before now = (now ≡ before) × IfSome holds (λ files. Ends files Usage [])
Outputs Ends holds (Refused word place rule) before now =
    ((now ≡ before) × IfSome holds (λ files. Ends files (Refused word place rule) [])) ⊎ RefusedLate Ends holds word place rule before now
Outputs Ends holds NotBuilt before now = (now ≡ before) × IfSome holds (λ files. Ends files NotBuilt [])

-- how a command ends that writes nothing to `out`
abbrev pub EndsUnprinted : (Files → Ending → List ℕ → Type 0) → Option Files → Ending → Type 0
EndsUnprinted Ends holds Done = IfSome holds (λ files. Ends files Done [])
EndsUnprinted Ends holds NotBuilt = IfSome holds (λ files. Ends files NotBuilt [])
EndsUnprinted Ends holds (Refused word place rule) = IfSome holds (λ files. Ends files (Refused word place rule) [])
EndsUnprinted Ends holds (ReadFault word) = Unit {0}
EndsUnprinted Ends holds OutOfMemory = Unit {0}
EndsUnprinted Ends holds WriteFault = Unit {0}
EndsUnprinted Ends holds Usage = ⊥

-- a command that writes this text alone
abbrev pub WritesOnly : List ℕ → Ending → Option (List ℕ) → Option (List ℕ) → Type 0
WritesOnly text Done before now = Appended text before now
WritesOnly text OutOfMemory before now = (n : ℕ) × Appended (take n text) before now
WritesOnly text WriteFault before now = (n : ℕ) × Appended (take n text) before now
WritesOnly text (ReadFault word) before now = ⊥
WritesOnly text Usage before now = ⊥
WritesOnly text (Refused word place rule) before now = ⊥
WritesOnly text NotBuilt before now = ⊥
