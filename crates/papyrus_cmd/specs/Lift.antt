-- What `lift` gives and leaves.
use Rattle.std.specs.Prelude.{◌≡◌, ◌⊎◌, ℕ, List, All, codes, length, map, Option, Result, Ok, Err, IfSome}
use Rattle.std.specs.declared.alloc.Global.{Global}
use Rattle.std.specs.declared.vec.Vec.{Vec}
use Rattle.papy_io.specs.Files.{Files}
use Rattle.pex_lift.specs.Lifted.{AreLifted}
use Rattle.pex_lift.specs.declared.fault.LiftRule.{LiftRule}
use Rattle.pex_values.specs.Plain.{PlainPex, plain}
use Rattle.pex_values.specs.declared.values.Pex.{Pex}
use Rattle.pex_verify.specs.Files.{IsFile}
use Rattle.command_files.specs.declared.ending.Ending.{Ending}
use Rattle.command_files.specs.declared.ending.Ending.TheVariants as ending
use Rattle.command_files.specs.declared.refusal.Place.{Place}
use Rattle.command_files.specs.declared.refusal.Place.TheVariants.{Whole}
use Rattle.command_files.specs.declared.refusal.Rule.{Rule}
use Rattle.command_files.specs.declared.refusal.Rule.TheVariants.{Lifting}
use Rattle.command_files.specs.Held.{AreHeld}
use Rattle.run_commands.specs.Program.{AreSpelled, RefusesSet}
use Rattle.papyrus_cmd.specs.Written.{Written, WritesSome}

-- no sources were found, which is told of the first file
pub record IsNotLifted (word : ℕ) (place : Place) (rule : Rule) : Type 0 where
  pub broken : LiftRule
  pub word_is : word ≡ 1
  pub place_is : place ≡ Whole
  pub rule_is : rule ≡ Lifting broken

-- sources of these files, or that none were found
abbrev pub Lifts : List PlainPex → Result (Vec (List ℕ) Global) Ending → Type 0
Lifts files (Ok texts) = AreLifted files texts.items × (length texts.items ≡ length files)
Lifts files (Err (ending.Refused word place rule)) = IsNotLifted word place rule
Lifts files (Err ending.OutOfMemory) = Unit {0}
Lifts files (Err (ending.ReadFault word)) = ⊥
Lifts files (Err ending.Done) = ⊥
Lifts files (Err ending.Usage) = ⊥
Lifts files (Err ending.WriteFault) = ⊥
Lifts files (Err ending.NotBuilt) = ⊥

-- the compiled files of these names are refused so: one by itself or among the others, or they have no sources
abbrev pub RefusesLifted : List (List ℕ) → Files → ℕ → Place → Rule → Type 0
RefusesLifted names files word place rule =
    RefusesSet 1 names files word place rule ⊎ (IsNotLifted word place rule × AreHeld names files)

-- a source for each compiled file, and as a set they compile to the code of the values that the files spell, one by one
pub record HaveSources (names : List (List ℕ)) (holds : Option Files) (texts : List (List ℕ)) : Type 0 where
  pub values : List Pex
  pub valid : All IsFile values
  pub spelled : IfSome holds (AreSpelled names values)
  pub value_each : length values ≡ length names
  pub one_each : length texts ≡ length names
  pub lifted : AreLifted (map plain values) texts

abbrev pub LiftsAll : List (List ℕ) → Option Files → Option Files → Type 0
LiftsAll names old new = (texts : List (List ℕ)) × HaveSources names old texts × Written (codes ".lift.psc") (length names) names texts old new

-- the same where a write failed or found no memory, or where none began
abbrev pub MayLift : List (List ℕ) → Option Files → Option Files → Type 0
MayLift names old new = (new ≡ old) ⊎ ((texts : List (List ℕ)) × HaveSources names old texts × WritesSome (codes ".lift.psc") names texts old new)

-- what the files are by the way that `lift` ended
abbrev pub LiftLeaves : List (List ℕ) → Ending → Option Files → Option Files → Type 0
LiftLeaves names ending.Done old new = LiftsAll names old new
LiftLeaves names ending.WriteFault old new = MayLift names old new
LiftLeaves names ending.OutOfMemory old new = MayLift names old new
LiftLeaves names (ending.ReadFault word) old new = new ≡ old
LiftLeaves names (ending.Refused word place rule) old new = new ≡ old
LiftLeaves names ending.Usage old new = ⊥
LiftLeaves names ending.NotBuilt old new = ⊥
