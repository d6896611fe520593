-- How many words a command may have behind it.
use Rattle.std.specs.Prelude.{ℕ, ◌≤◌}
use Rattle.papyrus_cmd.specs.declared.command.FileCommand.{FileCommand}
use Rattle.papyrus_cmd.specs.declared.command.FileCommand.TheVariants.{Compile, Check, Show, Asm, Upgrade, Waits, Lift}
use Rattle.papyrus_cmd.specs.declared.command.PlayCommand.{PlayCommand}
use Rattle.papyrus_cmd.specs.declared.command.PlayCommand.TheVariants.{Once, Run, Exec, Journal, Hold, Resume, Sample}

-- at least so many, and at most so many
pub record IsBetween (least most count : ℕ) : Type 0 where
  pub some : least ≤ count
  pub few : count ≤ most

abbrev pub SuitsFiles : FileCommand → ℕ → Type 0
SuitsFiles Compile count = IsBetween 1 256 count
SuitsFiles Check count = IsBetween 1 1 count
SuitsFiles Show count = IsBetween 1 1 count
SuitsFiles Asm count = IsBetween 2 2 count
SuitsFiles Upgrade count = IsBetween 2 2 count
SuitsFiles Waits count = IsBetween 1 1 count
SuitsFiles Lift count = IsBetween 1 256 count

-- a scene stands before 1 to 256 scripts or compiled files, with the file that is written behind it, and a number of turns before it, where there
-- are such; a sample has 1 to 200 workers
abbrev pub SuitsPlay : PlayCommand → ℕ → Type 0
SuitsPlay Once count = IsBetween 1 256 count
SuitsPlay Run count = IsBetween 2 257 count
SuitsPlay Exec count = IsBetween 2 257 count
SuitsPlay Journal count = IsBetween 3 258 count
SuitsPlay (Hold turns) count = IsBetween 4 259 count
SuitsPlay (Resume turns) count = IsBetween 2 2 count
SuitsPlay (Sample workers) count = IsBetween 1 200 workers
