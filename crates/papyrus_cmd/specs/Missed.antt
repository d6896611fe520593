-- Which word a command missed.
use Rattle.std.specs.Prelude.{◌≡◌, ℕ, ◌+◌, ◌<◌, List, [], length, Option, Some, Contains}
use Rattle.command_files.specs.declared.ending.Ending.{Ending}
use Rattle.command_files.specs.declared.ending.Ending.TheVariants.{Done, OutOfMemory, Usage, ReadFault, WriteFault, Refused, NotBuilt}
use Rattle.command_files.specs.Ending.{MissesScript, word_at}
use Rattle.run_commands.specs.Program.{MissesRead}
use Rattle.papyrus_cmd.specs.declared.command.PlayCommand.{PlayCommand}
use Rattle.papyrus_cmd.specs.declared.command.PlayCommand.TheVariants as play
use Rattle.papyrus_cmd.specs.Command.{files_read}

-- the word of this number is the one missed, and names a file that the command reads
pub record MissesFileAt (words : List (List ℕ)) (word : ℕ) (missed : Option (List ℕ)) : Type 0 where
  pub within : word < length words
  pub read : Contains (files_read words) (word_at words word)
  pub missed_is : missed ≡ Some (word_at words word)

abbrev pub MissesWord : List (List ℕ) → Ending → Option (List ℕ) → Type 0
MissesWord words (ReadFault word) missed = MissesFileAt words word missed
MissesWord words Done missed = Unit {0}
MissesWord words OutOfMemory missed = Unit {0}
MissesWord words Usage missed = Unit {0}
MissesWord words WriteFault missed = Unit {0}
MissesWord words (Refused word place rule) missed = Unit {0}
MissesWord words NotBuilt missed = Unit {0}

-- the file of this word is the one missed, where a command that runs scripts reads it
abbrev pub MissesPlayed : PlayCommand → List (List ℕ) → Ending → Option (List ℕ) → Type 0
MissesPlayed play.Once names ending missed = MissesScript names ending missed
MissesPlayed play.Run names ending missed = MissesScript names ending missed
MissesPlayed play.Exec names ending missed = MissesRead 1 2 names ending missed
MissesPlayed play.Journal names ending missed = MissesRead 1 3 names ending missed
MissesPlayed (play.Hold turns) names ending missed = MissesRead 2 4 names ending missed
MissesPlayed (play.Resume turns) names ending missed = MissesRead 2 (length names + 1) names ending missed
MissesPlayed (play.Sample workers) names ending missed = MissesScript [] ending missed
