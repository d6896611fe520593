-- What `compile` leaves.
use Rattle.std.specs.Prelude.{◌≡◌, ◌⊎◌, ℕ, List, codes, length, Option}
use Rattle.papy_io.specs.Files.{Files}
use Rattle.pex_values.specs.declared.values.Pex.{Pex}
use Rattle.command_files.specs.declared.ending.Ending.{Ending}
use Rattle.command_files.specs.declared.ending.Ending.TheVariants as ending
use Rattle.command_files.specs.Compiled.{AreFilesOf}
use Rattle.papyrus_cmd.specs.Written.{Written, WritesSome}

-- a file for each script, with the bytes that spell its value
pub record HaveFiles (scripts files : List (List ℕ)) : Type 0 where
  pub values : List Pex
  pub one_each : length files ≡ length scripts
  pub spelled : AreFilesOf values files

abbrev pub Compiles : List (List ℕ) → Option Files → Option Files → Type 0
Compiles scripts old new = (files : List (List ℕ)) × HaveFiles scripts files × Written (codes ".pex") (length scripts) scripts files old new

-- the same where a write failed or found no memory, or where none began
abbrev pub MayCompile : List (List ℕ) → Option Files → Option Files → Type 0
MayCompile scripts old new = (new ≡ old) ⊎ ((files : List (List ℕ)) × HaveFiles scripts files × WritesSome (codes ".pex") scripts files old new)

-- what the files are by the way that `compile` ended
abbrev pub CompileLeaves : List (List ℕ) → Ending → Option Files → Option Files → Type 0
CompileLeaves scripts ending.Done old new = Compiles scripts old new
CompileLeaves scripts ending.WriteFault old new = MayCompile scripts old new
CompileLeaves scripts ending.OutOfMemory old new = MayCompile scripts old new
CompileLeaves scripts (ending.ReadFault word) old new = new ≡ old
CompileLeaves scripts (ending.Refused word place rule) old new = new ≡ old
CompileLeaves scripts ending.NotBuilt old new = new ≡ old
CompileLeaves scripts ending.Usage old new = ⊥
