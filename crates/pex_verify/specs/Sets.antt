-- What a set that was loaded holds.
use Rattle.std.specs.Prelude.{◌≡◌, ℕ, ◌<◌, ◌≤◌, List, length, vec_len, slice_index_or, All}
use Rattle.core_tree.specs.declared.outline.OutlineScript.{OutlineScript}
use Rattle.loaded_code.specs.declared.script.LoadedScript.{LoadedScript}
use Rattle.pex_values.specs.declared.values.Pex.{Pex}
use Rattle.pex_verify.specs.declared.judged.JudgedScript.{JudgedScript}
use Rattle.pex_verify.specs.Files.{IsFile}
use Rattle.pex_verify.specs.Soundness.{bounds_with, IsSoundScript, IsSoundOutline}

-- what a caller sees of a set
pub record LoadedSet : Type 0 where
  pub outline : List OutlineScript
  pub files : List Pex
  pub scripts : List LoadedScript

-- the same as it is judged
pub record JudgedSet : Type 0 where
  pub outline : List OutlineScript
  pub files : List Pex
  pub scripts : List JudgedScript

-- a script and its outline, in a set of so many scripts
pub record IsSoundPair (count : ℕ) (o : OutlineScript) (s : JudgedScript) : Type 0 where
  pub script : IsSoundScript (bounds_with count (vec_len o.variables)) s
  pub outline : IsSoundOutline count o

-- the scripts that were loaded so far, in a set of so many, with their outlines: at most the prelude's 6 and 4,096 others
pub record AreSoundScripts (count : ℕ) (outlines : List OutlineScript) (scripts : List JudgedScript) : Type 0 where
  pub one_each : length outlines ≡ length scripts
  pub numbered : length scripts ≤ 4102
  pub each : (n : ℕ) (o : OutlineScript) (s : JudgedScript) → n < length scripts → IsSoundPair count (slice_index_or outlines n o) (slice_index_or scripts n s)

-- a set of files that can be written, and all scripts of them and of the prelude
pub record IsSoundSet (set : JudgedSet) : Type 0 where
  pub files : All IsFile set.files
  pub scripts : AreSoundScripts (length set.scripts) set.outline set.scripts

-- the outlines of a set of so many scripts
pub record AreSoundOutlines (count : ℕ) (outlines : List OutlineScript) : Type 0 where
  pub number : length outlines ≡ count
  pub each : (n : ℕ) (o : OutlineScript) → n < count → IsSoundOutline count (slice_index_or outlines n o)
