-- How the scripts of a set come from the files.
use Rattle.std.specs.Prelude.{ℕ, ◌≡◌, ◌+◌, ◌-◌, ◌<◌, ◌≤◌, List, ◌++◌, All, drop, length, slice_index_or, Contains, IfSome, IsSome}
use Rattle.script_parser.specs.declared.script.Function.{Function}
use Rattle.script_parser.specs.declared.script.Script.{Script}
use Rattle.script_parser.specs.Lines.{lines_of, own_lines}
use Rattle.script_linker.specs.Lookup.{script_named}
use Rattle.script_linker.specs.Rules.{IsBelow, IsParent}
use Rattle.script_linker.specs.declared.set.SourceFile.{SourceFile}
use Rattle.script_linker.specs.declared.fault.LinkFault.{LinkFault}
use Rattle.script_linker.specs.declared.fault.LinkFault.TheVariants.{Broken, OutOfMemory}

-- the file is the same but for functions that were put behind its own
pub record IsCompleted (before after : SourceFile) : Type 0 where
  pub name : after.name ≡ before.name
  pub rest : after.script ≡ record before.script { functions = after.script.functions }
  pub added : List Function
  pub functions : after.script.functions.items ≡ before.script.functions.items ++ added

-- each file of the new list is the old one's, completed
pub record AreCompleted (old new : List SourceFile) : Type 0 where
  pub count : length new ≡ length old
  pub each : (n : ℕ) (file : SourceFile) → n < length old → IsCompleted (slice_index_or old n file) (slice_index_or new n file)

-- behind the prelude's six scripts stand the files in order, completed
pub record AreFilesOf (files set : List SourceFile) : Type 0 where
  pub count : length set ≡ length files + 6
  pub each : (n : ℕ) (file : SourceFile) → n < length files → IsCompleted (slice_index_or files n file) (slice_index_or set (n + 6) file)

-- the script of this number behind the prelude: no script of the prelude and no earlier file's has its name, what it names as its parent is a script of the set and no library, and its imports are scripts of the set
pub record IsResolved (set : List SourceFile) (n : ℕ) (script : Script) : Type 0 where
  pub own_name : ¬ IsBelow 6 (script_named set script.name)
  pub new_name : ¬ IsBelow (n - 6) (script_named (drop 6 set) script.name)
  pub parent : IfSome script.parent (λ name. IsParent (script_named set name))
  pub imports : All (λ import. IsSome (script_named set import.1)) script.imports.items

-- so is each script behind the prelude
abbrev pub AreResolved : List SourceFile → Type 0
AreResolved set =
    (n : ℕ) (file : SourceFile) → 6 ≤ n → n < length set → IsResolved set n (slice_index_or set n file).script

-- a broken rule stands in one of these files, on a line of its script
abbrev pub IsFaultOf : List SourceFile → LinkFault → Type 0
IsFaultOf files (Broken file line rule) =
    (file < length files) × ((source : SourceFile) → Contains (lines_of (slice_index_or files file source).script) line)
IsFaultOf files OutOfMemory = Unit {0}

-- in a set a broken rule stands in a file behind the prelude, on one of the lines that are given for the file of a number
abbrev pub IsFaultOn : (ℕ → Script → List ℕ) → List SourceFile → LinkFault → Type 0
IsFaultOn lines set (Broken file line rule) =
    (file + 6 < length set) × ((source : SourceFile) → Contains (lines file (slice_index_or set (file + 6) source).script) line)
IsFaultOn lines set OutOfMemory = Unit {0}

-- the lines of the file of a number, where so many functions of each file are its own
abbrev pub declared_lines : List ℕ → ℕ → Script → List ℕ
declared_lines declared file script = own_lines (slice_index_or declared file 0) script

abbrev pub function_count : SourceFile → ℕ
function_count file = length file.script.functions.items
