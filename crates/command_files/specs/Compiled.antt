-- Which bytes the files of a set of scripts have.
use Rattle.std.specs.Prelude.{◌≡◌, ℕ, List, length, map, All}
use Rattle.papy_base.specs.Bytes.{bytes_of}
use Rattle.pex_values.specs.Plain.{plain}
use Rattle.pex_values.specs.Spelling.{spelling}
use Rattle.pex_values.specs.declared.values.Pex.{Pex}
use Rattle.pex_verify.specs.Files.{IsFile}
use Rattle.command_files.specs.declared.compiled.CompiledSet.{CompiledSet}

-- the bytes that spell a value
abbrev pub spelled : Pex → List ℕ
spelled value = spelling (plain value)

-- each value is that of a file, and its bytes stand in its place
pub record AreFilesOf (values : List Pex) (files : List (List ℕ)) : Type 0 where
  pub valid : All IsFile values
  pub bytes : files ≡ map spelled values

-- so many files, with the bytes of the values that were judged
pub record HasFiles (count : ℕ) (set : CompiledSet) : Type 0 where
  pub number : length set.judged.files ≡ count
  pub files : AreFilesOf set.judged.files (map bytes_of set.files.items)
