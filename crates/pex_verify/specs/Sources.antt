-- How many objects and scripts files have.
use Rattle.std.specs.Prelude.{◌≡◌, ℕ, ◌+◌, List, Some, map, is_some, sum_by, vec_len, All}
use Rattle.pex_set.specs.Names.{number_in}
use Rattle.pex_values.specs.Bits.{has_variable, has_read, has_write}
use Rattle.pex_values.specs.declared.values.Pex.{Pex}
use Rattle.pex_values.specs.declared.values.PexProperty.{PexProperty}
use Rattle.pex_verify.specs.declared.sources.FileStrings.{FileStrings}
use Rattle.pex_verify.specs.declared.sources.SetFile.{SetFile}
use Rattle.pex_verify.specs.Pairs.{Paired}

abbrev pub objects_of : Pex → ℕ
objects_of file = vec_len file.objects

-- the scripts of a set of files: the prelude's six, and one for each object
abbrev pub script_count : List Pex → ℕ
script_count files = 6 + sum_by objects_of files

abbrev pub objects_in : SetFile → ℕ
objects_in source = vec_len source.pex.now.objects

abbrev pub object_count : List SetFile → ℕ
object_count sources = sum_by objects_in sources

-- the strings of a file as names, and their numbers in the table
pub record AreStrings (table : List (List ℕ)) (texts : List (List ℕ)) (strings : FileStrings) : Type 0 where
  pub titles : strings.titles.items ≡ texts
  pub numbers : map Some strings.names ≡ map (number_in table) texts

-- those of files, in order
abbrev pub AreNamed : List (List ℕ) → List Pex → List FileStrings → Type 0
AreNamed table files strings = Paired Pex FileStrings (λ n f s. AreStrings table f.strings.items s) files strings

-- each string of the file is there as a name, with its number in the table
pub record IsNamed (table : List (List ℕ)) (source : SetFile) : Type 0 where
  pub titles : source.titles.now ≡ source.pex.now.strings.items
  pub numbers : map Some source.names.now ≡ map (number_in table) source.pex.now.strings.items

-- a property has the parts that its bits ask for
pub record HasParts (p : PexProperty) : Type 0 where
  pub variable : is_some p.variable ≡ has_variable p.bits
  pub read : is_some p.read ≡ has_read p.bits
  pub write : is_some p.write ≡ has_write p.bits

abbrev pub HaveParts : Pex → Type 0
HaveParts file = All (λ object. All HasParts object.properties.items) file.objects.items
