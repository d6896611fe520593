-- What scripts with tables keep.
use Rattle.std.specs.Prelude.{ℕ, ◌≡◌, ◌<◌, List, length, Option, slice_index_or}
use Rattle.papy_base.specs.declared.name_table.NameTable.{NameTable}
use Rattle.script_linker.specs.declared.set.SourceFile.{SourceFile}
use Rattle.papy_base.specs.Lineage.{AreAmong, AreRooted}
use Rattle.papy_base.specs.Table.{IsPlaceTable}
use Rattle.script_linker.specs.Lookup.{function_name, property_name, parents_of}

-- each file has a table of its functions
abbrev pub HasFunctionTables : List SourceFile → List NameTable → Type 0
HasFunctionTables files tables =
    (n : ℕ) (file : SourceFile) (table : NameTable) → n < length files → IsPlaceTable function_name (slice_index_or files n file).script.functions.items (slice_index_or tables n table)

-- each file has a table of its properties
abbrev pub HasPropertyTables : List SourceFile → List NameTable → Type 0
HasPropertyTables files tables =
    (n : ℕ) (file : SourceFile) (table : NameTable) → n < length files → IsPlaceTable property_name (slice_index_or files n file).script.properties.items (slice_index_or tables n table)

-- the tables and parents are those of the files, and no script stands above itself
pub record IsIndexed (files : List SourceFile) (functions properties : List NameTable) (parents : List (Option ℕ)) : Type 0 where
  pub function_count : length functions ≡ length files
  pub property_count : length properties ≡ length files
  pub function_tables : HasFunctionTables files functions
  pub property_tables : HasPropertyTables files properties
  pub parents_are : parents ≡ parents_of files
  pub among : AreAmong parents
  pub rooted : AreRooted parents
