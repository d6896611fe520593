use Rattle.std.proofs.Common.{◌≡◌, ◌<◌, ℕ, length, get_or}
use Rattle.papy_base.specs.declared.name_table.NameTable.{NameTable}
use Rattle.script_linker.specs.declared.set.SourceFile.{SourceFile}
use Rattle.papy_base.specs.Table.{IsPlaceTable}
use Rattle.script_linker.specs.Lookup.{function_name, property_name}
use Rattle.script_linker.proofs.scripts.tables.Given as goal

abbrev pub invariant-loop-file : goal.invariant-loop-file
invariant-loop-file l = record {
  function_count : length l.functions.items ≡ l.file-index;
  property_count : length l.properties.items ≡ l.file-index;
  functions : (n : ℕ) (file : SourceFile) (table : NameTable) → n < l.file-index → IsPlaceTable function_name (get_or l.files n file).script.functions.items (get_or l.functions.items n table);
  properties : (n : ℕ) (file : SourceFile) (table : NameTable) → n < l.file-index → IsPlaceTable property_name (get_or l.files n file).script.properties.items (get_or l.properties.items n table);
}
