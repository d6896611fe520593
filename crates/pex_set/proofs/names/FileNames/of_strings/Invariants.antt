use Rattle.std.proofs.Common.{◌≡◌, map, take, Some, vec_len}
use Rattle.pex_set.specs.Names.{number_in, with_names, IsGrown}
use Rattle.pex_set.proofs.names.FileNames.of_strings.Given as goal

abbrev pub invariant-loop-string : goal.invariant-loop-string
invariant-loop-string l = record {
  count : vec_len l.numbers ≡ l.string-index;
  numbers : map Some l.numbers.items ≡ map (number_in l.table) (take l.string-index l.strings);
  grows : IsGrown l.initial.table l.table;
  table : l.table ≡ with_names l.initial.table (take l.string-index l.strings);
}
