-- What is found stands on a line of an import, and where nothing is found the imports so far are known.
use Rattle.std.proofs.Common.{ℕ, ◌≡◌, ◌<◌, List, IsSome, None, map, slice_index_or}
use Rattle.papy_base.specs.Case.{folded}
use Rattle.papy_base.specs.Earliest.{FindsAmong}
use Rattle.script_parser.specs.Lines.{import_line}
use Rattle.papy_base.specs.Table.{number_in}
use Rattle.script_linker.proofs.rules.judge_imports.Given as goal

abbrev pub invariant-loop-import : goal.invariant-loop-import
invariant-loop-import l = record {
  among : FindsAmong (map import_line l.imports) l.initial.first l.first;
  known : l.first.found ≡ None → (k : ℕ) (d : ℕ × List ℕ) → k < l.import-index → IsSome (number_in l.names (folded (slice_index_or l.imports k d).1));
}
