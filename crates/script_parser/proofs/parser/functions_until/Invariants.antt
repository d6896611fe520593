-- Each turn takes a line, and the functions so far stand on lines of the file.
use Rattle.std.proofs.Common.{◌≤◌}
use Rattle.script_parser.specs.Reader.{GoesOn, left}
use Rattle.script_parser.specs.Stands.{FunctionsStand}
use Rattle.script_parser.proofs.parser.functions_until.Given as goal

abbrev pub invariant-functions : goal.invariant-functions
invariant-functions l = record {
  bound : left l.reader ≤ left l.fn.reader;
  onward : GoesOn l.fn.reader l.reader;
  stand : FunctionsStand l.fn.reader.lines.now l.functions.items;
}

abbrev pub decreases-functions : goal.decreases-functions
decreases-functions l = left l.reader
