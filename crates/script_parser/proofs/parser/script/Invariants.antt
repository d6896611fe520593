-- Each turn takes a line, and the members so far stand on lines of the file.
use Rattle.std.proofs.Common.{◌≡◌}
use Rattle.script_parser.specs.Reader.{left}
use Rattle.script_parser.specs.Stands.{ScriptStands}
use Rattle.script_parser.proofs.parser.script.Given as goal

abbrev pub invariant-members : goal.invariant-members
invariant-members l = record {
  lines : l.reader.lines.now ≡ l.fn.lines;
  stands : ScriptStands l.fn.lines l.script;
}

abbrev pub decreases-members : goal.decreases-members
decreases-members l = left l.reader
