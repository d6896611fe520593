-- Each turn takes a line.
use Rattle.std.proofs.Common.{◌≤◌}
use Rattle.script_parser.specs.Reader.{GoesOn, left}
use Rattle.script_parser.proofs.reader.LineReader.next_form.Given as goal

abbrev pub invariant-docs : goal.invariant-docs
invariant-docs l = record { bound : left l.self ≤ left l.fn.self; onward : GoesOn l.fn.self l.self }

abbrev pub decreases-docs : goal.decreases-docs
decreases-docs l = left l.self
