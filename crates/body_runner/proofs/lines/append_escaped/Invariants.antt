use Rattle.std.proofs.Common.{◌≡◌, ◌++◌, take}
use Rattle.papy_base.specs.ReportWords.{escaped}
use Rattle.body_runner.proofs.lines.append_escaped.Given as goal

abbrev pub invariant-loop-byte : goal.invariant-loop-byte
invariant-loop-byte l = l.line.items ≡ l.initial.line.items ++ escaped (take l.byte-index l.text)
