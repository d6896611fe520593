use Rattle.std.proofs.Common.{map}
use Rattle.papy_base.specs.Earliest.{FindsAmong}
use Rattle.script_linker.proofs.rules.judge_names.Given as goal

abbrev pub invariant-loop-item : goal.invariant-loop-item
invariant-loop-item g l = FindsAmong (map g.T.Declared.line_of l.items) l.initial.first l.first
