use Rattle.std.proofs.Common.{map}
use Rattle.papy_base.specs.Earliest.{FindsAmong}
use Rattle.script_parser.specs.Lines.{function_line}
use Rattle.script_linker.proofs.rules.judge_functions.Given as goal

abbrev pub invariant-loop-function : goal.invariant-loop-function
invariant-loop-function l = FindsAmong (map function_line l.functions) l.initial.first l.first
