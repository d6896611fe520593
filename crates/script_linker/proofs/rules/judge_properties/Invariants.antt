use Rattle.std.specs.List.{flat_map}
use Rattle.papy_base.specs.Earliest.{FindsAmong}
use Rattle.script_parser.specs.Lines.{property_lines}
use Rattle.script_linker.proofs.rules.judge_properties.Given as goal

abbrev pub invariant-loop-property : goal.invariant-loop-property
invariant-loop-property l = FindsAmong (flat_map property_lines l.properties) l.initial.first l.first
