use Rattle.std.proofs.Common.{◌≡◌, ◌<◌, ◌^◌, map, take}
use Rattle.std.specs.List.{AllByRecursion}
use Rattle.code_emit.proofs.functions.note_lines.Given as goal

abbrev pub invariant-loop-each : goal.invariant-loop-each
invariant-loop-each l = record {
  fit : AllByRecursion (λ line. line < 2 ^ 16) l.lines.items;
  each : l.lines.items ≡ map (λ i. i.1) (take l.each-index l.coded);
}
