use Rattle.std.proofs.Common.{◌≡◌, map, take, vec_len}
use Rattle.std.specs.List.{AllByRecursion}
use Rattle.pex_values.specs.Plain.{plain}
use Rattle.pex_values.specs.Shape.{IsWellShaped}
use Rattle.code_emit.specs.Spelled.{Each, SpellsScript}
use Rattle.code_emit.proofs.emitter.files.Given as goal

abbrev pub invariant-loop-script : goal.invariant-loop-script
invariant-loop-script l = record {
  shaped : AllByRecursion IsWellShaped (map plain l.files.items);
  count : vec_len l.files ≡ l.script-index;
  spelled : Each (λ file script. SpellsScript (record { set = l.set; script = script }) file) (map plain l.files.items) (take l.script-index l.scripts);
}
