use Rattle.std.proofs.Common.{◌≡◌, map, take}
use Rattle.scene_binder.proofs.scripts.OutlineScripts.new.Given as goal

abbrev pub invariant-loop-script : goal.invariant-loop-script
invariant-loop-script l = map (λ members. members.script.now) l.members.items ≡ take l.script-index l.scripts
