use Rattle.std.proofs.Common.{arith}
use Rattle.std.proofs.lemmas.Grind.{common_steps, flat_map-append}
use Rattle.std.proofs.lemmas.List.{take_more}
use Rattle.core_tree.proofs.outlining.outline_properties.Goals as goal
use Rattle.core_tree.proofs.outlining.outline_properties.Goals.{in-Auto+in_ok-try_clone+in_ok-push, in_default}

pub loop-property-preserved : goal.loop-property-preserved
loop-property-preserved c =
    elim c.match-property.branch [
      | in-Auto+in_ok-try_clone+in_ok-push w ↦ grind (arith, common_steps, flat_map-append, take_more)
      | in_default w ↦ grind (arith, common_steps, flat_map-append, take_more)
    ]
