use Rattle.papy_base.specs.Case.{folded}
use Rattle.core_tree.specs.Outlines.{parents_of}
use Rattle.core_tree.specs.declared.outline.OutlineFunction.{OutlineFunction}
use Rattle.scene_binder.specs.Members.{own_function}
use Rattle.scene_binder.proofs.WayLemmas.{HasPassed}
use Rattle.scene_binder.proofs.scripts.OutlineScripts.find_function.Given as goal

-- no script so far has one of its own
abbrev pub invariant-loop-script : goal.invariant-loop-script
invariant-loop-script l =
    HasPassed {X = OutlineFunction} (parents_of l.self) (own_function l.self (folded l.name)) l.first l.yielded l.script-iterator
