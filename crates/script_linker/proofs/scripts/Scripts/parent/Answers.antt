use Rattle.std.proofs.Common.{◌∙◌, ap}
use Rattle.papy_base.specs.Lineage.{parent_of}
use Rattle.script_linker.proofs.LookupLemmas.{parent_inside, parents_read}
use Rattle.script_linker.proofs.scripts.Scripts.parent.Goals as goal

pub returns-clause-parent : goal.returns-clause-parent
returns-clause-parent c =
    c.parent_of.ensures
    ∙ ap (λ ps. parent_of ps c.args.number) (parents_read c.self.invariant c.self.view_is c.deref.result.now c.deref.ensures.value)

pub returns-clause-within : goal.returns-clause-within
returns-clause-within c =
    parent_inside c.args.self.now c.args.number c.parent_of.result (returns-clause-parent c)
