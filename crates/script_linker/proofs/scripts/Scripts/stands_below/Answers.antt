use Rattle.std.proofs.Common.{◌∙◌, ap, arith}
use Rattle.papy_base.specs.Lineage.{stands_below}
use Rattle.script_linker.specs.Lookup.{parents_of}
use Rattle.script_linker.proofs.LookupLemmas.{AreAmong-parents_of, HasNoCircle-now, StandsAbove-by, length-parents_of, parents_read, rooted_now}
use Rattle.script_linker.proofs.scripts.Scripts.stands_below.Goals as goal

pub returns-clause-above : goal.returns-clause-above
returns-clause-above c =
    let now = c.args.self.now in
    let read = parents_read c.self.invariant c.self.view_is c.deref.result.now c.deref.ensures.value in
    StandsAbove-by (parents_of now) (AreAmong-parents_of now) (rooted_now c.self.invariant c.self.view_is) c.args.script c.args.parent c.is_below.result
    (omega (arith, c.requires, length-parents_of now))
    (c.is_below.ensures ∙ ap (λ ps. stands_below ps c.args.script c.args.parent) read)

pub returns-clause-no_circle : goal.returns-clause-no_circle
returns-clause-no_circle c = HasNoCircle-now c.self.invariant c.self.view_is
