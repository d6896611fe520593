use Rattle.std.proofs.Common.{◌≡◌, true}
use Rattle.papy_base.specs.Lineage.{stands_below}
use Rattle.papy_base.proofs.StandingLemmas.{StandsAbove-stands_below}
use Rattle.core_tree.specs.Outlines.{parents_of}
use Rattle.scene_binder.proofs.scripts.OutlineScripts.is_child.Goals as goal

pub returns-clause-above : goal.returns-clause-above
returns-clause-above c = λ yes.
    let parents = parents_of c.args.self.now in
    let below : stands_below parents c.args.child c.args.parent ≡ true = cc in
    StandsAbove-stands_below parents c.args.child c.args.parent below
