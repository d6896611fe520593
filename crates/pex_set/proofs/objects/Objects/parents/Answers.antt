use Rattle.std.proofs.Common.{◌≡◌, sym, subst, arith}
use Rattle.std.proofs.lemmas.Grind.{common_steps}
use Rattle.papy_base.specs.Lineage.{AreAmong}
use Rattle.pex_set.specs.Objects.{parents_in}
use Rattle.pex_set.proofs.ObjectLemmas.{AreAmong-parents_in}
use Rattle.pex_set.proofs.objects.Objects.parents.Goals as goal

pub returns-clause-among : goal.returns-clause-among
returns-clause-among c =
    let all : c.loop-head.parents.items ≡ parents_in c.args.self.now = grind (arith, common_steps) in
    subst AreAmong (sym all) (AreAmong-parents_in c.args.self.now)
