use Rattle.std.proofs.Common.{rules, tests, map, Some}
use Rattle.std.specs.Prelude.{◌==◌}
use Rattle.std.proofs.lemmas.Iterator.Consumers.{YieldsList-from_first}
use Rattle.std.proofs.lemmas.Iterator.Search.{any_from_yields_List}
use Rattle.papy_base.specs.Lineage.{lineage}
use Rattle.papy_base.proofs.lineage.is_below.Goals as goal

pub returns : goal.returns
returns g c =
    let parents = map g.T.HasParent.parent_number c.args.things.now in
    any_from_yields_List
    (λ place. place == c.args.above)
    _
    _
    c.any.result
    c.any.ensures.ran
    (YieldsList-from_first (λ x. x) (λ way. way) (lineage parents (Some c.args.first)) c.upward.ensures)
    (λ x b q k. search (rules, tests))
