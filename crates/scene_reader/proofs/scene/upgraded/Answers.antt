use Rattle.std.proofs.Common.{ap, ◌∙◌}
use Rattle.std.specs.Prelude.{codes}
use Rattle.serde_json.specs.Data.{object, put}
use Rattle.serde_json.specs.View.{members_view}
use Rattle.serde_json.proofs.Views.{view-Object}
use Rattle.scene_reader.proofs.scene.upgraded.Goals as goal

pub returns : goal.returns
returns c =
    view-Object c.put.new.map ∙ (ap object c.in_ok-put.ensures.ok ∙ ap (λ d. object (put (codes "version") d (members_view c.args.object.entries))) c.from.ensures)
