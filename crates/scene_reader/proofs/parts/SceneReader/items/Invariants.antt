use Rattle.std.proofs.Common.{Bool, List, drop, map, ◌++◌}
use Rattle.std.specs.List.{All}
use Rattle.serde_json.specs.View.{items_view}
use Rattle.scene_reader.specs.Limits.{Keeps}
use Rattle.scene_reader.specs.Reading.{IsFound, each_item}
use Rattle.scene_reader.proofs.parts.SceneReader.items.Given as goal

-- whatever the rest is found to be, the whole is found to be with what was found before it
abbrev pub invariant-loop-value : goal.invariant-loop-value
invariant-loop-value g l =
    Keeps l.fn.broken l.broken (All g.T.Item.keeps l.items.items)
    × ((after : Bool) (rest : List g.T.Item.Plan) → IsFound l.broken after (each_item (g.T.Item.reading l.self.version) (items_view (drop l.value-index l.values))) rest
    → IsFound l.fn.broken after (each_item (g.T.Item.reading l.self.version) (items_view l.values)) (map g.T.Item.plan l.items.items ++ rest))
