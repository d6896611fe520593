use Rattle.std.proofs.Common.{◌≡◌, ℕ, Bool, List, map, ◌++◌}
use Rattle.std.specs.List.{All}
use Rattle.serde_json.specs.View.{members_view}
use Rattle.serde_json.proofs.Views.{Entry}
use Rattle.scene_reader.specs.Limits.{Keeps, NamedKeeps}
use Rattle.scene_reader.specs.Reading.{IsFound, each_member}
use Rattle.scene_reader.specs.SceneOf.{short}
use Rattle.scene_reader.proofs.parts.SceneReader.members.Given as goal

-- whatever the rest is found to be, the whole is found to be with what was found before it
abbrev pub invariant-loop-key : goal.invariant-loop-key
invariant-loop-key g l =
    Keeps l.fn.broken l.broken (All (NamedKeeps g.T.Item.keeps) l.entries.items)
    × (done : List Entry) × (l.object.entries ≡ done ++ l.key-iterator)
    × ((after : Bool) (rest : List (List ℕ × g.T.Item.Plan)) → IsFound l.broken after (each_member short (g.T.Item.reading l.self.version) (members_view l.key-iterator)) rest
    → IsFound l.fn.broken after (each_member short (g.T.Item.reading l.self.version) (members_view l.object.entries)) (map (λ e. (e.0, g.T.Item.plan e.1)) l.entries.items ++ rest))
