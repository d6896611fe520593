use Rattle.std.proofs.Common.{[], ◌∷◌}
use Rattle.std.specs.Prelude.{codes}
use Rattle.serde_json.specs.View.{view}
use Rattle.scene_reader.specs.Reading.{both, entries, reading_map, needed, optional}
use Rattle.scene_reader.specs.SceneOf.{instance_name, instance_of, scene_value, short, text}
use Rattle.scene_reader.proofs.Found.{found_closed, found_pairs, found_plain, found_three}
use Rattle.scene_reader.proofs.parts.SceneInstanceItem.read.Goals as goal

pub returns-clause-found : goal.returns-clause-found
returns-clause-found c =
    let d = view c.args.value.now in
    let named = needed (codes "name") instance_name d in
    let scripted = needed (codes "script") text d in
    let setting = optional (codes "set") [] (entries short scene_value) d in
    found_closed (codes "name" ∷ codes "script" ∷ codes "set" ∷ [])
    (λ value. reading_map instance_of (both (needed (codes "name") instance_name value) (both (needed (codes "script") text value) (optional (codes "set") [] (entries short scene_value) value)))) d _ _ _ c.in_ok-check_keys.ensures.closed
    (found_three instance_of _ _ _ _ named scripted setting _ _ _
    (found_plain _ named _ c.in_ok-name.ensures.found) c.in_ok-script.ensures.found (found_pairs _ _ setting _ c.in_ok-set.ensures.found))
