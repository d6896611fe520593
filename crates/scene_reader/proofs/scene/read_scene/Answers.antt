use Rattle.std.proofs.Common.{rules}
use Rattle.std.specs.Prelude.{Err}
use Rattle.scene_reader.specs.SceneText.{IsScene, scene_of_text}
use Rattle.scene_reader.proofs.Found.{text_refused}
use Rattle.scene_reader.proofs.scene.read_scene.Goals as goal

pub returns-in_err-value-clause-scene : goal.returns-in_err-value-clause-scene
returns-in_err-value-clause-scene c =
    let h : IsScene (scene_of_text c.args.bytes.now) (Err c.in_err-value.field-0.0) = text_refused c.args.bytes.now _ c.in_err-value.ensures.refused in
    search (rules, h)
