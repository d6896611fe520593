use Rattle.std.proofs.Common.{sym, subst}
use Rattle.std.specs.Prelude.{Err}
use Rattle.serde_json.specs.View.{view}
use Rattle.scene_reader.specs.SceneOf.{scene}
use Rattle.scene_reader.specs.SceneText.{IsScene, judged}
use Rattle.scene_reader.proofs.Found.{judged_found, judged_lost, judged_past}
use Rattle.scene_reader.proofs.scene.scene_of.Goals as goal

pub returns-in-Err-clause-scene : goal.returns-in-Err-clause-scene
returns-in-Err-clause-scene c =
    subst (λ f. IsScene (judged (scene (view c.args.value.now))) (Err f)) (sym c.of_part.ensures) (judged_lost (scene (view c.args.value.now)) c.in-Err.fault c.in-Err.ensures.found)

pub returns-then-broken-clause-scene : goal.returns-then-broken-clause-scene
returns-then-broken-clause-scene c =
    subst (λ f. IsScene (judged (scene (view c.args.value.now))) (Err f)) (sym c.of.ensures) (judged_past (scene (view c.args.value.now)) _ _ c.if-broken.true c.in-Ok.ensures.found)

pub returns-clause-scene : goal.returns-clause-scene
returns-clause-scene c = judged_found (scene (view c.args.value.now)) _ c.in-Ok.tree c.if-broken.false c.in-Ok.ensures.found
