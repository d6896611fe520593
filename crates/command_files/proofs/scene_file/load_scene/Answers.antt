use Rattle.std.proofs.lemmas.Result.{err_from_is_err_and}
use Rattle.command_files.proofs.TextRead.{scene_alone, scene_unloaded}
use Rattle.command_files.proofs.scene_file.load_scene.Goals as goal

pub returns-clause-read : goal.returns-clause-read
returns-clause-read g c = scene_alone (g.D.Desk.holds c.args.desk.now) c.args.name.now c.in_ok-scene.scene c.in_ok-scene.ensures.read

pub returns-in_err-scene-clause-read : goal.returns-in_err-scene-clause-read
returns-in_err-scene-clause-read g c =
    let told = err_from_is_err_and c.from_residual.result c.from_residual.ensures.1 in
    rw (told.1, told.2) (scene_unloaded (g.D.Desk.holds c.args.desk.now) c.args.name.now c.in_err-scene.field-0.0 c.in_err-scene.ensures.read)
