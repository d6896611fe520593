use Rattle.std.proofs.lemmas.Result.{err_from_is_err_and}
use Rattle.command_files.proofs.TextRead.{scene_parsed, scene_refused, scene_unread}
use Rattle.command_files.proofs.scene_file.load_kept_scene.Goals as goal

pub returns-in_err-text-clause-read : goal.returns-in_err-text-clause-read
returns-in_err-text-clause-read g c =
    let told = err_from_is_err_and c.from_residual.result c.from_residual.ensures.1 in
    rw (told.1, told.2) (scene_unread (g.D.Desk.holds c.args.desk.now) c.args.name.now c.in_err-text.field-0.0 c.in_err-text.ensures.read)

pub returns-in-Ok-clause-read : goal.returns-in-Ok-clause-read
returns-in-Ok-clause-read g c = scene_parsed (g.D.Desk.holds c.args.desk.now) c.args.name.now c.in_ok-text.text c.in-Ok.tree c.in_ok-text.ensures.read

pub returns-in-Err-clause-read : goal.returns-in-Err-clause-read
returns-in-Err-clause-read g c = scene_refused (g.D.Desk.holds c.args.desk.now) c.args.name.now c.in_ok-text.text c.in-Err.fault c.in_ok-text.ensures.read c.in-Err.ensures.refused
