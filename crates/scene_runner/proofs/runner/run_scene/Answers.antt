use Rattle.scene_runner.proofs.Appending.{reports_behind, writes_some}
use Rattle.papy_io.proofs.Appending.{appends_more}
use Rattle.scene_runner.proofs.runner.run_scene.Goals as goal

pub returns-clause-appended : goal.returns-clause-appended
returns-clause-appended g c = appends_more _ _ _ (writes_some c.finish_turns.result _ _ c.finish_turns.ensures.appended) c.write_closing.ensures.appended

pub returns-clause-reports : goal.returns-clause-reports
returns-clause-reports g c = reports_behind c.write_closing.result c.finish_turns.new.machine.turns _ _ _ c.in_ok-finish_turns.ensures.appended c.write_closing.ensures.closes
