use Rattle.std.proofs.Common.{◌≡◌, ◌<◌, arith}
use Rattle.std.proofs.lemmas.Result.{on_ok_weaker}
use Rattle.scene_binder.proofs.NativeLemmas.{Adds-same, native_places_in-fits}
use Rattle.scene_binder.proofs.natives.Natives.add_script.Goals as goal

pub returns-in-Ok : goal.returns-in-Ok
returns-in-Ok c =
    let script = c.args.script.now in
    let same : c.in-Ok.number ≡ c.args.number = omega arith in
    let fits : c.args.number < 65536 = omega arith in
    on_ok_weaker c.add_functions.result (λ added. Adds-same c.args.self.now c.add_functions.new.self script c.in-Ok.number c.args.number same (native_places_in-fits c.args.number c.in-Ok.number script same fits) added) c.add_functions.ensures
