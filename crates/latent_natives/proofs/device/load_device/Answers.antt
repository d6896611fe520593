use Rattle.std.proofs.Common.{rules}
use Rattle.std.proofs.lemmas.Result.{on_ok_weaker, on_err_weaker}
use Rattle.core_tree.specs.Device.{load}
use Rattle.latent_natives.proofs.DeviceLists.{map-written, map-written_same, SameKinds-written}
use Rattle.latent_natives.proofs.device.load_device.Goals as goal

pub returns-clause-ok : goal.returns-clause-ok
returns-clause-ok g c =
    on_ok_weaker _ (map-written _ _ _ _ _ (λ d. load d.kind c.args.cells.now c.args.at) (search rules) c.index_mut.ensures.value) c.load_one.ensures.ok

pub returns-clause-err : goal.returns-clause-err
returns-clause-err g c =
    on_err_weaker _ (map-written_same _ _ _ _ _ c.index_mut.ensures.value) c.load_one.ensures.err

pub returns-clause-kinds : goal.returns-clause-kinds
returns-clause-kinds g c =
    SameKinds-written _ _ _ _ _ (search rules) c.index_mut.ensures.value c.load_one.ensures.kind
