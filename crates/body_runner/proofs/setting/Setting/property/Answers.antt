use Rattle.std.proofs.Common.{◌<◌, length, arith}
use Rattle.body_runner.specs.Settings.{AreCodedAccessors}
use Rattle.body_runner.proofs.Coded.{an_item, coded_properties, each_found}
use Rattle.body_runner.proofs.setting.Setting.property.Goals as goal

pub returns-clause-coded : goal.returns-clause-coded
returns-clause-coded c =
    let outlines = c.outline.result.now.scripts in
    let within : c.args.at.script < length outlines.items = omega (arith, c.if-from-len.false, c.len.ensures, c.from.ensures, outlines.ok.0) in
    let sound = c.script.ensures.sound (an_item outlines.items c.args.at.script within) in
    each_found (λ x. x.now) (AreCodedAccessors (length c.args.self.now.loaded.scripts)) c.deref.result.now c.args.at.place _ _ c.get.result c.get.ensures.lookup.1 c.get.ensures.lookup.3 (coded_properties _ c.script.result.now c.deref.result.now sound c.deref.ensures.value)
