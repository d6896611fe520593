use Rattle.std.proofs.Common.{◌<◌, length, arith}
use Rattle.pex_verify.specs.Coded.{IsCodedFunction}
use Rattle.body_runner.proofs.Coded.{an_item, coded_functions, each_found}
use Rattle.body_runner.proofs.setting.Setting.method.Goals as goal

pub returns-clause-coded : goal.returns-clause-coded
returns-clause-coded c =
    let outlines = c.outline.result.now.scripts in
    let within : c.args.at.script < length outlines.items = omega (arith, c.if-from-len.false, c.len.ensures, c.from.ensures, outlines.ok.0) in
    let sound = c.script.ensures.sound (an_item outlines.items c.args.at.script within) in
    let states = c.in_ok-functions.ensures.lookup in
    each_found (λ x. x.now) (IsCodedFunction (length c.args.self.now.loaded.scripts)) c.deref-2.result.now c.args.at.place _ _ c.get-2.result c.get-2.ensures.lookup.1 c.get-2.ensures.lookup.3 (coded_functions _ c.script.result.now c.args.at.state c.deref.result.now c.in_ok-functions.field-0.now c.deref-2.result.now sound c.deref.ensures.value states.3.0 states.1 c.deref-2.ensures.value)
