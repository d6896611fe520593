use Rattle.std.proofs.Common.{◌∙◌, inr, sym}
use Rattle.papy_base.specs.Case.{folded}
use Rattle.scene_binder.specs.NativeState.{native_under}
use Rattle.scene_binder.proofs.StateLemmas.{left_out}
use Rattle.scene_binder.proofs.natives.Natives.bind_default.Goals as goal

pub returns-then-is_left_out-clause-binds : goal.returns-then-is_left_out-clause-binds
returns-then-is_left_out-clause-binds c =
    let known = native_under c.args.self.now (folded c.args.name.now) in
    inr (c.in-Err.ensures.kept, left_out c.args.self.now.devices known c.args.binding c.in-Err.fault c.in-Err.ensures.judged (sym c.is_left_out.ensures ∙ c.if-is_left_out.true))
