use Rattle.std.proofs.Common.{◌∙◌, ap, sym}
use Rattle.std.specs.Option.{option_copied}
use Rattle.std.proofs.lemmas.Result.{on_ok_weaker}
use Rattle.body_runner.proofs.Replies.{drops, gives}
use Rattle.body_runner.proofs.body.Home.give.Goals as goal

pub returns-in-Some : goal.returns-in-Some
returns-in-Some c =
    λ there. on_ok_weaker c.write.result (gives c.args.self.now c.args.call.now c.in-Some.operand.now c.args.reply c.args.inner.now c.write.new.inner (sym c.reply_result.ensures ∙ ap option_copied c.in-Some.is) there) c.write.ensures

pub returns-in-None : goal.returns-in-None
returns-in-None c =
    λ there. drops c.args.self.now c.args.call.now c.args.reply c.args.inner.now (sym c.reply_result.ensures ∙ ap option_copied c.in-None.is)
