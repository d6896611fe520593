use Rattle.std.proofs.Common.{◌∙◌, sym}
use Rattle.body_runner.proofs.Casting.{of_no_script, of_script}
use Rattle.body_runner.proofs.body.Home.is_of_script.Goals as goal

pub returns-in-Some : goal.returns-in-Some
returns-in-Some c =
    c.is_child.ensures ∙ of_script c.args.self.now.turn.now.setting.now.loaded.outline c.args.self.now.turn.now.setting.now.scene c.args.script c.args.instance c.in-Some.own (sym c.script_of.ensures ∙ c.in-Some.is)

pub returns-in-None : goal.returns-in-None
returns-in-None c =
    of_no_script c.args.self.now.turn.now.setting.now.loaded.outline c.args.self.now.turn.now.setting.now.scene c.args.script c.args.instance (sym c.script_of.ensures ∙ c.in-None.is)
