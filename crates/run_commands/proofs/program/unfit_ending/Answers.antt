use Rattle.std.proofs.Common.{arith, refl}
use Rattle.run_commands.proofs.program.unfit_ending.Goals as goal

pub returns-in-Broken : goal.returns-in-Broken
returns-in-Broken c = (record { at = c.min.result; object = c.in-Broken.object; member = c.in-Broken.member; instruction = c.in-Broken.at; broken = c.in-Broken.rule; within = omega arith; word_is = omega arith; place_is = refl; rule_is = refl }, tt)
