use Rattle.std.proofs.Common.{rules}
use Rattle.pex_codec.proofs.Scans.{came_nowhere, came_to_end, came_to_stop}
use Rattle.pex_codec.proofs.scan.Scan.go_on.Goals as goal

pub steps-init : goal.steps-init
steps-init c = came_nowhere c.args.self.now c.args.cursor.now

pub returns-in_err-step : goal.returns-in_err-step
returns-in_err-step c =
    came_to_stop c.in_err-step.field-0.0 c.from_residual.result c.args.self.now c.args.cursor.now c.steps.self c.steps.cursor c.step.new.self c.step.new.cursor (search rules) c.steps.invariant c.in_err-step.ensures

pub returns : goal.returns
returns c = came_to_end c.args.self.now c.args.cursor.now c.steps.self c.steps.cursor c.steps.invariant (search rules)
