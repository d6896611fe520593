use Rattle.std.proofs.Common.{subst, sym}
use Rattle.body_runner.specs.declared.calls.Event.TheVariants as events
use Rattle.body_runner.specs.Leaving.{Leaves}
use Rattle.body_runner.proofs.Leaving.{returned}
use Rattle.body_runner.proofs.body.Home.leave.Goals as goal

pub returns-in_ok-value-in-Return : goal.returns-in_ok-value-in-Return
returns-in_ok-value-in-Return c =
    λ there leaving. subst (λ i. Leaves c.args.self.now i (events.Returned c.in_ok-value-in-Return.field-0) c.args.inner.now c.args.inner.now) (sym c.in-Return.is) (returned c.args.self.now c.args.inner.now c.in-Return.value c.in_ok-value-in-Return.field-0 c.in_ok-value-in-Return.ensures)
