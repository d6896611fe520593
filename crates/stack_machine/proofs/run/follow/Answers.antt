use Rattle.stack_machine.proofs.Runs.{both_ok, follow_end, follow_fault, follow_pass}
use Rattle.stack_machine.proofs.run.follow.Goals as goal

pub returns-in_ok-returned-in-Done-clause-follows : goal.returns-in_ok-returned-in-Done-clause-follows
returns-in_ok-returned-in-Done-clause-follows g c =
    λ ready past. follow_end c.args.home.now c.args.row.place c.args.row.halt c.in_ok-returned-in-Done.field-0 _ _ c.args.inner.now c.in-Done.is past c.in_ok-returned-in-Done.ensures

pub returns-in-Jump-clause-follows : goal.returns-in-Jump-clause-follows
returns-in-Jump-clause-follows g c =
    λ ready past. follow_pass c.args.home.now c.args.row.place c.args.row.halt c.from.result c.in-Jump.landing _ _ c.args.inner.now c.in-Jump.is c.from.ensures

pub returns-in-Faulted-clause-follows : goal.returns-in-Faulted-clause-follows
returns-in-Faulted-clause-follows g c =
    λ ready past. both_ok c.refuse.result _ _ _ (λ halt none wrote. follow_fault c.args.home.now c.args.row.place c.args.row.halt c.in-Faulted.fault halt _ _ _ c.args.inner.now c.in-Faulted.is none wrote) c.refuse.ensures.none c.refuse.ensures.prints
