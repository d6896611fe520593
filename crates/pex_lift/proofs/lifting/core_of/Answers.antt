use Rattle.pex_lift.proofs.lifting.core_of.Goals as goal

pub returns-in-Ok : goal.returns-in-Ok
returns-in-Ok c = record { heads = c.in-Ok.ensures.heads; variables = c.in-Ok.ensures.variables; in_range = c.in-Ok.ensures.in_range }
