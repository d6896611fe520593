use Rattle.papyrus_cmd.proofs.dispatch.use_files.Goals as goal

pub returns-in-Check-clause-output : goal.returns-in-Check-clause-output
returns-in-Check-clause-output g c = rw c.in-Check.is c.check.ensures.output

pub returns-in-Show-clause-output : goal.returns-in-Show-clause-output
returns-in-Show-clause-output g c = rw c.in-Show.is c.show.ensures.output

pub returns-in-Waits-clause-output : goal.returns-in-Waits-clause-output
returns-in-Waits-clause-output g c = rw c.in-Waits.is c.waits.ensures.output
