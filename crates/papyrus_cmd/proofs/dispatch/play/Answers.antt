use Rattle.papyrus_cmd.proofs.dispatch.play.Goals as goal

pub returns-in-Once-clause-output : goal.returns-in-Once-clause-output
returns-in-Once-clause-output g c = rw c.in-Once.is c.once.ensures.output

pub returns-in-Exec-clause-output : goal.returns-in-Exec-clause-output
returns-in-Exec-clause-output g c = rw c.in-Exec.is c.exec.ensures.output

pub returns-in-Journal-clause-output : goal.returns-in-Journal-clause-output
returns-in-Journal-clause-output g c = rw c.in-Journal.is c.journal.ensures.output

pub returns-in-Hold-clause-output : goal.returns-in-Hold-clause-output
returns-in-Hold-clause-output g c = rw c.in-Hold.is c.hold.ensures.output

pub returns-in-Resume-clause-output : goal.returns-in-Resume-clause-output
returns-in-Resume-clause-output g c = rw c.in-Resume.is c.resume.ensures.output

pub returns-in-Sample-clause-output : goal.returns-in-Sample-clause-output
returns-in-Sample-clause-output g c = rw c.in-Sample.is (c.sample.ensures.output (g.D.Desk.holds c.args.desk.now))
