use Rattle.run_commands.proofs.ResumedRun.{late_resumes, late_writes}
use Rattle.run_commands.proofs.resume_command.resume_held.Goals as goal

pub returns-in-Err-clause-faults : goal.returns-in-Err-clause-faults
returns-in-Err-clause-faults g c = rw c.held_ending.ensures (late_writes c.in-Err.fault _)

pub returns-in-Err-clause-resumes : goal.returns-in-Err-clause-resumes
returns-in-Err-clause-resumes g c = rw c.held_ending.ensures (late_resumes c.args.held.state.turn c.args.most c.in-Err.fault _ c.in-Err.ensures.late)
