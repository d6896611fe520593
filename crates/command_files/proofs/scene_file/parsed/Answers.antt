use Rattle.command_files.proofs.TextRead.{scene_broken}
use Rattle.command_files.proofs.scene_file.parsed.Goals as goal

pub returns-in-Err-clause-refused : goal.returns-in-Err-clause-refused
returns-in-Err-clause-refused c = rw c.from.ensures (scene_broken c.in-Err.fault)
