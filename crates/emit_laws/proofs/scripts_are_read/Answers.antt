use Rattle.emit_laws.proofs.Scripts.{script_read}
use Rattle.emit_laws.proofs.scripts_are_read.Goals as goal

pub returns : goal.returns
returns c = λ from file spells fits. script_read from file spells fits
