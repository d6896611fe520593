use Rattle.emit_laws.proofs.Types.{type_read}
use Rattle.emit_laws.proofs.types_are_read.Goals as goal

pub returns : goal.returns
returns c = λ scripts kind name distinct fits e. type_read scripts kind name distinct fits e
