use Rattle.emit_laws.proofs.Operands.{place_read}
use Rattle.emit_laws.proofs.operands_are_read.Goals as goal

pub returns : goal.returns
returns c = λ is_global scope kinds d place fits own is. place_read is_global scope kinds d place fits own is
