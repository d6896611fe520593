use Rattle.pex_codec.proofs.Passing.{Behind}
use Rattle.pex_codec.proofs.cursor.Cursor.operands.Given as goal

abbrev pub invariant-operands : goal.invariant-operands
invariant-operands l = Behind l.strings l.count l.initial.self l.counter l.self
