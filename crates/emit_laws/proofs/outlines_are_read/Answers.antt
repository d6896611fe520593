use Rattle.emit_laws.proofs.Outlines.{outline_read}
use Rattle.emit_laws.proofs.outlines_are_read.Goals as goal

pub returns : goal.returns
returns c = λ from file spells fits outline. outline_read from file spells fits outline
