use Rattle.emit_laws.proofs.Sets.{set_read}
use Rattle.emit_laws.proofs.sets_are_read.Goals as goal

pub returns : goal.returns
returns c = λ set first more files all named spells fits. set_read set first more files all named spells fits
