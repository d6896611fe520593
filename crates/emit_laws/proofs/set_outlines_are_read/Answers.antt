use Rattle.emit_laws.proofs.Sets.{outlines_read}
use Rattle.emit_laws.proofs.set_outlines_are_read.Goals as goal

pub returns : goal.returns
returns c = λ set first more files all named spells fits outlines.
    outlines_read set first more files all named spells fits outlines
