use Rattle.emit_laws.proofs.Instructions.{instruction_read}
use Rattle.emit_laws.proofs.instructions_are_read.Goals as goal

pub returns : goal.returns
returns c = λ is_global scope kinds i code fits own spells. instruction_read is_global scope kinds fits i code own spells
