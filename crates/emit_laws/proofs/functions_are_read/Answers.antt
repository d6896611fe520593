use Rattle.emit_laws.proofs.Functions.{function_read}
use Rattle.emit_laws.proofs.functions_are_read.Goals as goal

pub returns : goal.returns
returns c = λ home table tree lowered f temporaries name lines is fits kinds spells.
    function_read home table tree lowered f temporaries name lines is fits kinds spells
