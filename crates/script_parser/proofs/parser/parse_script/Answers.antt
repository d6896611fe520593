use Rattle.script_parser.proofs.Standing.{script-lines}
use Rattle.script_parser.proofs.parser.parse_script.Goals as goal

pub returns-in-Ok-clause-lines : goal.returns-in-Ok-clause-lines
returns-in-Ok-clause-lines c = rw c.as_slice.ensures.value at (script-lines _ c.in-Ok.script c.in-Ok.ensures.stands)
