-- Each turn takes a token.
use Rattle.std.proofs.Common.{length}
use Rattle.line_parser.proofs.simple.parameters.Given as goal

abbrev pub decreases-parameters : goal.decreases-parameters
decreases-parameters l = length l.cursor.rest.now
