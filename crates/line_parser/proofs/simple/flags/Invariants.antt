-- Each turn takes a token.
use Rattle.std.proofs.Common.{length}
use Rattle.line_parser.proofs.simple.flags.Given as goal

abbrev pub decreases-flags : goal.decreases-flags
decreases-flags l = length l.cursor.rest.now
