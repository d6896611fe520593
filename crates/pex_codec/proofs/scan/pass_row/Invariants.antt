use Rattle.pex_codec.specs.Opening.{Passes}
use Rattle.pex_codec.proofs.scan.pass_row.Given as goal

abbrev pub invariant-row : goal.invariant-row
invariant-row l = Passes l.part l.strings l.count l.initial.cursor l.left l.cursor

abbrev pub decreases-row : goal.decreases-row
decreases-row l = l.left
