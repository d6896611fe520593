use Rattle.std.proofs.Common.{◌+◌, ◌*◌, length}
use Rattle.pex_codec.specs.ScanSteps.{work_of}
use Rattle.pex_codec.proofs.Scans.{CameTo}
use Rattle.pex_codec.proofs.scan.Scan.go_on.Given as goal

abbrev pub invariant-steps : goal.invariant-steps
invariant-steps l = CameTo l.initial.self l.initial.cursor l.self l.cursor

abbrev pub decreases-steps : goal.decreases-steps
decreases-steps l = 16 * length l.cursor.rest.now + work_of l.self
