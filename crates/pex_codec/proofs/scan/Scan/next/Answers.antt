use Rattle.std.proofs.Common.{refl}
use Rattle.pex_codec.proofs.Scans.{next_step}
use Rattle.pex_codec.proofs.scan.Scan.next.Goals as goal

pub returns-in-Some : goal.returns-in-Some
returns-in-Some c = next_step c.args.self.now (record { strings = c.args.self.now.strings; current = c.in-Some.task; below = c.pop.new.self }) c.args.cursor.now c.requires.none refl c.in-Some.ensures.items
