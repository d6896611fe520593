use Rattle.std.proofs.Common.{arith}
use Rattle.pex_codec.proofs.Scans.{row_step}
use Rattle.pex_codec.proofs.scan.Scan.pass.Goals as goal

pub returns : goal.returns
returns c = row_step c.args.self.now c.args.cursor.now c.pass_row-now.result c.pass_row-now.new.cursor c.pass_row-now.ensures (omega (arith, c.pass_row-now.ensures.fewer, c.if-now-left.false))
