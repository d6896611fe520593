use Rattle.std.proofs.Common.{rules}
use Rattle.pex_codec.proofs.Scans.{size_step, size_waits}
use Rattle.pex_codec.proofs.scan.Scan.judge.Goals as goal

pub returns-in_err-size_form : goal.returns-in_err-size_form
returns-in_err-size_form c =
    size_waits c.in_err-size_form.field-0.0 c.from_residual.result c.args.self.now c.args.size_at c.args.size c.args.cursor.now (search rules) c.requires.some c.requires.part c.in_err-size_form.ensures

pub returns : goal.returns
returns c = size_step c.args.self.now c.args.size_at c.args.size c.args.cursor.now c.size_form.new.self _ c.requires.some c.requires.part c.in_ok-size_form.ensures
