use Rattle.std.proofs.Common.{refl, rules}
use Rattle.pex_codec.proofs.Passing.{Behind-more, Behind-stops, operands_err}
use Rattle.pex_codec.proofs.cursor.Cursor.operands.Goals as goal

pub returns-in_err-datum : goal.returns-in_err-datum
returns-in_err-datum c =
    operands_err c.in_err-datum.field-0.0 c.from_residual.result c.args.strings c.args.count c.args.self.now c.datum.new.self (search rules)
    (Behind-stops c.args.strings c.args.count c.args.self.now c.operands.counter c.operands.self c.in_err-datum.field-0.0 c.operands.invariant c.operands-test.true c.in_err-datum.ensures)

pub operands-preserved : goal.operands-preserved
operands-preserved c =
    Behind-more c.args.strings c.args.count c.args.self.now c.operands.counter c.operands.self c.datum.new.self _ _ c.operands.invariant c.operands-test.true refl c.in_ok-datum.ensures
