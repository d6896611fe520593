use Rattle.std.proofs.Common.{arith, rules, ◌-◌}
use Rattle.pex_codec.proofs.Passing.{Passes-none, Passes-more}
use Rattle.pex_codec.proofs.scan.pass_row.Goals as goal

pub row-init : goal.row-init
row-init c = Passes-none c.args.part c.args.strings c.args.count c.args.cursor.now

pub row-preserved : goal.row-preserved
row-preserved c =
    Passes-more c.args.part c.args.strings c.args.count c.args.cursor.now c.row.left c.row.cursor c.passes.new.self (c.row.left - 1) (omega (arith, c.row-test.true)) c.row.invariant
    (search rules)
