use Rattle.std.proofs.Common.{refl, rules}
use Rattle.pex_codec.proofs.Scans.{open_step, part_waits}
use Rattle.pex_codec.proofs.scan.Scan.open.Goals as goal

pub returns-in_err-opened : goal.returns-in_err-opened
returns-in_err-opened c = part_waits c.in_err-opened.field-0.0 c.from_residual.result c.args.self.now c.args.cursor.now (search rules) c.requires.some c.in_err-opened.ensures

pub returns : goal.returns
returns c =
    open_step c.args.self.now (record { strings = c.in_ok-opened.opened.strings; current = c.in_ok-opened.opened.first; below = c.put_opened.new.tasks }) c.in_ok-opened.opened c.args.cursor.now c.open.new.cursor
    c.requires.some c.requires.bytes c.in_ok-opened.ensures (rw c.times-rest.ensures at c.in_ok-put_opened.ensures) refl refl
