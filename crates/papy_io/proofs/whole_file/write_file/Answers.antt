use Rattle.std.proofs.Common.{sym, subst}
use Rattle.papy_io.specs.WriteFile.{MayHold}
use Rattle.papy_io.specs.Files.{ChangesTold}
use Rattle.papy_io.proofs.Changes.{writes_may_hold, writes_file_err}
use Rattle.papy_io.proofs.whole_file.write_file.Goals as goal

pub returns-in_err-finish-clause-holds : goal.returns-in_err-finish-clause-holds
returns-in_err-finish-clause-holds g c =
    let name = c.args.name.now in
    let bytes = c.args.bytes.now in
    let held = writes_may_hold name bytes _ _ _ _ _ c.in_ok-start_write.ensures.busy c.in_ok-start_write.ensures.holds c.write-written.ensures.holds in
    writes_file_err name bytes c.from_residual-in_err-finish.result _ _ c.from_residual-in_err-finish.ensures.0 (subst (ChangesTold name (MayHold bytes) (g.D.Desk.holds c.args.desk.now)) (sym c.finish.ensures.holds) held)
