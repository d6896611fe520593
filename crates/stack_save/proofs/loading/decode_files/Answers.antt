use Rattle.std.proofs.Common.{ℕ, ◌+◌, List, [], map, subst, sym, take}
use Rattle.std.specs.Borrow.{Bor}
use Rattle.pex_values.specs.declared.values.Pex.{Pex}
use Rattle.stack_save.proofs.Lists.{zip_next}
use Rattle.stack_save.proofs.loading.decode_files.Goals as goal
use Rattle.stack_save.specs.Held.{AreFiles, IsFile}
use Rattle.stack_save.specs.Loading.{lent}

pub loop-file-preserved : goal.loop-file-preserved
loop-file-preserved c =
    let none : Bor (List ℕ) = record { ref_ptr = (0, 0); now = [] } in
    subst (λ (values : List Pex). AreFiles (map lent (take (c.loop-file.file-index + 1) c.args.files.now)) values) (sym c.in_ok-push.ensures.items)
    (zip_next IsFile lent c.args.files.now c.loop-file.file-index none c.loop-file.values.items c.in_ok-value.value c.loop-file.invariant c.loop-file-test.true c.in_ok-value.ensures)
