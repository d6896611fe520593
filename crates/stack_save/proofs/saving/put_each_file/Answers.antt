use Rattle.std.proofs.Common.{ℕ, List, subst, sym}
use Rattle.machine_state.specs.Savable.{FitsFourBytes}
use Rattle.stack_save.proofs.Lists.{each_at}
use Rattle.stack_save.proofs.saving.put_each_file.Goals as goal
use Rattle.papy_base.specs.Bytes.{bytes_of}

pub put_long_string-requires : goal.put_long_string-requires
put_long_string-requires c =
    subst (λ (b : List ℕ). FitsFourBytes b) (sym c.deref.ensures.value)
    (each_at (FitsFourBytes {A = ℕ}) bytes_of c.args.files.now c.loop-file.file-index c.file-item.result c.requires c.loop-file-test.true c.file-item.is)
