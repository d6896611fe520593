-- What a desk is seen as that tells no bytes.
use Rattle.std.specs.Prelude.{ℕ, List, Option}
use Rattle.papy_io.specs.Activity.{Activity}

pub record DeskState : Type 0 where
  pub busy : Activity
  pub taken : ℕ
  pub read_faults : ℕ
  pub write_faults : ℕ
  pub missed : Option (List ℕ)
