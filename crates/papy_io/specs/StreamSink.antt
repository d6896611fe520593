-- What a sink over a writer is seen as.
use Rattle.std.specs.Prelude.{ℕ}

pub record StreamState (W : Type 0) : Type 0 where
  pub writer : W
  pub faults : ℕ
