-- Lists whose items belong together, place by place.
use Rattle.std.specs.Prelude.{◌≡◌, ℕ, ◌<◌, List, length, slice_index_or}

-- as many of the one as of the other, and a fact of the two at each place
pub record Paired (X Y : Type 0) (P : ℕ → X → Y → Type 0) (xs : List X) (ys : List Y) : Type 0 where
  pub count : length xs ≡ length ys
  pub each : (k : ℕ) (x : X) (y : Y) → k < length ys → P k (slice_index_or xs k x) (slice_index_or ys k y)
