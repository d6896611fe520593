-- What holds of an object that was loaded.
use Rattle.std.specs.Prelude.{ℕ, vec_len}
use Rattle.pex_verify.specs.declared.object.LoadedObject.{LoadedObject}
use Rattle.pex_verify.specs.Soundness.{bounds_with, IsSoundScript, IsSoundOutline}

-- an object of a set of so many scripts: its code is sound, and the numbers of its outline are in range
pub record IsSoundObject (count : ℕ) (o : LoadedObject) : Type 0 where
  pub script : IsSoundScript (bounds_with count (vec_len o.outline.variables)) o.script
  pub outline : IsSoundOutline count o.outline
