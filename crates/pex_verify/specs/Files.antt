-- Values that are files: well shaped, and not too large for the counts and the 16 MiB of a file.
use Rattle.pex_values.specs.Fit.{Fits}
use Rattle.pex_values.specs.Plain.{plain}
use Rattle.pex_values.specs.Shape.{IsWellShaped}
use Rattle.pex_values.specs.declared.values.Pex.{Pex}

pub record IsFile (v : Pex) : Type 0 where
  pub shaped : IsWellShaped (plain v)
  pub fits : Fits (plain v)
