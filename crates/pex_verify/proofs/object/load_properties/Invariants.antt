use Rattle.std.proofs.Common.{All, take}
use Rattle.pex_values.specs.declared.values.PexProperty.{PexProperty}
use Rattle.pex_verify.specs.declared.judged.JudgedProperty.{JudgedProperty}
use Rattle.pex_verify.specs.Pairs.{Paired}
use Rattle.pex_verify.specs.Places.{bounds_of}
use Rattle.pex_verify.specs.Properties.{IsProperty}
use Rattle.pex_verify.specs.Soundness.{IsSoundProperty}
use Rattle.pex_verify.proofs.object.load_properties.Given as goal

abbrev pub invariant-loop-place : goal.invariant-loop-place
invariant-loop-place l =
    All (IsSoundProperty (bounds_of l.home)) l.properties.items × Paired PexProperty JudgedProperty (λ n p f. IsProperty l.home n p f) (take l.place l.home.object.now.properties.items) l.properties.items
