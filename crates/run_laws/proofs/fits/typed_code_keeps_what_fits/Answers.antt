use Rattle.run_laws.proofs.Kept.{run_keeps}
use Rattle.code_meaning.specs.Engine.{code_engine}
use Rattle.run_laws.specs.TypedCode.{code_types}
use Rattle.run_laws.proofs.CodeEnters.{code_keeps}
use Rattle.run_laws.proofs.fits.typed_code_keeps_what_fits.Goals as goal

pub returns : goal.returns
returns c = record {
  keeps = λ outline scripts set. code_keeps outline scripts set;
  runs = λ outline scripts set scene kinds turns s. run_keeps (code_types outline scripts) (code_engine outline scripts) (code_keeps outline scripts set) scene kinds turns s;
}
