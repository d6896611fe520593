use Rattle.script_meaning.specs.Source.{source_engine}
use Rattle.run_laws.specs.TypedTrees.{source_types}
use Rattle.run_laws.proofs.Kept.{run_keeps}
use Rattle.run_laws.proofs.TreesEnter.{source_keeps}
use Rattle.run_laws.proofs.fits.typed_scripts_keep_what_fits.Goals as goal

pub returns : goal.returns
returns c = record {
  keeps = λ outline scripts set. source_keeps outline scripts set;
  runs = λ outline scripts set scene kinds turns s. run_keeps (source_types outline scripts) (source_engine outline scripts) (source_keeps outline scripts set) scene kinds turns s;
}
