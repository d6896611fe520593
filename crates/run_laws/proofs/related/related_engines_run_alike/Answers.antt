use Rattle.run_laws.specs.Fits.{by_types}
use Rattle.run_laws.proofs.Alike.{same_runs}
use Rattle.run_laws.proofs.Kept.{run_keeps}
use Rattle.run_laws.proofs.related.related_engines_run_alike.Goals as goal

pub returns : goal.returns
returns g c = record {
  fitting = λ left right alike scene outline kinds turns all. same_runs g.B.Related.related (by_types g.B.Related.types) left right alike scene outline kinds turns all;
  kept = λ left right alike keeps scene kinds turns s. same_runs g.B.Related.related (by_types g.B.Related.types) left right alike scene _ kinds turns (run_keeps g.B.Related.types left keeps scene kinds turns s);
}
