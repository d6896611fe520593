use Rattle.run_laws.proofs.Touches.{turned_other, turned_keeps}
use Rattle.code_meaning.specs.Engine.{code_engine}
use Rattle.run_laws.proofs.code_runs.code_turn_touches_its_own.Goals as goal

pub returns : goal.returns
returns c = record {
  kept = λ outline scripts scene state k. turned_keeps scene (code_engine outline scripts) state k;
  same = λ outline scripts scene state k others d. turned_other scene (code_engine outline scripts) state k others d;
}
