use Rattle.run_laws.proofs.Touches.{turned_other, turned_keeps}
use Rattle.run_laws.proofs.touch.turn_touches_its_own.Goals as goal

pub returns : goal.returns
returns g c = record {
  kept = λ scene engine state k. turned_keeps scene engine state k;
  same = λ scene engine state k others d. turned_other scene engine state k others d;
}
