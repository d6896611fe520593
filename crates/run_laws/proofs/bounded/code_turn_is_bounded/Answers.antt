use Rattle.run_laws.proofs.CodeStepBounds.{turn_bounded, turn_once}
use Rattle.run_laws.proofs.bounded.code_turn_is_bounded.Goals as goal

pub returns : goal.returns
returns c = record {
  bounded = λ scripts setting left body reply sight. turn_bounded scripts setting left body reply sight;
  once = λ scripts setting left body reply sight number. turn_once scripts setting left body reply sight number;
}
