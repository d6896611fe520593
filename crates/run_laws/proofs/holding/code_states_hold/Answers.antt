use Rattle.run_laws.specs.TypedCode.{code_types}
use Rattle.run_laws.specs.Keeps.{first_known}
use Rattle.code_meaning.specs.Engine.{code_engine}
use Rattle.run_laws.proofs.Kept.{first_holds, begun_holds, step_holds, turn_fits, turn_stops, instances_there}
use Rattle.run_laws.proofs.holding.code_states_hold.Goals as goal

pub returns : goal.returns
returns c = record {
  first = λ outline scripts keeps scene kinds s. first_holds (code_types outline scripts) (code_engine outline scripts) keeps scene kinds s;
  begins = λ outline scripts keeps scene s state h. begun_holds (code_types outline scripts) (code_engine outline scripts) keeps scene (first_known outline scene) state s.calls h;
  steps = λ outline scripts keeps scene s state h. step_holds (code_types outline scripts) (code_engine outline scripts) keeps scene (first_known outline scene) state s.natives s.calls h;
  turns = λ outline scripts keeps scene s state h k. turn_fits (code_types outline scripts) (code_engine outline scripts) keeps scene (first_known outline scene) state k s.natives h;
  stops = λ outline scripts keeps scene s state h k. turn_stops (code_types outline scripts) (code_engine outline scripts) keeps scene (first_known outline scene) state k s.natives h;
  there = λ outline scripts scene state h. instances_there (code_types outline scripts) (first_known outline scene) state h;
}
