use Rattle.std.proofs.Common.{drop, refl, arith, length-drop}
use Rattle.run_laws.proofs.CodeStepBounds.{run_by_steps}
use Rattle.run_laws.proofs.bounded.code_steps_are_the_run.Goals as goal

pub returns : goal.returns
returns c = λ home at inner within. run_by_steps home at (drop at home.function.code) 0 inner refl (let d = length-drop at home.function.code in omega (arith, d, within))
