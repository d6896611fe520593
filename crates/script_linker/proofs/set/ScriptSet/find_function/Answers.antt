use Rattle.std.proofs.Common.{arith}
use Rattle.script_linker.proofs.LookupLemmas.{function_place-fits}
use Rattle.script_linker.proofs.set.ScriptSet.find_function.Goals as goal

pub overflow_cast-result-2 : goal.overflow_cast-result-2
overflow_cast-result-2 c =
    omega (arith, function_place-fits c.self.inside.scripts c.in_ok-script.script c.in_ok-script.place c.self.invariant c.in_ok-script.ensures.within)
