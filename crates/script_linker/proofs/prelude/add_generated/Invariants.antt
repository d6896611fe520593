use Rattle.script_linker.specs.Link.{AreCompleted}
use Rattle.script_linker.proofs.GeneratedLemmas.{HaveGivenBelow}
use Rattle.script_linker.proofs.prelude.add_generated.Given as goal

abbrev pub invariant-loop-number : goal.invariant-loop-number
invariant-loop-number l = record {
  completed : AreCompleted l.initial.files.items l.files.items;
  given : HaveGivenBelow l.number l.initial.files.items l.files.items;
}
