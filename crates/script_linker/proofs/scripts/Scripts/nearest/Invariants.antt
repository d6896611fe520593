use Rattle.script_linker.specs.Lookup.{parents_of}
use Rattle.script_linker.proofs.LookupLemmas.{Searches}
use Rattle.script_linker.proofs.scripts.Scripts.nearest.Given as goal

abbrev pub invariant-loop-here : goal.invariant-loop-here
invariant-loop-here g l = Searches (parents_of l.fn.self) g.own l.fn.script l.here-iterator
