use Rattle.std.specs.List.{AllZip}
use Rattle.pex_verify.specs.Coding.{CodesState, outline_in}
use Rattle.pex_verify.proofs.coded.coded_states.Given as goal

abbrev pub invariant-loop-name : goal.invariant-loop-name
invariant-loop-name l = AllZip (CodesState (outline_in l.scripts)) l.yielded l.coded.items
