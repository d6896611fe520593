use Rattle.std.specs.List.{AllZip}
use Rattle.pex_verify.specs.Coding.{CodesScript, outline_in}
use Rattle.pex_verify.proofs.coded.coded_scripts.Given as goal

abbrev pub invariant-loop-script : goal.invariant-loop-script
invariant-loop-script l = AllZip (CodesScript (outline_in l.scripts)) l.yielded l.coded.items
