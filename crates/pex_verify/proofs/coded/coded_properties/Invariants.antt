use Rattle.std.specs.List.{AllZip}
use Rattle.pex_verify.specs.Coding.{CodesProperty, outline_in}
use Rattle.pex_verify.proofs.coded.coded_properties.Given as goal

abbrev pub invariant-loop-property : goal.invariant-loop-property
invariant-loop-property l = AllZip (CodesProperty (outline_in l.scripts)) l.yielded l.coded.items
