use Rattle.std.proofs.Common.{◌≡◌, take, map}
use Rattle.script_linker.specs.Lookup.{parent_in}
use Rattle.script_linker.proofs.parents.parent_numbers.Given as goal

abbrev pub invariant-loop-file : goal.invariant-loop-file
invariant-loop-file l = l.parents.items ≡ map (parent_in l.files) (take l.file-index l.files)
