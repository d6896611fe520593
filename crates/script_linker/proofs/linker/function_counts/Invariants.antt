use Rattle.std.proofs.Common.{◌≡◌, map, take}
use Rattle.script_linker.specs.Link.{function_count}
use Rattle.script_linker.proofs.linker.function_counts.Given as goal

abbrev pub invariant-loop-file : goal.invariant-loop-file
invariant-loop-file l = l.counts.items ≡ map function_count (take l.file-index l.files)
