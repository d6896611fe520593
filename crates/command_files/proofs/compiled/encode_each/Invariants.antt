use Rattle.std.proofs.Common.{map, take}
use Rattle.command_files.specs.Compiled.{AreFilesOf}
use Rattle.papy_base.specs.Bytes.{bytes_of}
use Rattle.command_files.proofs.compiled.encode_each.Given as goal

abbrev pub invariant-loop-value : goal.invariant-loop-value
invariant-loop-value l = AreFilesOf (take l.value-index l.values) (map bytes_of l.files.items)
