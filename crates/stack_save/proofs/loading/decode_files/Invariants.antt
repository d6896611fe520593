use Rattle.std.proofs.Common.{map, take}
use Rattle.stack_save.proofs.loading.decode_files.Given as goal
use Rattle.stack_save.specs.Held.{AreFiles}
use Rattle.stack_save.specs.Loading.{lent}

abbrev pub invariant-loop-file : goal.invariant-loop-file
invariant-loop-file l = AreFiles (map lent (take l.file-index l.files)) l.values.items
