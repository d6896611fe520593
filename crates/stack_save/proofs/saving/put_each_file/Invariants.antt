use Rattle.std.specs.Prelude.{⊤}
use Rattle.stack_save.proofs.Lists.{PutFirst}
use Rattle.stack_save.proofs.saving.put_each_file.Given as goal
use Rattle.papy_base.specs.Bytes.{bytes_of}
use Rattle.stack_save.specs.Spelling.{long_string}

abbrev pub invariant-loop-file : goal.invariant-loop-file
invariant-loop-file l = PutFirst (λ file. ⊤) long_string bytes_of l.initial.out.items l.files l.file-index l.out.items
