use Rattle.std.specs.Prelude.{⊤}
use Rattle.machine_state.specs.Savable.{FitsFourBytes}
use Rattle.stack_save.proofs.Lists.{TookFirst}
use Rattle.stack_save.proofs.loading.take_each_file.Given as goal
use Rattle.stack_save.specs.Loading.{lent}
use Rattle.stack_save.specs.Reading.{long_string_at}
use Rattle.stack_save.specs.Spelling.{long_string}

abbrev pub invariant-files : goal.invariant-files
invariant-files l = TookFirst FitsFourBytes (λ file. ⊤) long_string long_string_at lent l.initial.cursor.rest.now l.count l.counter l.files.items l.cursor.rest.now
