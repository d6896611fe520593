-- What a command had written whose output failed.
use Rattle.std.proofs.Common.{ℕ, List, refl, take, inr}
use Rattle.std.specs.Prelude.{Option, None, Some, IfSome}
use Rattle.papy_io.specs.declared.fault.IoFault.{IoFault}
use Rattle.papy_io.specs.declared.fault.IoFault.TheVariants as io
use Rattle.papy_io.specs.Files.{Files}
use Rattle.papy_io.specs.Sink.{Appended}
use Rattle.command_files.specs.declared.ending.Ending.{Ending}
use Rattle.command_files.specs.declared.ending.Ending.TheVariants.{Done}
use Rattle.command_files.specs.Outputs.{Outputs}
use Rattle.command_files.specs.Ending.{write_ending}

-- the first part of a text that a command would have written
pub part_is_output : (Ends : Files → Ending → List ℕ → Type 0) (holds : Option Files) (text : List ℕ) (fault : IoFault) (before now : Option (List ℕ)) →
    IfSome holds (λ files. Ends files Done text) → ((n : ℕ) × Appended (take n text) before now) → Outputs Ends holds (write_ending fault) before now
part_is_output Ends None text io.Failed before now ends (n, wrote) = (take n text, wrote, tt)
part_is_output Ends None text io.OutOfMemory before now ends (n, wrote) = (take n text, wrote, tt)
part_is_output Ends (Some files) text io.Failed before now ends (n, wrote) = (take n text, wrote, inr (text, n, ends, refl))
part_is_output Ends (Some files) text io.OutOfMemory before now ends (n, wrote) = (take n text, wrote, inr (text, n, ends, refl))
