-- What a fault in a PEX file is to a held file.
use Rattle.std.specs.Prelude.{◌≡◌}
use Rattle.pex_codec.specs.declared.faults.PexFault.{PexFault}
use Rattle.pex_codec.specs.declared.faults.PexFault.TheVariants as pex
use Rattle.stack_save.specs.declared.fault.HeldFault.{HeldFault}
use Rattle.stack_save.specs.declared.fault.HeldFault.TheVariants.{Broken, OutOfMemory}
use Rattle.stack_save.specs.declared.fault.HeldRule.TheVariants as rules

-- what a fault of the decoder is to a held file
abbrev pub IsFileFault : PexFault → HeldFault → Type 0
IsFileFault (pex.Broken offset rule) fault = fault ≡ Broken rules.BadFiles
IsFileFault pex.OutOfMemory fault = fault ≡ OutOfMemory
