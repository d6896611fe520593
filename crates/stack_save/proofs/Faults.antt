-- What faults of parts are to a held file.
use Rattle.std.proofs.Common.{subst, sym}
use Rattle.pex_codec.specs.declared.faults.PexFault.{PexFault}
use Rattle.pex_codec.specs.declared.faults.PexFault.TheVariants as pex
use Rattle.stack_save.specs.Faults.{IsFileFault}
use Rattle.stack_save.specs.Loading.{BreaksFiles}
use Rattle.stack_save.specs.declared.fault.HeldFault.{HeldFault}

pub breaks_files : (fault : PexFault) (held : HeldFault) → IsFileFault fault held → BreaksFiles held
breaks_files (pex.Broken offset rule) held is = subst BreaksFiles (sym is) tt
breaks_files pex.OutOfMemory held is = subst BreaksFiles (sym is) tt
