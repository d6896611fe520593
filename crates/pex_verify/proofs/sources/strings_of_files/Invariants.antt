use Rattle.std.proofs.Common.{◌≡◌, take}
use Rattle.pex_set.specs.Names.{IsGrown}
use Rattle.pex_verify.specs.NameTables.{with_files}
use Rattle.pex_verify.specs.Sources.{AreNamed}
use Rattle.pex_verify.proofs.sources.strings_of_files.Given as goal

abbrev pub invariant-loop-pex : goal.invariant-loop-pex
invariant-loop-pex l =
    AreNamed l.table (take l.pex-index l.files) l.strings.items × IsGrown l.fn.table l.table × (l.table ≡ with_files l.fn.table (take l.pex-index l.files))
