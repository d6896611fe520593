-- How `compile` ends.
use Rattle.std.proofs.Common.{◌≡◌, ◌∙◌, inr, ℕ, List, ap, sym, map, length, String, Global}
use Rattle.std.specs.Prelude.{Option, Err, codes}
use Rattle.std.specs.String.{string_bytes}
use Rattle.std.proofs.lemmas.List.{length-map}
use Rattle.papy_io.specs.declared.fault.IoFault.{IoFault}
use Rattle.papy_io.specs.declared.fault.IoFault.TheVariants as io
use Rattle.papy_io.specs.Files.{Files}
use Rattle.command_files.specs.declared.compiled.CompiledSet.{CompiledSet}
use Rattle.papyrus_cmd.specs.Compile.{CompileLeaves, HaveFiles}
use Rattle.command_files.specs.Compiled.{HasFiles, spelled}
use Rattle.papy_base.specs.Bytes.{bytes_of}
use Rattle.command_files.specs.Ending.{write_ending}
use Rattle.papyrus_cmd.specs.Written.{WritesEach}

-- a file for each script
pub have_files : (count : ℕ) (scripts : List (String Global)) (set : CompiledSet) → count ≡ length scripts → HasFiles count set → HaveFiles (map string_bytes scripts) (map bytes_of set.files.items)
have_files count scripts set counted has = record {
  values = set.judged.files;
  one_each = ap length has.files.bytes ∙ length-map set.judged.files spelled ∙ has.number ∙ counted ∙ sym (length-map scripts string_bytes);
  spelled = has.files;
}

-- on files that were not all written
pub cut_leaves : (T : Type 0) (names files : List (List ℕ)) (fault : IoFault) (old new : Option Files) → HaveFiles names files → WritesEach {T = T} (codes ".pex") names files (Err fault) old new → CompileLeaves names (write_ending fault) old new
cut_leaves T names files io.Failed old new have writes = inr (files, have, writes)
cut_leaves T names files io.OutOfMemory old new have writes = inr (files, have, writes)
