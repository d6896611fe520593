use Rattle.std.proofs.Common.{arith, ◌≡◌, ◌-◌, map, length, vec_len}
use Rattle.std.specs.String.{string_bytes}
use Rattle.papy_base.specs.Bytes.{bytes_of}
use Rattle.papyrus_cmd.proofs.Compiling.{cut_leaves, have_files}
use Rattle.papyrus_cmd.proofs.compile.compile.Goals as goal

pub returns-in-Err-write_each-clause-holds : goal.returns-in-Err-write_each-clause-holds
returns-in-Err-write_each-clause-holds g c =
    let compiled = c.in-Ok-compile_set.compiled in
    let counted : vec_len c.in-Ok.set.scripts - 6 ≡ length c.args.scripts.now = omega (arith, c.in-Ok.ensures.scripts) in
    let have = have_files (vec_len c.in-Ok.set.scripts - 6) c.args.scripts.now compiled counted c.in-Ok-compile_set.ensures in
    let writes = rw (c.deref.ensures.value, c.in-Ok.ensures.holds) at c.in-Err-write_each.ensures.holds in
    rw c.from-in-Err-write_each.ensures (cut_leaves (Unit {0}) (map string_bytes c.args.scripts.now) (map bytes_of compiled.files.items) c.in-Err-write_each.fault _ _ have writes)
