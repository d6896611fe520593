use Rattle.std.proofs.Common.{ℕ, List, Global, ◌+◌, map, sym, subst, take}
use Rattle.std.specs.declared.vec.Vec.{Vec}
use Rattle.command_files.specs.Compiled.{AreFilesOf}
use Rattle.papy_base.specs.Bytes.{bytes_of}
use Rattle.command_files.proofs.Encoded.{files_more, shaped_at}
use Rattle.command_files.proofs.compiled.encode_each.Goals as goal

pub encode-requires : goal.encode-requires
encode-requires c = shaped_at c.args.values.now c.loop-value.value-index c.value-item.result c.loop-value-test.true c.value-item.is c.requires

pub loop-value-preserved : goal.loop-value-preserved
loop-value-preserved c =
    let P : List (Vec ℕ Global) → Type 0 = λ files. AreFilesOf (take (c.loop-value.value-index + 1) c.args.values.now) (map bytes_of files) in
    let more = files_more c.args.values.now c.loop-value.files.items c.loop-value.value-index c.value-item.result c.in_ok-bytes.bytes c.loop-value-test.true c.value-item.is c.loop-value.invariant c.in_ok-bytes.ensures.encoded in
    subst P (sym c.in_ok-push.ensures.items) more
