use Rattle.std.proofs.Common.{◌≡◌, ◌+◌, ◌++◌, length, map, take}
use Rattle.pex_set.specs.Objects.{head_of}
use Rattle.pex_set.proofs.objects.Objects.add_file.Given as goal

abbrev pub invariant-loop-object : goal.invariant-loop-object
invariant-loop-object l =
    (length l.self ≡ length l.fn.self + l.object-index) × (l.self ≡ l.fn.self ++ map (head_of l.names l.file) (take l.object-index l.object-items))
