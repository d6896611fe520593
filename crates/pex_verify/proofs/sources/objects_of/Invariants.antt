use Rattle.std.proofs.Common.{◌≡◌, length, take}
use Rattle.pex_verify.specs.Heads.{AreNumbered, placed_objects}
use Rattle.pex_verify.specs.Sources.{object_count}
use Rattle.pex_verify.proofs.sources.objects_of.Given as goal

abbrev pub invariant-loop-source : goal.invariant-loop-source
invariant-loop-source l =
    (length l.objects ≡ object_count (take l.source-index l.sources)) × AreNumbered (placed_objects (take l.source-index l.sources)) l.objects
