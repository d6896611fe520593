use Rattle.std.proofs.Common.{◌≡◌, take, vec_len}
use Rattle.pex_verify.specs.Heads.{placed_objects}
use Rattle.pex_verify.specs.Loading.{judged_by, AreObjects}
use Rattle.pex_verify.specs.Sources.{object_count}
use Rattle.pex_verify.specs.Sets.{AreSoundScripts}
use Rattle.pex_verify.proofs.verifier.load_files.Given as goal

abbrev pub invariant-loop-source : goal.invariant-loop-source
invariant-loop-source l =
    (vec_len l.parts.scripts ≡ object_count (take l.source-index l.sources)) × AreSoundScripts (vec_len l.loader.set.now.heads) l.parts.outlines.items l.parts.scripts.items × AreObjects (judged_by l.loader) (placed_objects (take l.source-index l.sources)) l.parts.scripts.items l.parts.outlines.items
