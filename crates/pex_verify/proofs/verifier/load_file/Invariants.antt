use Rattle.std.proofs.Common.{◌≡◌, ◌+◌, List, ◌++◌, map, take, vec_len}
use Rattle.pex_verify.specs.Heads.{Placed, placed}
use Rattle.pex_verify.specs.Loading.{judged_by, AreObjects}
use Rattle.pex_verify.specs.Sets.{AreSoundScripts}
use Rattle.pex_verify.proofs.verifier.load_file.Given as goal

abbrev pub invariant-loop-object : goal.invariant-loop-object
invariant-loop-object l =
    (vec_len l.parts.scripts ≡ vec_len l.fn.parts.scripts + l.object-index) × (AreSoundScripts (vec_len l.loader.set.now.heads) l.fn.parts.outlines.items l.fn.parts.scripts.items → AreSoundScripts (vec_len l.loader.set.now.heads) l.parts.outlines.items l.parts.scripts.items)
    × ((before : List Placed) → AreObjects (judged_by l.loader) before l.fn.parts.scripts.items l.fn.parts.outlines.items → AreObjects (judged_by l.loader) (before ++ map (placed l.source) (take l.object-index l.source.pex.now.objects.items)) l.parts.scripts.items l.parts.outlines.items)
