use Rattle.std.proofs.Common.{List, ◌++◌, take}
use Rattle.std.specs.List.{flat_map}
use Rattle.pex_verify.specs.Sites.{site_of}
use Rattle.pex_verify.specs.Matching.{Written, AreWritten}
use Rattle.pex_verify.specs.Places.{bounds_of}
use Rattle.pex_verify.specs.Soundness.{AreSoundFunctions}
use Rattle.pex_verify.specs.States.{member_in}
use Rattle.pex_verify.proofs.object.add_members.Given as goal

abbrev pub invariant-loop-place : goal.invariant-loop-place
invariant-loop-place l =
    (AreSoundFunctions (bounds_of l.home) l.fn.functions.items → AreSoundFunctions (bounds_of l.home) l.functions.items)
    × ((before : List Written) → AreWritten (site_of l.home) before l.fn.functions.items → AreWritten (site_of l.home) (before ++ flat_map (member_in l.home) (take l.place-index l.place-items)) l.functions.items)
