use Rattle.std.proofs.Common.{◌≡◌, ◌+◌, List, ◌++◌, length, map, take, vec_len}
use Rattle.papy_base.specs.declared.descent.Span.{Span}
use Rattle.pex_verify.specs.Tables.{all_members}
use Rattle.pex_verify.specs.Heads.{Placed, AreHeads, members_of, placed}
use Rattle.pex_verify.proofs.scripts.add_heads.Given as goal

abbrev pub invariant-loop-object : goal.invariant-loop-object
invariant-loop-object l =
    (vec_len l.heads ≡ vec_len l.fn.heads + l.object-index) × ((before : List Placed) → AreHeads (members_of l.members) l.parents before l.fn.heads.items
    → AreHeads (members_of l.members) l.parents (before ++ map (placed l.source) (take l.object-index l.source.pex.now.objects.items)) l.heads.items)
    × ((descent : List Span) (before : List Placed) → length before ≡ vec_len l.fn.heads → l.fn.lists ≡ all_members descent before l.fn.heads.items
    → l.lists ≡ all_members descent (before ++ map (placed l.source) (take l.object-index l.source.pex.now.objects.items)) l.heads.items)
