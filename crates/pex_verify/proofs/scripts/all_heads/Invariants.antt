use Rattle.std.proofs.Common.{◌≡◌, List, take, vec_len}
use Rattle.pex_verify.specs.Heads.{AreHeads, members_of, placed_objects}
use Rattle.papy_base.specs.declared.descent.Span.{Span}
use Rattle.pex_verify.specs.Tables.{no_members, all_members}
use Rattle.pex_verify.specs.Sources.{object_count}
use Rattle.pex_verify.proofs.scripts.all_heads.Given as goal

abbrev pub invariant-loop-source : goal.invariant-loop-source
invariant-loop-source l =
    (vec_len l.heads ≡ object_count (take l.source-index l.sources)) × AreHeads (members_of l.members) l.parents (placed_objects (take l.source-index l.sources)) l.heads.items
    × ((descent : List Span) → l.fn.lists ≡ no_members descent → l.lists ≡ all_members descent (placed_objects (take l.source-index l.sources)) l.heads.items)
