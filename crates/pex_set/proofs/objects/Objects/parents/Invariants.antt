use Rattle.std.proofs.Common.{◌≡◌, vec_len, map, take}
use Rattle.pex_set.specs.Objects.{parent_in}
use Rattle.pex_set.proofs.objects.Objects.parents.Given as goal

abbrev pub invariant-loop-head : goal.invariant-loop-head
invariant-loop-head l = (vec_len l.parents ≡ l.head-index) × (l.parents.items ≡ map (parent_in l.self) (take l.head-index l.self))
