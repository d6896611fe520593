use Rattle.std.proofs.Common.{◌≡◌, length}
use Rattle.papy_base.proofs.CircleLemmas.{IsMarking}
use Rattle.papy_base.proofs.descent.mark_circle.Given as goal

abbrev pub invariant-loop : goal.invariant-loop
invariant-loop l =
    length l.initial.is_above_itself ≡ length l.parents → IsMarking l.parents l.initial.is_above_itself l.start l.is_above_itself l.here l.counter
