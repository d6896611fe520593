use Rattle.std.proofs.Common.{sym, ◌∙◌}
use Rattle.run_replay.proofs.NumbersLemmas.{nonempty, front, none_in_front, none_behind, too_many}
use Rattle.run_replay.proofs.reader.numbers_of.Goals as goal

pub returns-in_err-first : goal.returns-in_err-first
returns-in_err-first c = rw c.from_residual.ensures (none_in_front c.args.bytes.now (nonempty c.args.bytes.now (sym c.is_empty.ensures ∙ c.if-is_empty.false)) c.in_err-first.ensures)

pub returns-in_err-second : goal.returns-in_err-second
returns-in_err-second c = rw c.from_residual-in_err-second.ensures
    (none_behind c.args.bytes.now c.in_ok-first.behind.now c.in_ok-first.first (front _ _ _ c.in_ok-first.ensures) (nonempty c.in_ok-first.behind.now (sym c.is_empty-2.ensures ∙ c.if-is_empty-2.false)) c.in_err-second.ensures)

pub returns : goal.returns
returns c = too_many c.args.bytes.now c.in_ok-first.behind.now c.in_ok-second.rest.now c.in_ok-first.first c.in_ok-second.second (front _ _ _ c.in_ok-first.ensures) (front _ _ _ c.in_ok-second.ensures) (nonempty c.in_ok-second.rest.now (sym c.is_empty-3.ensures ∙ c.if-is_empty-3.false))
