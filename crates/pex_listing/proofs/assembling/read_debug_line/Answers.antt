use Rattle.std.proofs.Common.{refl, rules, sym}
use Rattle.pex_listing.proofs.Opening.{read_err}
use Rattle.pex_listing.proofs.assembling.read_debug_line.Goals as goal

pub returns-in_err-read_no_debug-clause-left : goal.returns-in_err-read_no_debug-clause-left
returns-in_err-read_no_debug-clause-left c = λ strings awaited good.
    read_err _ _ c.in_err-read_no_debug.field-0.0 c.from_residual.result (search rules) refl (c.in_err-read_no_debug.ensures.left strings awaited good (sym c.if-is_at.ensures))

pub returns-then-is_at-clause-left : goal.returns-then-is_at-clause-left
returns-then-is_at-clause-left c = λ strings awaited good. c.in_ok-read_no_debug.ensures.left strings awaited good (sym c.if-is_at.ensures)

pub returns-in_err-read_debug_time-clause-left : goal.returns-in_err-read_debug_time-clause-left
returns-in_err-read_debug_time-clause-left c = λ strings awaited good.
    read_err _ _ c.in_err-read_debug_time.field-0.0 c.from_residual-in_err-read_debug_time.result (search rules) refl (c.in_err-read_debug_time.ensures.left strings awaited good (sym c.if-is_at.ensures))

pub returns-clause-left : goal.returns-clause-left
returns-clause-left c = λ strings awaited good. c.in_ok-read_debug_time.ensures.left strings awaited good (sym c.if-is_at.ensures)
