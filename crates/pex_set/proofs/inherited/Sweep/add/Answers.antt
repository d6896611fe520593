use Rattle.std.proofs.Common.{sym, ◌∙◌}
use Rattle.std.proofs.lemmas.Bool.{both_ways}
use Rattle.std.proofs.lemmas.Result.{on_ok_weaker}
use Rattle.pex_set.proofs.Sweeps.{IsOrdered-opened, IsSwept-opened, IsSwept-kept}
use Rattle.pex_set.proofs.inherited.Sweep.add.Goals as goal
use Rattle.pex_set.proofs.inherited.Sweep.add.Goals.{then-has_come_to-via-then-has_come_to, then-has_come_to-via-else-has_come_to+then-is_up_to}

pub returns-then-has_come_to-clause-swept : goal.returns-then-has_come_to-clause-swept
returns-then-has_come_to-clause-swept c =
    λ done o w fits. elim c.then-has_come_to.branch [
      | then-has_come_to-via-then-has_come_to b ↦ IsSwept-kept done c.args.member.now _ _ w fits (sym c.has_come_to.ensures ∙ b.if-has_come_to.true)
      | then-has_come_to-via-else-has_come_to+then-is_up_to b ↦ absurd (both_ways _ fits.goes_on (sym b.is_up_to.ensures ∙ b.if-is_up_to.true))
    ]

pub returns-clause-ordered : goal.returns-clause-ordered
returns-clause-ordered c =
    λ done o after. on_ok_weaker c.open.result (λ opened. IsOrdered-opened done c.args.member.now _ _ _ _ o c.in_ok-close.ensures.moved c.in_ok-close.ensures.rest _ _ opened after (sym c.is_up_to.ensures ∙ c.if-is_up_to.false)) c.open.ensures

pub returns-clause-swept : goal.returns-clause-swept
returns-clause-swept c =
    λ done o w fits. on_ok_weaker c.open.result (λ opened. IsSwept-opened done c.args.member.now _ _ _ _ o c.in_ok-close.ensures.moved c.in_ok-close.ensures.rest _ _ opened w fits (sym c.has_come_to.ensures ∙ c.if-has_come_to.false)) c.open.ensures
