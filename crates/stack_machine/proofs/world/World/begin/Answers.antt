use Rattle.std.proofs.Common.{◌∙◌}
use Rattle.std.proofs.lemmas.Result.{MatchResult-weaker, on_ok_weaker}
use Rattle.stack_machine.proofs.Noting.{beginning_noted, some_more, some_noted}
use Rattle.stack_machine.proofs.world.World.begin.Goals as goal

pub returns-clause-noted : goal.returns-clause-noted
returns-clause-noted g c =
    let starts = c.in_ok-start_stacks.ensures.noted in
    MatchResult-weaker c.wake.result c.wake.ensures.noted
    (λ _ wakes. beginning_noted _ _ _ _ _ _ c.wake.ensures.stacks starts wakes)
    (λ _ wakes. some_more _ _ _ (some_noted _ _ starts) wakes)

pub returns-clause-begun : goal.returns-clause-begun
returns-clause-begun g c =
    let b = c.in_ok-start_stacks.ensures.begun in
    on_ok_weaker c.wake.result (λ stands. record {
      calls_planned = b.calls_planned;
      few = b.few;
      room = c.wake.ensures.room ∙ b.room;
      started = c.wake.ensures.stacks ∙ b.started;
      stands = stands;
    }) c.wake.ensures.stands
