use Rattle.std.proofs.Common.{Some, sym, ap, ◌∙◌}
use Rattle.papy_base.proofs.CircleLemmas.{starts, no_parent, marks_on, marks_all}
use Rattle.papy_base.proofs.descent.mark_circle.Goals as goal

pub loop-init : goal.loop-init
loop-init c = λ long. starts c.args.parents.now c.args.is_above_itself.now c.args.start

pub returns-in_default : goal.returns-in_default
returns-in_default c =
    λ long circle.
    absurd (no_parent c.args.parents.now c.args.is_above_itself.now c.args.start c.loop.is_above_itself c.loop.here c.loop.counter (c.loop.invariant long) circle
    (sym c.item_at.ensures ∙ c.in_default.is))

pub returns-then-parent-start : goal.returns-then-parent-start
returns-then-parent-start c =
    λ long circle.
    marks_all c.args.parents.now c.args.is_above_itself.now c.args.start c.loop.is_above_itself c.loop.here c.loop.counter (c.loop.invariant long)
    c.mark.new.is_above_itself (c.loop.auto.is_above_itself ∙ long) c.mark.ensures.marked c.mark.ensures.stay c.mark.ensures.only
    (sym c.item_at.ensures ∙ c.in-Some.is ∙ ap Some c.if-parent-start.true)

pub loop-preserved : goal.loop-preserved
loop-preserved c =
    λ long.
    marks_on c.args.parents.now c.args.is_above_itself.now c.args.start c.loop.is_above_itself c.loop.here c.loop.counter (c.loop.invariant long)
    c.mark.new.is_above_itself (c.loop.auto.is_above_itself ∙ long) c.mark.ensures.marked c.mark.ensures.stay c.mark.ensures.only
    c.in-Some.parent (sym c.item_at.ensures ∙ c.in-Some.is) c.if-parent-start.false
