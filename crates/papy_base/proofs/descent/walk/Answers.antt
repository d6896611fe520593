use Rattle.std.proofs.Common.{ℕ, Option, Some, set, sym, ap, subst, ◌∙◌, arith}
use Rattle.papy_base.specs.Circles.{Walked}
use Rattle.papy_base.proofs.CircleWalks.{begins, goes_on, comes_out, meets, circles, fills}
use Rattle.papy_base.proofs.descent.walk.Goals as goal

pub loop-init : goal.loop-init
loop-init c = begins c.args.parents.now c.args.walks.now c.args.start

pub returns-then-here-walks : goal.returns-then-here-walks
returns-then-here-walks c = λ can. absurd (omega (arith, (c.loop.invariant can).within, can.as_long))

pub returns-then-walk-start : goal.returns-then-walk-start
returns-then-walk-start c = λ can. circles c.args.parents.now c.args.walks.now c.args.start c.loop.walks c.loop.here c.loop.counter (c.loop.invariant can) can (c.in-Some.is ∙ ap Some c.if-walk-start.true)

pub returns-else-walk-start : goal.returns-else-walk-start
returns-else-walk-start c =
    λ can. meets c.args.parents.now c.args.walks.now c.args.start c.loop.walks c.loop.here c.loop.counter (c.loop.invariant can) c.in-Some.walk c.in-Some.is c.if-walk-start.false

pub returns-in_err-here : goal.returns-in_err-here
returns-in_err-here c =
    λ can.
    subst (λ (o : Option ℕ). Walked c.args.parents.now c.args.walks.now c.args.start o (set c.loop.walks c.loop.here (Some c.args.start)))
    (sym c.from_residual.ensures)
    (comes_out c.args.parents.now c.args.walks.now c.args.start c.loop.walks c.loop.here c.loop.counter (c.loop.invariant can) c.if-here-walks.false c.in_default.is (sym c.in_err-here.ensures))

pub loop-preserved : goal.loop-preserved
loop-preserved c =
    λ can. goes_on c.args.parents.now c.args.walks.now c.args.start c.loop.walks c.loop.here c.loop.counter (c.loop.invariant can) c.if-here-walks.false c.in_default.is c.in_ok-here.here can.among (sym c.in_ok-here.ensures)

pub returns : goal.returns
returns c =
    λ can. fills c.args.parents.now c.args.walks.now c.args.start c.loop.walks c.loop.here c.loop.counter (c.loop.invariant can) can (omega (arith, can.as_long)) (omega arith)
