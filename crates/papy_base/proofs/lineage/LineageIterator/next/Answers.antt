use Rattle.std.proofs.Common.{rules, ◌≡◌, ◌∷◌, ◌-◌, ◌<◌, List, [], Option, None, map, sym, ap, subst, ◌∙◌, length, arith}
use Rattle.std.specs.Iterator.{YieldsFirst, MakesProgress}
use Rattle.papy_base.specs.Lineage.{upward}
use Rattle.papy_base.proofs.StandingLemmas.{upward-end, upward-none, upward-some}
use Rattle.papy_base.proofs.lineage.LineageIterator.next.Goals as goal

pub returns-in_err-here-clause-steps : goal.returns-in_err-here-clause-steps
returns-in_err-here-clause-steps g c =
    let way = c.self.inside in
    let none : way.next ≡ None = search rules in
    let end : c.args.self.now ≡ [] = sym c.self.view_is ∙ ap (upward way.left (map g.T.HasParent.parent_number way.things.now)) none ∙ upward-none way.left _ in
    rw c.from_residual.ensures (end, end)

pub returns-then-self-eq0-clause-steps : goal.returns-then-self-eq0-clause-steps
returns-then-self-eq0-clause-steps g c =
    let way = c.self.inside in
    let end : c.args.self.now ≡ [] = sym c.self.view_is ∙ ap (λ left. upward left (map g.T.HasParent.parent_number way.things.now) way.next) c.if-self-eq0.true ∙ upward-end _ way.next in
    (end, end)

pub returns-clause-steps : goal.returns-clause-steps
returns-clause-steps g c =
    let way = c.self.inside in
    let parents = map g.T.HasParent.parent_number way.things.now in
    let some : 0 < way.left = omega (arith, c.if-self-eq0.false) in
    sym c.self.view_is
    ∙ ap (upward way.left parents) (search rules)
    ∙ upward-some way.left parents c.in_ok-here.here some
    ∙ ap (λ next. c.in_ok-here.here ∷ upward (way.left - 1) parents next) (sym c.parent_of-self-inside.ensures)

pub returns-clause-goes : goal.returns-clause-goes
returns-clause-goes g c =
    let shorter = ap length (returns-clause-steps g c) in
    record { on = λ _. (tt, tt, omega (arith, shorter)); keeps = tt; rests = λ _. tt }
