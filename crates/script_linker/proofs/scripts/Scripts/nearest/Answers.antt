use Rattle.std.proofs.Common.{rules, ◌≡◌, ◌<◌, Some, length, sym, ap, ◌∙◌, arith}
use Rattle.papy_base.specs.Case.{folded}
use Rattle.papy_base.specs.Lineage.{lineage, here}
use Rattle.papy_base.specs.Table.{number_in}
use Rattle.script_linker.specs.Lookup.{parents_of}
use Rattle.script_linker.proofs.LookupLemmas.{AreAmong-parents_of, Searches-end, Searches-first, length-parents_of, parents_read, rooted_now, turn_now}
use Rattle.script_linker.proofs.scripts.Scripts.nearest.Goals as goal

pub loop-here-init : goal.loop-here-init
loop-here-init g c =
    let parents = parents_of c.args.self.now in
    let read = parents_read c.self.invariant c.self.view_is c.deref.result.now c.deref.ensures.value in
    Searches-first parents g.own c.args.script _ (omega (arith, c.requires.0, length-parents_of c.args.self.now))
    (c.into_iter-here-iterator.ensures.into_iter_gives ∙ c.upward-here-items.ensures ∙ ap (λ ps. lineage ps (Some c.args.script)) read)

pub offset_bounds-tables-here : goal.offset_bounds-tables-here
offset_bounds-tables-here g c =
    let turn = turn_now c.self.invariant c.self.view_is g.own c.args.script c.loop-here.invariant c.in-Some.ensures.steps in
    let bound : c.in-Some.here < length c.args.tables.now = omega (arith, turn.within, c.requires.1.0, length-parents_of c.args.self.now) in
    search rules

pub bounds-tables-here : goal.bounds-tables-here
bounds-tables-here g c =
    let turn = turn_now c.self.invariant c.self.view_is g.own c.args.script c.loop-here.invariant c.in-Some.ensures.steps in
    omega (arith, turn.within, c.requires.1.0, length-parents_of c.args.self.now)

pub returns-in-Some-find : goal.returns-in-Some-find
returns-in-Some-find g c =
    let turn = turn_now c.self.invariant c.self.view_is g.own c.args.script c.loop-here.invariant c.in-Some.ensures.steps in
    let within : c.in-Some.here < length c.args.self.now = omega (arith, turn.within, length-parents_of c.args.self.now) in
    let read = ap (λ t. number_in t (folded c.args.name.now)) c.index-tables-here.is ∙ c.requires.1.1 c.in-Some.here c.index-tables-here.result within in
    turn.nearest _ (here _ _ (sym read ∙ sym c.find.ensures ∙ c.in-Some-find.is))

pub loop-here-preserved : goal.loop-here-preserved
loop-here-preserved g c =
    let turn = turn_now c.self.invariant c.self.view_is g.own c.args.script c.loop-here.invariant c.in-Some.ensures.steps in
    let within : c.in-Some.here < length c.args.self.now = omega (arith, turn.within, length-parents_of c.args.self.now) in
    let read = ap (λ t. number_in t (folded c.args.name.now)) c.index-tables-here.is ∙ c.requires.1.1 c.in-Some.here c.index-tables-here.result within in
    turn.searches (sym read ∙ sym c.find.ensures ∙ c.in_default.is)

pub returns : goal.returns
returns g c =
    let now = c.args.self.now in
    Searches-end (parents_of now) (AreAmong-parents_of now) (rooted_now c.self.invariant c.self.view_is) g.own c.args.script _ c.loop-here.invariant c.in-None.ensures.steps.0
