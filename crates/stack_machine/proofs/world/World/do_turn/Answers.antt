use Rattle.std.proofs.Common.{◌≡◌, ◌<◌, ◌≤◌, ◌∙◌, ℕ, Option, Some, List, sym, subst, arith, vec_len}
use Rattle.core_tree.specs.Scenes.{order_shape}
use Rattle.stack_places.specs.Places.{IsReady, PlaceTable, SameStandings}
use Rattle.stack_places.proofs.Stands.{chosen_is_ready, ready_has_started}
use Rattle.stack_machine.specs.Standing.{Stands}
use Rattle.stack_machine.proofs.Standings.{may_take, stands_ran}
use Rattle.std.proofs.lemmas.Result.{err_from_is_err_and}
use Rattle.stack_machine.proofs.Noting.{some_more, some_noted, turn_idles, turn_runs}
use Rattle.stack_machine.proofs.world.World.do_turn.Goals as goal

pub take_turn-requires : goal.take_turn-requires
take_turn-requires g c =
    let n = vec_len c.begin.new.self.stacks in
    let p : PlaceTable = c.begin.new.self.places in
    let last = c.begin.new.self.last in
    let k = c.in-Some.stack in
    let s : Stands n last p = c.in_ok-begin.ensures.begun.stands in
    let ready : IsReady p.lists k = chosen_is_ready (order_shape c.args.setting.now.scene.order) c.args.number n last p.lists k (λ w a b d. sym c.in-Some.is ∙ c.choose-chosen.ensures w a b (d ∙ sym c.len-started.ensures)) in
    may_take _ n last p s (ready_has_started n k p.lists s.none_else ready) ready c.requires.room

pub returns-clause-ran : goal.returns-clause-ran
returns-clause-ran g c =
    let n = vec_len c.begin.new.self.stacks in
    let p : PlaceTable = c.begin.new.self.places in
    let last = c.begin.new.self.last in
    let k = c.in-Some.stack in
    let s : Stands n last p = c.in_ok-begin.ensures.begun.stands in
    let ready : IsReady p.lists k = chosen_is_ready (order_shape c.args.setting.now.scene.order) c.args.number n last p.lists k (λ w a b d. sym c.in-Some.is ∙ c.choose-chosen.ensures w a b (d ∙ sym c.len-started.ensures)) in
    let started : k < n = ready_has_started n k p.lists s.none_else ready in
    omega (arith, started, c.take_turn.ensures.stacks)

pub returns-clause-begun : goal.returns-clause-begun
returns-clause-begun g c =
    let n = vec_len c.begin.new.self.stacks in
    let p : PlaceTable = c.begin.new.self.places in
    let q : PlaceTable = c.take_turn.new.self.places in
    let last = c.begin.new.self.last in
    let k = c.in-Some.stack in
    let b = c.in_ok-begin.ensures.begun in
    let s : Stands n last p = b.stands in
    let ready : IsReady p.lists k = chosen_is_ready (order_shape c.args.setting.now.scene.order) c.args.number n last p.lists k (λ w a b d. sym c.in-Some.is ∙ c.choose-chosen.ensures w a b (d ∙ sym c.len-started.ensures)) in
    let started : k < n = ready_has_started n k p.lists s.none_else ready in
    let same : SameStandings p q = c.in_ok-take_turn.ensures.places in
    record {
      calls_planned = b.calls_planned;
      few = b.few;
      room = same.room ∙ b.room;
      started = c.take_turn.ensures.stacks ∙ b.started;
      stands = subst (λ (m : ℕ). Stands m (Some k) q) (sym c.take_turn.ensures.stacks) (stands_ran n k last p q s same started);
    }

pub returns-in_default-clause-noted : goal.returns-in_default-clause-noted
returns-in_default-clause-noted g c =
    turn_idles (vec_len c.args.self.now.stacks) _ _ _ _ c.in_ok-begin.ensures.noted c.in_ok-note.ensures.added

pub returns-in_err-take_turn-clause-noted : goal.returns-in_err-take_turn-clause-noted
returns-in_err-take_turn-clause-noted g c =
    let p = err_from_is_err_and c.from_residual-in_err-take_turn.result c.from_residual-in_err-take_turn.ensures.1 in
    rw p.1 (some_more _ _ _ (some_noted _ _ c.in_ok-begin.ensures.noted) c.in_err-take_turn.ensures.noted)

pub returns-clause-noted : goal.returns-clause-noted
returns-clause-noted g c =
    turn_runs c.in-Some.stack (vec_len c.args.self.now.stacks) _ _ _ _ _ c.take_turn.ensures.stacks c.in_ok-begin.ensures.noted c.in_ok-take_turn.ensures.noted
