use Rattle.std.proofs.Common.{refl, vec_len, ◌≡◌, ◌∙◌, ℕ, ◌+◌, ◌<◌, ◌≤◌, List, arith, get_or, length, rules, subst}
use Rattle.std.specs.Prelude.{None}
use Rattle.std.proofs.lemmas.Result.{err_from_is_err_and}
use Rattle.stack_machine.specs.declared.plan.PlannedCall.{PlannedCall}
use Rattle.stack_machine.specs.Moves.{AreStarts}
use Rattle.stack_machine.proofs.Noting.{noted_none, one_started, some_kept}
use Rattle.stack_machine.proofs.Planning.{few_at_first, left_at, left_past, left_within, next_is_later, none_is_left, one_starts}
use Rattle.stack_machine.proofs.world.World.start_stacks.Goals as goal

pub loop-planned-init : goal.loop-planned-init
loop-planned-init g c = record {
  stands = c.requires.stands;
  room = refl;
  started = omega arith;
  few = few_at_first _ _ _ c.args.turn c.requires;
  noted = noted_none (AreStarts (vec_len c.args.self.now.stacks) (vec_len c.args.self.now.stacks)) _ (omega arith);
}

pub loop-planned-preserved : goal.loop-planned-preserved
loop-planned-preserved g c =
    let planned : List PlannedCall = c.args.plan.now.calls.items in
    let place : ℕ = c.len-first.result + c.loop-planned.planned-index in
    let none : PlannedCall = record { turn = 0; number = 0; name = None } in
    let within : place < length planned = left_within _ planned c.len-first.result c.loop-planned.planned-index c.as_slice-calls.ensures.value c.loop-planned-test.true in
    let at : (get_or planned place none).turn ≤ c.args.turn = subst (λ (call : PlannedCall). call.turn ≤ c.args.turn) (left_at _ planned c.len-first.result c.loop-planned.planned-index none c.as_slice-calls.ensures.value c.loop-planned-test.true) c.if-planned-turn.false in
    let more = one_starts planned c.args.setting.now.scene.calls.items c.args.turn place none c.requires.calls_planned within at in
    record {
      stands = c.in_ok-moved.ensures.stands;
      room = c.start.ensures.room ∙ c.loop-planned.invariant.room;
      started = omega (arith, c.in_ok-moved.ensures.by_one, c.loop-planned.invariant.started);
      few = omega (arith, c.in_ok-moved.ensures.by_one, c.loop-planned.invariant.started, c.len-first.ensures, more);
      noted = one_started (vec_len c.args.self.now.stacks) (vec_len c.loop-planned.self.stacks) (vec_len c.start.new.self.stacks) c.in_ok-moved.moved _ _ _ c.in_ok-moved.ensures.by_one c.loop-planned.invariant.noted c.in_ok-moved.ensures.moved c.in_ok-note.ensures.added;
    }

pub returns-after-loop-planned-clause-begun : goal.returns-after-loop-planned-clause-begun
returns-after-loop-planned-clause-begun g c =
    let planned : List PlannedCall = c.args.plan.now.calls.items in
    let i = c.loop-planned.invariant in
    let r = c.requires in
    let within = r.stands.within in
    let first : c.len-first.result ≤ length planned = omega (arith, c.len-first.ensures, within, r.room, r.calls_planned.many) in
    let past : length planned ≤ c.len-first.result + c.loop-planned.planned-index = left_past _ planned c.len-first.result c.loop-planned.planned-index c.as_slice-calls.ensures.value first c.loop-planned-test.false in
    record {
      calls_planned = r.calls_planned;
      few = r.few;
      room = i.room ∙ r.room;
      started = none_is_left planned c.args.setting.now.scene.calls.items c.args.turn (vec_len c.loop-planned.self.stacks) r.calls_planned (omega (arith, past, i.started, c.len-first.ensures)) i.few;
      stands = i.stands;
    }

pub returns-then-planned-turn-clause-begun : goal.returns-then-planned-turn-clause-begun
returns-then-planned-turn-clause-begun g c =
    let planned : List PlannedCall = c.args.plan.now.calls.items in
    let place : ℕ = c.len-first.result + c.loop-planned.planned-index in
    let none : PlannedCall = record { turn = 0; number = 0; name = None } in
    let i = c.loop-planned.invariant in
    let r = c.requires in
    let here : vec_len c.loop-planned.self.stacks ≡ place = omega (arith, i.started, c.len-first.ensures) in
    let within : place < length planned = left_within _ planned c.len-first.result c.loop-planned.planned-index c.as_slice-calls.ensures.value c.loop-planned-test.true in
    let at : c.args.turn < (get_or planned place none).turn = subst (λ (call : PlannedCall). c.args.turn < call.turn) (left_at _ planned c.len-first.result c.loop-planned.planned-index none c.as_slice-calls.ensures.value c.loop-planned-test.true) c.if-planned-turn.true in
    record {
      calls_planned = r.calls_planned;
      few = r.few;
      room = i.room ∙ r.room;
      started = here ∙ next_is_later planned c.args.setting.now.scene.calls.items c.args.turn place none r.calls_planned within at (omega (arith, here, i.few));
      stands = i.stands;
    }

pub returns-in_err-note-clause-noted : goal.returns-in_err-note-clause-noted
returns-in_err-note-clause-noted g c =
    let p = err_from_is_err_and c.from_residual-in_err-note.result c.from_residual-in_err-note.ensures.1 in
    rw p.1 (some_kept _ _ _ _ c.loop-planned.invariant.noted.added c.in_err-note.ensures.kept)
