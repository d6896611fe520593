use Rattle.std.proofs.Common.{◌+◌, refl, arith}
use Rattle.stack_places.proofs.InTurn.{away_after, rests_asleep, rests_awake}
use Rattle.stack_places.proofs.places.Places.rest.Goals as goal

pub go_to_wait-requires-clause-away : goal.go_to_wait-requires-clause-away
go_to_wait-requires-clause-away c = away_after c.args.stack c.args.self.now.lists (c.let_go.new.self).lists c.let_go.ensures.moved c.requires.runs

pub sleep-requires-clause-away : goal.sleep-requires-clause-away
sleep-requires-clause-away c = away_after c.args.stack c.args.self.now.lists (c.let_go.new.self).lists c.let_go.ensures.moved c.requires.runs

pub returns-then-latency-eq0 : goal.returns-then-latency-eq0
returns-then-latency-eq0 c =
    rests_awake c.args.turn c.args.stack c.args.latency c.args.instance c.args.self.now c.let_go.new.self c.go_to_wait.new.self (omega (arith, c.if-latency-eq0.true)) c.let_go.ensures c.go_to_wait.ensures

pub returns-else-latency-eq0 : goal.returns-else-latency-eq0
returns-else-latency-eq0 c =
    rests_asleep c.args.turn c.args.stack c.args.latency (c.args.turn + 1 + c.args.latency) c.args.instance c.args.self.now c.let_go.new.self c.sleep.new.self (omega (arith, c.if-latency-eq0.false)) refl c.let_go.ensures c.sleep.ensures
