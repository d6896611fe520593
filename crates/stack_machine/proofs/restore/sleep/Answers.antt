use Rattle.stack_places.specs.Places.{IsAway}
use Rattle.stack_places.proofs.Stands.{sleeps_then}
use Rattle.stack_machine.proofs.Standings.{at_most_then, away_by_zero}
use Rattle.stack_machine.proofs.restore.sleep.Goals as goal

pub sleep-requires-clause-away : goal.sleep-requires-clause-away
sleep-requires-clause-away c = away_by_zero _ _ c.is_away.ensures c.if-not-is_away.false

pub returns-clause-stand : goal.returns-clause-stand
returns-clause-stand c =
    let away : IsAway c.args.places.now.lists c.args.stack = away_by_zero _ _ c.is_away.ensures c.if-not-is_away.false in
    at_most_then c.args.started c.args.stack c.args.places.now c.sleep.new.self c.requires c.if-stack-started.false (sleeps_then c.args.stack c.args.until c.args.places.now c.sleep.new.self away c.sleep.ensures)
