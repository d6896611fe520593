use Rattle.stack_places.specs.Places.{IsAway}
use Rattle.stack_places.proofs.Stands.{ends_then}
use Rattle.stack_machine.proofs.Standings.{at_most_then, away_by_zero}
use Rattle.stack_machine.proofs.restore.end.Goals as goal

pub end-requires-clause-away : goal.end-requires-clause-away
end-requires-clause-away c = away_by_zero _ _ c.is_away.ensures c.if-not-is_away.false

pub returns-clause-stand : goal.returns-clause-stand
returns-clause-stand c =
    let away : IsAway c.args.places.now.lists c.args.stack = away_by_zero _ _ c.is_away.ensures c.if-not-is_away.false in
    at_most_then c.args.started c.args.stack c.args.places.now c.end.new.self c.requires c.if-stack-started.false (ends_then c.args.stack c.args.places.now c.end.new.self away c.end.ensures)
