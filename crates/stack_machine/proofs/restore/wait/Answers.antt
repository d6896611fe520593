use Rattle.stack_places.specs.Places.{IsAway}
use Rattle.stack_places.proofs.Stands.{waits_then}
use Rattle.stack_machine.proofs.Standings.{at_most_then, away_by_zero}
use Rattle.stack_machine.proofs.restore.wait.Goals as goal

pub go_to_wait-requires-clause-away : goal.go_to_wait-requires-clause-away
go_to_wait-requires-clause-away c = away_by_zero _ _ c.is_away.ensures c.if-not-is_away.false

pub returns-clause-stand : goal.returns-clause-stand
returns-clause-stand c =
    let away : IsAway c.args.places.now.lists c.args.stack = away_by_zero _ _ c.is_away.ensures c.if-not-is_away.false in
    at_most_then c.args.started c.args.stack c.args.places.now c.go_to_wait.new.self c.requires c.if-stack-started.false (waits_then c.args.stack c.if_there-instance.result c.args.places.now c.go_to_wait.new.self away c.go_to_wait.ensures)
