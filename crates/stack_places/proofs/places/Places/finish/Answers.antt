use Rattle.stack_places.proofs.InTurn.{away_after, finished}
use Rattle.stack_places.proofs.places.Places.finish.Goals as goal

pub end-requires-clause-away : goal.end-requires-clause-away
end-requires-clause-away c = away_after c.args.stack c.args.self.now.lists (c.let_go.new.self).lists c.let_go.ensures.moved c.requires.runs

pub returns : goal.returns
returns c =
    finished c.args.stack c.args.self.now c.let_go.new.self c.end.new.self c.let_go.ensures c.end.ensures
