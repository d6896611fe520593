use Rattle.std.proofs.Common.{sym, ◌∙◌}
use Rattle.stack_places.proofs.InTurn.{away_after, goes_over}
use Rattle.stack_places.proofs.places.Places.go_over.Goals as goal

pub go_to_wait-requires-clause-away : goal.go_to_wait-requires-clause-away
go_to_wait-requires-clause-away c = away_after c.args.stack c.args.self.now.lists (c.let_go.new.self).lists c.let_go.ensures.moved c.requires.runs

pub returns : goal.returns
returns c =
    goes_over c.args.stack c.args.from c.args.to c.args.self.now c.let_go.new.self c.go_to_wait.new.self (sym c.is_same.ensures ∙ c.if-is_same.false) c.let_go.ensures c.go_to_wait.ensures
