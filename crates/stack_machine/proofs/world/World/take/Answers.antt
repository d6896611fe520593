use Rattle.std.proofs.Common.{vec_len}
use Rattle.stack_machine.proofs.Standings.{took_runs, took_same}
use Rattle.stack_machine.proofs.world.World.take.Goals as goal

pub returns-clause-places : goal.returns-clause-places
returns-clause-places c =
    took_same c.args.turn.now (vec_len c.args.self.now.stacks) c.args.self.now.places c.take.new.self c.requires c.take.ensures

pub returns-clause-runs : goal.returns-clause-runs
returns-clause-runs c =
    took_runs c.args.turn.now (vec_len c.args.self.now.stacks) c.args.self.now.places c.take.new.self c.requires c.take.ensures
