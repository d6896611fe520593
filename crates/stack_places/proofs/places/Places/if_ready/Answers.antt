use Rattle.std.proofs.Common.{arith}
use Rattle.stack_places.proofs.Chosen.{unstarted_left}
use Rattle.stack_places.proofs.places.Places.if_ready.Goals as goal

pub returns-then-stack-started : goal.returns-then-stack-started
returns-then-stack-started c = λ world.
    unstarted_left c.args.self.now.lists c.args.stack world (c.requires.away c.args.stack (omega (arith, c.if-stack-started.true)))
