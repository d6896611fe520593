use Rattle.stack_places.proofs.Stands.{waits_then}
use Rattle.stack_places.proofs.Woken.{same_asleep}
use Rattle.stack_machine.proofs.world.World.go_to_wait.Goals as goal

pub returns-clause-places : goal.returns-clause-places
returns-clause-places c =
    waits_then c.args.stack c.if_there-instance.result c.args.self.now.places c.go_to_wait.new.self c.requires.away c.go_to_wait.ensures

pub returns-clause-asleep : goal.returns-clause-asleep
returns-clause-asleep c =
    same_asleep 0 c.args.stack c.if_there-instance.result c.args.self.now.places.lists (c.go_to_wait.new.self).lists c.go_to_wait.ensures.moved
