use Rattle.stack_places.proofs.Stands.{same_rested}
use Rattle.stack_machine.proofs.acts.rest.Goals as goal

pub returns : goal.returns
returns c =
    same_rested c.args.turn.now.number c.args.turn.now.stack c.min-latency.result c.if_there-instance.result c.args.places.now c.rest.new.self c.requires.runs c.rest.ensures
