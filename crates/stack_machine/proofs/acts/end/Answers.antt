use Rattle.stack_places.proofs.Stands.{same_finished}
use Rattle.stack_machine.proofs.acts.end.Goals as goal

pub returns : goal.returns
returns c =
    same_finished c.args.turn.now.stack c.args.places.now c.finish.new.self c.requires.runs c.finish.ensures
