use Rattle.stack_places.proofs.Stands.{same_moved}
use Rattle.stack_machine.proofs.acts.go_over.Goals as goal

pub returns : goal.returns
returns c =
    same_moved c.args.turn.now.stack c.args.from c.if_there-to.result c.args.places.now c.go_over.new.self c.requires.runs c.go_over.ensures
