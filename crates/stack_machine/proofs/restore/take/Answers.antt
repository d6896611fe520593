use Rattle.std.proofs.Common.{sym, ◌∙◌}
use Rattle.stack_places.proofs.Stands.{same_taken}
use Rattle.stack_machine.proofs.Standings.{at_most_same}
use Rattle.stack_machine.proofs.restore.take.Goals as goal

pub take-requires-clause-ready : goal.take-requires-clause-ready
take-requires-clause-ready c = λ world. sym (c.is_ready.ensures world) ∙ c.if-not-is_ready.false

pub returns-clause-stand : goal.returns-clause-stand
returns-clause-stand c =
    at_most_same c.args.started c.args.places.now c.take.new.self c.requires (same_taken c.args.stack c.args.places.now c.take.new.self (c.requires.most c.args.stack) c.take.ensures)
