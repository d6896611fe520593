use Rattle.std.proofs.Common.{arith, ◌≡◌, ◌+◌}
use Rattle.std.proofs.lemmas.Grind.{common_steps}
use Rattle.run_commands.proofs.NotedRun.{noted_one}
use Rattle.run_commands.proofs.turns.note_turn.Goals as goal

pub returns-clause-noted : goal.returns-clause-noted
returns-clause-noted g c =
    let one : c.turn_noted.new.self.turns ≡ c.args.machine.now.turns + 1 = grind (arith, common_steps) in
    let lines = rw c.turns_done-turn.ensures at c.in_ok-lines.ensures in
    let appended = rw c.deref.ensures.value at c.in_ok-extend_from_slice.ensures.items in
    noted_one c.args.machine.now.turns _ c.turn_noted.new.moves.items c.args.journal.now.items _ c.in_ok-lines.lines.items one lines appended
