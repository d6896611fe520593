use Rattle.stack_machine.proofs.Noting.{act_noted, on_either, some_kept}
use Rattle.stack_machine.proofs.world.World.note_act.Goals as goal

pub returns : goal.returns
returns g c =
    let both = c.in-Some-moves_between.ensures in
    let first = c.in_ok-note.ensures.added in
    on_either c.note-2.result _ _ c.note-2.ensures.added c.note-2.ensures.kept
    (λ second. act_noted c.args.stack _ _ _ _ _ both.0 both.1 first second)
    (λ kept. some_kept _ _ _ _ first kept)
