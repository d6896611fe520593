use Rattle.latent_natives.proofs.sleepers.Sleepers.+with_room.Given as goal

abbrev pub decreases-with_room : goal.decreases-with_room
decreases-with_room l = l.stacks
