use Rattle.pex_verify.proofs.loaded.Loaded.files.Goals as goal

pub returns-clause-sound : goal.returns-clause-sound
returns-clause-sound c = c.self.invariant.whole.judged.sound.files
