use Rattle.std.proofs.Common.{length, subst}
use Rattle.pex_verify.specs.Sets.{AreSoundOutlines, LoadedSet}
use Rattle.pex_verify.specs.Whole.{IsWholeSet}
use Rattle.pex_verify.proofs.Sets.{outlines_sound}
use Rattle.pex_verify.proofs.loaded.Loaded.outline.Goals as goal

pub returns-clause-sound : goal.returns-clause-sound
returns-clause-sound c =
    let whole = c.self.invariant.whole in
    subst (λ (v : LoadedSet). AreSoundOutlines (length v.scripts) v.outline) c.self.view_is
    (outlines_sound (length whole.scripts) (length c.self.inside.scripts.items) c.self.inside.outline.scripts.items whole.scripts whole.count whole.count whole.judged.sound.scripts)

pub returns-clause-whole : goal.returns-clause-whole
returns-clause-whole c = subst (λ (v : LoadedSet). IsWholeSet v) c.self.view_is c.self.invariant.whole
