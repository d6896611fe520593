use Rattle.scene_laws.proofs.Binding.{calls_fit, instances_fit, natives_fit}
use Rattle.scene_laws.proofs.scene_fits.Goals as goal

pub returns : goal.returns
returns c = λ outlines scripts scene fits offers bound.
    record {
      natives = natives_fit outlines fits scene.devices scene.natives.items bound.natives;
      initial = fits.initial;
      instances = instances_fit outlines fits scene bound;
      calls = calls_fit outlines fits scene bound scripts offers;
    }
