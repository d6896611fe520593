use Rattle.std.proofs.Common.{rules, w32, ◌∙◌}
use Rattle.std.proofs.lemmas.Int.{to_z-of_z}
use Rattle.core_tree.specs.Device.{device_step}
use Rattle.latent_natives.proofs.DeviceLists.{map-written, SameKinds-written, reply-mapped}
use Rattle.latent_natives.proofs.device.call_device.Goals as goal

pub returns-clause-reply : goal.returns-clause-reply
returns-clause-reply g c =
    to_z-of_z w32 c.call_one.result (search rules) ∙ reply-mapped _ c.args.devices.now.items c.args.place _ (λ d. (device_step d c.args.args.now).0) _ (search rules) c.index_mut.ensures.value c.call_one.ensures.reply

pub returns-clause-after : goal.returns-clause-after
returns-clause-after g c =
    map-written _ _ _ _ _ (λ d. (device_step d c.args.args.now).1) (search rules) c.index_mut.ensures.value c.call_one.ensures.after

pub returns-clause-kinds : goal.returns-clause-kinds
returns-clause-kinds g c =
    SameKinds-written _ _ _ _ _ (search rules) c.index_mut.ensures.value c.call_one.ensures.kind
