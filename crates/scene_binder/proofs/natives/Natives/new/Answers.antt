use Rattle.std.proofs.Common.{◌≡◌, ◌<◌, ◌∙◌, length, get_or, map, refl, sym, ap, subst, arith}
use Rattle.std.specs.List.{All}
use Rattle.std.proofs.lemmas.Option.{slice_get_read}
use Rattle.scene_binder.specs.NativeList.{HoldsNative, native_place}
use Rattle.scene_binder.proofs.NativeLemmas.{scripts-step}
use Rattle.scene_binder.proofs.natives.Natives.new.Goals as goal

pub loop-number-preserved : goal.loop-number-preserved
loop-number-preserved c =
    let scripts = c.args.outline.now.scripts.items in
    let script = c.script-item.result in
    let number = c.loop-number.number in
    let found = c.loop-number.found in
    let before = c.loop-number.invariant in
    let added = c.in_ok-add_script.ensures in
    let lt : number < length scripts = omega (arith, ap length c.deref-script-items.ensures.value) in
    let is : script ≡ get_or scripts number script = cc in
    let there = slice_get_read scripts (length scripts) number script refl lt is in
    let old = subst (λ d. All (HoldsNative scripts d) found.natives.items) (sym before.devices) before.hold in
    record {
      each_once = scripts-step (map native_place found.natives.items) (map native_place c.add_script.new.self.natives.items) number scripts script lt is added.each_once ∙ before.each_once;
      hold = subst (λ d. All (HoldsNative scripts d) c.add_script.new.self.natives.items) before.devices (added.hold scripts there old);
      tabled = added.tabled scripts there before.tabled;
      unbound = added.unbound before.unbound;
      devices = added.devices ∙ before.devices;
      limits = added.limits before.limits;
    }
