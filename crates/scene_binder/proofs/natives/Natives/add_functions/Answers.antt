use Rattle.std.proofs.Common.{◌≡◌, ◌<◌, ◌∙◌, length, get_or, map, refl, ap, arith}
use Rattle.std.proofs.lemmas.Option.{slice_get_read}
use Rattle.scene_binder.specs.NativeList.{native_place}
use Rattle.scene_binder.proofs.NativeLemmas.{hold-step, places-step}
use Rattle.scene_binder.proofs.natives.Natives.add_functions.Goals as goal

pub loop-place-preserved : goal.loop-place-preserved
loop-place-preserved c =
    let functions = c.args.script.now.functions.items in
    let function = c.index-functions-place.result in
    let place = c.loop-place.place in
    let before = c.loop-place.invariant in
    let added = c.in_ok-add.ensures in
    let lt : place < length functions = omega (arith, ap length c.as_slice-functions.ensures.value) in
    let is : function ≡ get_or functions place function = cc in
    let at = slice_get_read functions (length functions) place function refl lt is in
    record {
      each_once = places-step (map native_place c.loop-place.self.natives.items) (map native_place c.add.new.self.natives.items) c.args.number place functions function lt is added.each_once ∙ before.each_once;
      hold = λ scripts there h.
          hold-step scripts c.args.self.now c.loop-place.self c.add.new.self before.devices (added.hold scripts (record { there = there; own = at })) (before.hold scripts there h);
      tabled = λ scripts there h. added.tabled scripts (record { there = there; own = at }) (before.tabled scripts there h);
      unbound = λ h. added.unbound (before.unbound h);
      devices = added.devices ∙ before.devices;
      limits = λ h. added.limits (before.limits h);
    }
