use Rattle.std.proofs.Common.{◌≡◌, ◌<◌, ◌≤◌, ◌∙◌, length, get_or, map, IfSome, refl, sym, ap, subst, arith}
use Rattle.std.proofs.lemmas.List.{take_all}
use Rattle.std.proofs.lemmas.List.Elements.{All-get_or, All-push}
use Rattle.core_tree.specs.declared.scene.BoundNative.{BoundNative}
use Rattle.scene_binder.specs.Bound.{IsBoundNative, place_of}
use Rattle.scene_reader.specs.Limits.{BindingKeeps}
use Rattle.scene_binder.specs.Limits.{MayKeepLimits, NativeKeepsLimits}
use Rattle.scene_binder.specs.Meant.{IsNativeMeant}
use Rattle.scene_binder.specs.NativeList.{HasMeaning, HoldsNative, native_place}
use Rattle.scene_binder.specs.NativeState.{left_breaks}
use Rattle.scene_binder.proofs.JudgeLemmas.{each_broken, each_done, each_passed}
use Rattle.scene_binder.proofs.ListLemmas.{map-push}
use Rattle.scene_binder.proofs.NativeLemmas.{IsBoundNative-from, IsNativeMeant-from}
use Rattle.scene_binder.proofs.StateLemmas.{bound_breaks, unbound_broken}
use Rattle.scene_binder.proofs.natives.Natives.finish.Goals as goal

pub loop-native-preserved : goal.loop-native-preserved
loop-native-preserved c =
    let natives = c.args.self.now.natives.items in
    let devices = c.args.self.now.devices in
    let native = c.native-item.result in
    let place = c.loop-native.native-index in
    let bound : BoundNative = record { script = native.script; function = native.place; binding = c.in-Some.binding } in
    let lt : place < length natives = omega (arith, ap length c.deref-native-items.ensures.value) in
    let is : native ≡ get_or natives place native = cc in
    rw c.in_ok-push.ensures.items (record {
      each_once = map-push place_of native_place c.loop-native.bound.items natives place bound native c.loop-native.invariant.each_once lt is refl;
      allowed = λ scripts h.
          let own : HoldsNative scripts devices native = subst (HoldsNative scripts devices) (sym is) (All-get_or (HoldsNative scripts devices) natives place native lt h.hold) in
          All-push (IsBoundNative scripts devices) c.loop-native.bound.items bound (c.loop-native.invariant.allowed scripts h) (IsBoundNative-from scripts devices native c.in-Some.binding c.in-Some.is own);
      meant = λ scripts entries h says.
          let own : HoldsNative scripts devices native = subst (HoldsNative scripts devices) (sym is) (All-get_or (HoldsNative scripts devices) natives place native lt h.hold) in
          let meaning = subst (HasMeaning scripts entries) (sym is) (All-get_or (HasMeaning scripts entries) natives place native lt says.bound) in
          All-push (IsNativeMeant scripts entries) c.loop-native.bound.items bound (c.loop-native.invariant.meant scripts entries h says) (IsNativeMeant-from scripts devices entries native c.in-Some.binding c.in-Some.is own meaning);
      limits = λ h.
          let own = subst MayKeepLimits (sym is) (All-get_or MayKeepLimits natives place native lt h) in
          All-push NativeKeepsLimits c.loop-native.bound.items bound (c.loop-native.invariant.limits h) (subst (λ o. IfSome o BindingKeeps) c.in-Some.is own);
      judged = each_passed left_breaks natives place native lt is c.loop-native.invariant.judged (bound_breaks native c.in-Some.binding c.in-Some.is);
    })

pub returns-clause-natives : goal.returns-clause-natives
returns-clause-natives c =
    let natives = c.args.self.now.natives.items in
    let past : length natives ≤ c.loop-native.native-index = omega (arith, ap length c.deref-native-items.ensures.value) in
    λ scripts h. record {
      each_once = c.loop-native.invariant.each_once ∙ (ap (map native_place) (take_all c.loop-native.native-index natives past) ∙ h.each_once);
      allowed = c.loop-native.invariant.allowed scripts h;
    }

pub returns-in_default-clause-judged : goal.returns-in_default-clause-judged
returns-in_default-clause-judged c =
    let natives = c.args.self.now.natives.items in
    let native = c.native-item.result in
    let place = c.loop-native.native-index in
    let lt : place < length natives = omega (arith, ap length c.deref-native-items.ensures.value) in
    let is : native ≡ get_or natives place native = cc in
    each_broken left_breaks natives place native c.of.result lt is c.loop-native.invariant.judged (unbound_broken native c.of.result c.in_default.not-Some c.of.ensures)

pub returns-clause-judged : goal.returns-clause-judged
returns-clause-judged c =
    let natives = c.args.self.now.natives.items in
    let past : length natives ≤ c.loop-native.native-index = omega (arith, ap length c.deref-native-items.ensures.value) in
    each_done left_breaks natives c.loop-native.native-index past c.loop-native.invariant.judged
