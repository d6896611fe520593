use Rattle.std.proofs.Common.{◌≡◌, ◌<◌, ◌∷◌, ◌++◌, ◌∙◌, [], None, Some, length, map, refl, sym, ap, subst, arith}
use Rattle.std.specs.List.{All, slice_get}
use Rattle.std.proofs.lemmas.List.{map-append}
use Rattle.std.proofs.lemmas.List.Elements.{All-push}
use Rattle.papy_base.specs.Table.{Notes}
use Rattle.scene_binder.specs.declared.natives.Native.{Native}
use Rattle.scene_binder.specs.declared.natives.Natives.{Natives}
use Rattle.scene_binder.specs.Limits.{MayKeepLimits}
use Rattle.scene_binder.specs.Meant.{full_name}
use Rattle.scene_binder.specs.Members.{functions_in}
use Rattle.scene_binder.specs.NativeList.{HoldsNative, IsUnbound, native_place}
use Rattle.scene_binder.specs.Natives.{native_place_here}
use Rattle.scene_binder.proofs.NativeLemmas.{AreTabled-notes, native_place_here-is}
use Rattle.scene_binder.proofs.natives.Natives.add.Goals as goal

pub returns : goal.returns
returns c =
    let old = c.args.self.now in
    let natives = old.natives.items in
    let script = c.args.script.now in
    let function = c.args.function.now in
    let native : Native = record { script = c.args.number; place = c.in-Ok.at; function = c.args.function; binding = None } in
    let grown : c.push.new.self.items ≡ natives ++ native ∷ [] = c.in_ok-push.ensures.items in
    let same : c.in-Ok.at ≡ c.args.place = omega arith in
    let fits : c.args.place < 65536 = omega arith in
    let here : native_place native ∷ [] ≡ native_place_here c.args.number c.args.place function =
    ap (λ n. (c.args.number, n) ∷ []) same ∙ sym (native_place_here-is c.args.number c.args.place function c.if-not-function.false fits) in
    let new : Natives = record { natives = c.push.new.self; names = c.note.new.self; devices = old.devices } in
    let named = subst (λ name. Notes old.names c.note.new.self name c.len.result) c.in_ok-name.ensures c.in_ok-note.ensures in
    let count : c.len.result ≡ length natives = omega (arith, old.natives.ok.0, c.len.ensures) in
    let noted = subst (λ n. Notes old.names c.note.new.self (full_name script.name function.name) n) count named in
    record {
      each_once = ap (map native_place) grown ∙ (map-append native_place natives (native ∷ []) ∙ ap (λ places. map native_place natives ++ places) here);
      hold = λ scripts there h.
          let at = ap (λ o. slice_get (functions_in o) c.args.place) there.there ∙ there.own in
          let own : HoldsNative scripts old.devices native = record { there = subst (λ n. slice_get (functions_in (slice_get scripts c.args.number)) n ≡ Some function) (sym same) at; is_native = c.if-not-function.false; binding = tt } in
          subst (All (HoldsNative scripts old.devices)) (sym grown) (All-push (HoldsNative scripts old.devices) natives native h own);
      tabled = λ scripts there h. AreTabled-notes scripts old new native script there.there noted grown h;
      unbound = λ h. subst (All IsUnbound) (sym grown) (All-push IsUnbound natives native h refl);
      devices = refl;
      limits = λ h. subst (All MayKeepLimits) (sym grown) (All-push MayKeepLimits natives native h tt);
    }
