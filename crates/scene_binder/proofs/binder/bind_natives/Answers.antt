use Rattle.std.proofs.Common.{◌≡◌, ◌<◌, ◌≤◌, ◌∙◌, [], nat_lt, length, true, refl, ap, sym, subst, arith}
use Rattle.std.specs.List.{All, flat_map}
use Rattle.std.proofs.lemmas.Bool.{le-ltb, lt-ltb}
use Rattle.std.proofs.lemmas.Result.{IfOk-weaker}
use Rattle.scene_reader.specs.Limits.{NativeKeeps}
use Rattle.scene_reader.specs.declared.fault.SceneRule.TheVariants.{NoDevice}
use Rattle.scene_binder.specs.Faults.{IsFirst, IsFirstBroken, IsJudgedBy, broken, default_breaks, in_turn, native_breaks}
use Rattle.scene_binder.specs.Limits.{NativeKeepsLimits, NativesKeepLimits}
use Rattle.scene_binder.specs.Meant.{default_entries}
use Rattle.scene_binder.specs.NativeList.{AreBoundBy}
use Rattle.scene_binder.specs.NativeState.{AreSettled}
use Rattle.scene_binder.proofs.JudgeLemmas.{first_here, first_later, judged_err, judged_later}
use Rattle.scene_binder.proofs.NativeLemmas.{AreBoundBy-none, AreMeant-from}
use Rattle.scene_binder.proofs.StateLemmas.{AreSettled-none, unbound_same}
use Rattle.scene_binder.proofs.binder.bind_natives.Goals as goal

pub returns-clause-limits : goal.returns-clause-limits
returns-clause-limits c =
    let start = c.in_ok-natives.ensures.limits in
    let end = c.bind_defaults.new.self in
    let entries = c.args.tree.now.natives.items in
    IfOk-weaker c.finish.result (λ bound. NativesKeepLimits end → All NativeKeepsLimits bound.items) (λ bound. All NativeKeeps entries → All NativeKeepsLimits bound.items)
    (λ bound keeps h. keeps (c.bind_defaults.ensures.limits (c.bind_all.ensures.limits (subst (All NativeKeeps) (sym c.deref.ensures.value) h) start)))
    c.finish.ensures.limits

pub returns-clause-meant : goal.returns-clause-meant
returns-clause-meant c =
    let scripts = c.args.outline.now.scripts.items in
    let entries = c.args.tree.now.natives.items in
    let start = c.in_ok-natives.ensures in
    let bound = c.in_ok-bind_all.ensures in
    let natives = bound.natives scripts start.natives in
    let given = subst (λ xs. AreBoundBy scripts xs c.bind_all.new.self) c.deref.ensures.value (bound.bound scripts start.natives (AreBoundBy-none scripts c.in_ok-natives.natives start.unbound)) in
    let meant = c.bind_defaults.ensures.meant scripts entries natives (AreMeant-from scripts entries c.bind_all.new.self given) in
    c.finish.ensures.meant scripts entries (c.bind_defaults.ensures.natives scripts natives) meant

pub returns-in_err-bind_all-clause-judged : goal.returns-in_err-bind_all-clause-judged
returns-in_err-bind_all-clause-judged c =
    let scripts = c.args.outline.now.scripts.items in
    let start = c.in_ok-natives.ensures in
    let fault = c.in_err-bind_all.field-0.0 in
    let told = c.in_err-bind_all.ensures.judged scripts start.natives (AreSettled-none scripts c.in_ok-natives.natives start.unbound) in
    let own = subst (λ xs. IsFirstBroken fault (in_turn (native_breaks scripts c.args.devices) [] xs)) c.deref.ensures.value (subst (λ d. IsFirstBroken fault (in_turn (native_breaks scripts d) [] c.deref.result.now)) start.devices told) in
    judged_err c.from_residual-in_err-bind_all.result _ fault c.from_residual-in_err-bind_all.ensures.1 (first_here _ _ fault own)

pub returns-in_err-bind_defaults-clause-judged : goal.returns-in_err-bind_defaults-clause-judged
returns-in_err-bind_defaults-clause-judged c =
    let scripts = c.args.outline.now.scripts.items in
    let entries = c.args.tree.now.natives.items in
    let start = c.in_ok-natives.ensures in
    let given = c.in_ok-bind_all.ensures in
    let fault = c.in_err-bind_defaults.field-0.0 in
    let state = AreSettled-none scripts c.in_ok-natives.natives start.unbound in
    let settled = subst (λ xs. AreSettled scripts xs [] c.bind_all.new.self) c.deref.ensures.value (given.settled scripts start.natives state) in
    let none = subst (λ xs. in_turn (native_breaks scripts c.args.devices) [] xs ≡ []) c.deref.ensures.value (subst (λ d. in_turn (native_breaks scripts d) [] c.deref.result.now ≡ []) start.devices (given.judged scripts start.natives state)) in
    let told = subst (λ d. IsFirstBroken fault (flat_map (default_breaks scripts d entries) default_entries)) (given.devices ∙ start.devices) (c.in_err-bind_defaults.ensures.judged scripts entries (given.natives scripts start.natives) settled) in
    judged_err c.from_residual-in_err-bind_defaults.result _ fault c.from_residual-in_err-bind_defaults.ensures.1 (first_later _ _ fault none (first_here _ _ fault told))

pub returns-then-len-from-clause-judged : goal.returns-then-len-from-clause-judged
returns-then-len-from-clause-judged c =
    let scripts = c.args.outline.now.scripts.items in
    let entries = c.args.tree.now.natives.items in
    let tapes = c.args.tree.now.tapes.items in
    let start = c.in_ok-natives.ensures in
    let given = c.in_ok-bind_all.ensures in
    let state = AreSettled-none scripts c.in_ok-natives.natives start.unbound in
    let settled = subst (λ xs. AreSettled scripts xs [] c.bind_all.new.self) c.deref.ensures.value (given.settled scripts start.natives state) in
    let none = subst (λ xs. in_turn (native_breaks scripts c.args.devices) [] xs ≡ []) c.deref.ensures.value (subst (λ d. in_turn (native_breaks scripts d) [] c.deref.result.now ≡ []) start.devices (given.judged scripts start.natives state)) in
    let free = subst (λ d. flat_map (default_breaks scripts d entries) default_entries ≡ []) (given.devices ∙ start.devices) (c.in_ok-bind_defaults.ensures.judged scripts entries (given.natives scripts start.natives) settled) in
    let many : c.args.devices < length tapes = omega (arith, c.len.ensures, c.from.ensures, c.args.tree.now.tapes.ok.0) in
    let over : nat_lt c.args.devices (length tapes) ≡ true = lt-ltb c.args.devices (length tapes) many in
    let told = subst (λ f. IsFirstBroken f (broken NoDevice (nat_lt c.args.devices (length tapes)))) (sym c.of.ensures) (subst (λ b. IsFirst (broken NoDevice b) NoDevice) (sym over) refl) in
    first_later _ _ c.of.result none (first_later _ _ c.of.result free (first_here _ _ c.of.result told))

pub returns-clause-judged : goal.returns-clause-judged
returns-clause-judged c =
    let scripts = c.args.outline.now.scripts.items in
    let entries = c.args.tree.now.natives.items in
    let tapes = c.args.tree.now.tapes.items in
    let start = c.in_ok-natives.ensures in
    let given = c.in_ok-bind_all.ensures in
    let state = AreSettled-none scripts c.in_ok-natives.natives start.unbound in
    let natives = given.natives scripts start.natives in
    let settled = subst (λ xs. AreSettled scripts xs [] c.bind_all.new.self) c.deref.ensures.value (given.settled scripts start.natives state) in
    let none = subst (λ xs. in_turn (native_breaks scripts c.args.devices) [] xs ≡ []) c.deref.ensures.value (subst (λ d. in_turn (native_breaks scripts d) [] c.deref.result.now ≡ []) start.devices (given.judged scripts start.natives state)) in
    let free = subst (λ d. flat_map (default_breaks scripts d entries) default_entries ≡ []) (given.devices ∙ start.devices) (c.in_ok-bind_defaults.ensures.judged scripts entries natives settled) in
    let few : length tapes ≤ c.args.devices = omega (arith, c.len.ensures, c.from.ensures, c.args.tree.now.tapes.ok.0) in
    let fit : broken NoDevice (nat_lt c.args.devices (length tapes)) ≡ [] = ap (broken NoDevice) (le-ltb c.args.devices (length tapes) few) in
    let end = c.bind_defaults.new.self in
    let same = unbound_same scripts entries end (c.bind_defaults.ensures.natives scripts natives) (c.in_ok-bind_defaults.ensures.settled scripts entries natives settled) in
    let last = subst (λ rules. IsJudgedBy rules c.finish.result) (sym same) c.finish.ensures.judged in
    judged_later _ _ c.finish.result none (judged_later _ _ c.finish.result free (judged_later _ _ c.finish.result fit last))
