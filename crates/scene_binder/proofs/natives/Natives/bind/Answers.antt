use Rattle.std.proofs.Common.{◌≡◌, ◌<◌, ◌∙◌, Some, None, true, false, sym, is_some, length, get_or, IfSome, refl, subst}
use Rattle.std.proofs.lemmas.List.Elements.{All-set}
use Rattle.scene_binder.specs.Limits.{MayKeepLimits}
use Rattle.papy_base.specs.Case.{folded}
use Rattle.papy_base.specs.Table.{number_in}
use Rattle.scene_binder.specs.Faults.{allows}
use Rattle.scene_binder.specs.NativeList.{MayDo}
use Rattle.scene_binder.proofs.ListLemmas.{same_item}
use Rattle.scene_binder.proofs.NativeLemmas.{AreBoundBy-bind, AreMeant-bind, AreNatives-bind, none_from}
use Rattle.scene_binder.proofs.natives.Natives.bind.Goals as goal

pub returns-clause-natives : goal.returns-clause-natives
returns-clause-natives c =
    let natives = c.args.self.now.natives.items in
    let number = c.in-Some.number in
    let native = c.index_mut.result.now in
    let tested = c.index-2.result.now in
    let binding = c.args.binding in
    let devices = c.args.self.now.devices in
    let lt = subst (λ o. IfSome o (λ n. n < length natives)) c.in-Some.is c.in_ok-number.ensures.there in
    let is : native ≡ get_or natives number native = cc in
    let also : tested ≡ get_or natives number tested = cc in
    let own : MayDo devices tested.function.now binding = record { types = c.types_allow.ensures.allowed c.if-not-types_allow.false; device = c.has_device.ensures.there.0 c.if-not-has_device.false } in
    let may = subst (λ n. MayDo devices n.function.now binding) (same_item natives number tested native lt also is) own in
    λ scripts h. AreNatives-bind scripts c.args.self.now _ number native binding lt is refl refl refl may h

pub returns-clause-limits : goal.returns-clause-limits
returns-clause-limits c = λ kept h.
    All-set MayKeepLimits c.args.self.now.natives.items c.in-Some.number _ kept h

pub returns-clause-bound : goal.returns-clause-bound
returns-clause-bound c =
    let old = c.args.self.now in
    let natives = old.natives.items in
    let number = c.in-Some.number in
    let native = c.index_mut.result.now in
    let tested = c.index.result.now in
    let lt = subst (λ o. IfSome o (λ n. n < length natives)) c.in-Some.is c.in_ok-number.ensures.there in
    let found = subst (λ o. IfSome o (λ n. number_in old.names (folded c.args.name.now) ≡ Some n)) c.in-Some.is c.in_ok-number.ensures.named in
    let is : native ≡ get_or natives number native = cc in
    let also : tested ≡ get_or natives number tested = cc in
    let clear : is_some tested.binding ≡ false = cc in
    let none = subst (λ x. x.binding ≡ None) (same_item natives number tested native lt also is) (none_from tested.binding clear) in
    λ scripts entries h bound. AreBoundBy-bind scripts entries old _ number native c.args.name.now c.args.binding lt is refl refl found none h.tabled bound

pub returns-clause-meant : goal.returns-clause-meant
returns-clause-meant c =
    let old = c.args.self.now in
    let natives = old.natives.items in
    let number = c.in-Some.number in
    let native = c.index_mut.result.now in
    let tested = c.index.result.now in
    let lt = subst (λ o. IfSome o (λ n. n < length natives)) c.in-Some.is c.in_ok-number.ensures.there in
    let found = subst (λ o. IfSome o (λ n. number_in old.names (folded c.args.name.now) ≡ Some n)) c.in-Some.is c.in_ok-number.ensures.named in
    let is : native ≡ get_or natives number native = cc in
    let also : tested ≡ get_or natives number tested = cc in
    let clear : is_some tested.binding ≡ false = cc in
    let none = subst (λ x. x.binding ≡ None) (same_item natives number tested native lt also is) (none_from tested.binding clear) in
    λ scripts entries default h meant. AreMeant-bind scripts entries old _ number native c.args.name.now c.args.binding lt is refl refl found none h.tabled default meant

pub returns-clause-binds : goal.returns-clause-binds
returns-clause-binds c =
    let old = c.args.self.now in
    let natives = old.natives.items in
    let number = c.in-Some.number in
    let native = c.index_mut.result.now in
    let tested = c.index.result.now in
    let also_tested = c.index-2.result.now in
    let lt = subst (λ o. IfSome o (λ n. n < length natives)) c.in-Some.is c.in_ok-number.ensures.there in
    let found = subst (λ o. IfSome o (λ n. number_in old.names (folded c.args.name.now) ≡ Some n)) c.in-Some.is c.in_ok-number.ensures.named in
    let is : native ≡ get_or natives number native = cc in
    let also : tested ≡ get_or natives number tested = cc in
    let third : also_tested ≡ get_or natives number also_tested = cc in
    let clear : is_some tested.binding ≡ false = cc in
    let may : allows also_tested.function.now c.args.binding ≡ true = sym c.types_allow.ensures.same ∙ c.if-not-types_allow.false in
    record {
      number = number;
      native = native;
      found = found;
      inside = lt;
      is = is;
      unbound = subst (λ x. x.binding ≡ None) (same_item natives number tested native lt also is) (none_from tested.binding clear);
      allowed = subst (λ n. allows n.function.now c.args.binding ≡ true) (same_item natives number also_tested native lt third is) may;
      items = refl;
      names = refl;
    }
