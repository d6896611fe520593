use Rattle.std.proofs.Common.{◌≡◌, ℕ, ◌<◌, [], ◌∷◌, ◌++◌, Option, IfSome, length, get_or, refl, sym, ap, subst, ◌∙◌, vec_len, arith}
use Rattle.core_tree.specs.declared.core_type.CoreType.{CoreType}
use Rattle.papy_base.specs.declared.name.Name.{Name}
use Rattle.pex_verify.specs.declared.value_type.ValueType.{ValueType}
use Rattle.pex_verify.specs.Matching.{parameter_type}
use Rattle.pex_verify.specs.Meanings.{of_result, value_meaning}
use Rattle.pex_verify.specs.Signatures.{kind_at}
use Rattle.pex_verify.specs.Types.{IsTypeAmong}
use Rattle.pex_verify.proofs.Lists.{all_grown}
use Rattle.pex_verify.proofs.Pairs.{behind_next, map_next}
use Rattle.pex_verify.proofs.function.load_parameters.Goals as goal

pub loop-pair-preserved : goal.loop-pair-preserved
loop-pair-preserved c =
    let count = vec_len c.args.home.now.set.now.heads in
    let IsTyped : Name × CoreType → Type 0 = λ p. IsTypeAmong count p.1 in
    let means : ℕ × ℕ → ValueType = λ pair. value_meaning c.args.home.now.set.now.types (kind_at c.args.source.now.names.now pair) in
    let before = c.loop-pair.invariant in
    let old = c.loop-pair.parameters.items in
    let new = c.push.new.self.items in
    let found : Name × CoreType = (c.in_ok-title.field-0, c.in-Some.kind) in
    let declared = c.value_type-declared.result in
    let slot = c.in_ok-kind.ensures in
    let was = c.loop-pair.slots.list.items in
    let known : parameter_type found ≡ declared = subst (λ (kind : Option CoreType). of_result kind ≡ declared) c.in-Some.is slot.known in
    let typed : IsTyped found = subst (λ (kind : Option CoreType). IfSome kind (IsTypeAmong count)) c.in-Some.is (slot.typed count c.value_type-declared.ensures.among) in
    let adds : c.judged_slot.new.slots.list.items ≡ was ++ parameter_type found ∷ [] = slot.slots ∙ ap (λ (kind : ValueType). was ++ kind ∷ []) (sym known) in
    let meant = known ∙ c.value_type-declared.ensures.meaning ∙ ap (value_meaning c.args.home.now.set.now.types) c.number.ensures in
    let pairs = c.args.pairs.now in
    let i = c.loop-pair.pair-index in
    let within : i < length pairs = omega arith in
    let slots = behind_next parameter_type c.args.slots.now.list.items was c.judged_slot.new.slots.list.items old new found adds c.in_ok-push.ensures.items before.2 in
    (omega (arith, before.0, slot.count, c.in_ok-push.ensures.len), all_grown IsTyped old new found c.in_ok-push.ensures.items before.1 typed, slots, map_next parameter_type means old new pairs i found (get_or pairs i (0, 0)) (0, 0) c.in_ok-push.ensures.items within refl before.3 meant)
