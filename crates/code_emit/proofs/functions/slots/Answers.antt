use Rattle.std.proofs.Common.{◌≡◌, ℕ, ◌+◌, List, [], ◌∷◌, ◌++◌, length, get_or, take, Option, None, sym, subst, arith}
use Rattle.std.proofs.lemmas.List.{length-take}
use Rattle.core_tree.specs.declared.core_type.CoreType.{CoreType}
use Rattle.std.specs.List.{AllByRecursion}
use Rattle.pex_values.specs.Shape.{ArePair}
use Rattle.code_emit.proofs.Goes.{more, goes_further}
use Rattle.code_emit.proofs.Later.{pair_later, list_grown}
use Rattle.code_emit.specs.Spelled.{SpellsSlots}
use Rattle.code_emit.proofs.Spelling.{item_taken, read_at, slots_more, slot_on}
use Rattle.code_emit.proofs.functions.slots.Goals as goal

pub loop-number-preserved : goal.loop-number-preserved
loop-number-preserved c =
    let n = length c.loop-number.strings.strings in
    let m = length c.slot.new.strings.strings in
    let P : List (ℕ × ℕ) → Type 0 = λ xs. AllByRecursion (ArePair m) xs in
    let kinds : List (Option CoreType) = c.args.kinds.now in
    let at = c.loop-number.number in
    let kind : Option CoreType = get_or kinds at None in
    let Q : List (ℕ × ℕ) → Type 0 = λ ss. SpellsSlots c.slot.new.strings 0 ss (take (at + 1) kinds) in
    let R : List (Option CoreType) → Type 0 = λ ks. SpellsSlots c.slot.new.strings 0 (c.loop-number.slots.items ++ c.in_ok-slot.field-0 ∷ []) ks in
    let numbered : at ≡ 0 + length (take at kinds) = omega (arith, length-take at kinds) in
    record {
      goes = goes_further c.args.strings.now c.loop-number.strings c.slot.new.strings c.loop-number.invariant.goes c.in_ok-slot.ensures.goes;
      each = subst P (sym c.in_ok-push.ensures.items) (list_grown (ArePair n) (ArePair m) (pair_later n m (more c.in_ok-slot.ensures.goes)) c.loop-number.slots.items c.in_ok-slot.field-0 c.loop-number.invariant.each c.in_ok-slot.ensures.slot);
      spelled = subst Q (sym c.in_ok-push.ensures.items) (subst R (sym (item_taken kinds at kind c.loop-number-test.true (read_at kinds at None c.loop-number-test.true))) (slots_more c.loop-number.strings c.slot.new.strings (slot_on _ _ c.in_ok-slot.ensures.goes) 0 at c.loop-number.slots.items (take at kinds) c.in_ok-slot.field-0 kind numbered c.loop-number.invariant.spelled c.in_ok-slot.ensures.spelled));
    }
