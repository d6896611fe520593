use Rattle.std.proofs.Common.{rules}
use Rattle.code_lower.proofs.OwnSlots.{own_slots_hold, own_joined}
use Rattle.code_lower.proofs.slots.SlotTable.new.Goals as goal

pub invariant_of-result : goal.invariant_of-result
invariant_of-result c =
    let f = c.args.function.now in
    own_slots_hold f c.add_typed-2.new.kinds.items c.len-own.result c.new.result.items (own_joined c.new-kinds.result.items c.add_typed.new.kinds.items c.add_typed-2.new.kinds.items f.parameters.items c.deref.result.now f.locals.items c.deref-2.result.now c.new-kinds.ensures.items c.in_ok-add_typed.ensures c.deref.ensures.value c.in_ok-add_typed-2.ensures c.deref-2.ensures.value) (search rules) c.new.ensures.items
