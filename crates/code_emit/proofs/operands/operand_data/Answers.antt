use Rattle.std.proofs.Common.{ℕ, ◌+◌, List, [], ◌∷◌, ◌++◌, length, map, take, sym, subst, ◌∙◌, refl, ap}
use Rattle.std.specs.List.{AllByRecursion}
use Rattle.code_emit.specs.declared.operands.Operand.{Operand}
use Rattle.pex_values.specs.declared.values.Datum.{Datum}
use Rattle.pex_values.specs.Shape.{IsShapedDatum}
use Rattle.code_emit.specs.Spelled.{Each, Scope, SpellsOperand}
use Rattle.code_emit.proofs.Goes.{more, goes_further}
use Rattle.code_emit.proofs.Later.{datum_later, list_grown, pairs_later}
use Rattle.code_emit.proofs.Spelling.{each_more, operand_on, item_taken}
use Rattle.code_emit.proofs.operands.operand_data.Goals as goal

pub operand_datum-requires : goal.operand_datum-requires
operand_datum-requires c =
    pairs_later (length c.args.strings.now.strings) (length c.loop-operand.strings.strings) (more c.loop-operand.invariant.goes) c.args.slots.now c.requires

pub loop-operand-preserved : goal.loop-operand-preserved
loop-operand-preserved c =
    let n = length c.loop-operand.strings.strings in
    let m = length c.operand_datum.new.strings.strings in
    let slots = c.args.slots.now in
    let old : Scope = record { table = c.loop-operand.strings; slots = slots } in
    let new : Scope = record { table = c.operand_datum.new.strings; slots = slots } in
    let operands : List Operand = c.args.operands.now in
    let at = c.loop-operand.operand-index in
    let P : List Datum → Type 0 = λ xs. AllByRecursion (IsShapedDatum m) xs in
    let Q : List Datum → Type 0 = λ xs. Each (SpellsOperand new) xs (take (at + 1) operands) in
    let R : List Operand → Type 0 = λ os. Each (SpellsOperand new) (c.loop-operand.found.items ++ c.in_ok-operand_datum.field-0 ∷ []) os in
    record {
      goes = goes_further c.args.strings.now c.loop-operand.strings c.operand_datum.new.strings c.loop-operand.invariant.goes c.in_ok-operand_datum.ensures.goes;
      each = subst P (sym c.in_ok-push.ensures.items) (list_grown (IsShapedDatum n) (IsShapedDatum m) (datum_later n m (more c.in_ok-operand_datum.ensures.goes)) c.loop-operand.found.items c.in_ok-operand_datum.field-0 c.loop-operand.invariant.each c.in_ok-operand_datum.ensures.datum);
      spelled = subst Q (sym c.in_ok-push.ensures.items) (subst R (sym (item_taken operands at _ c.loop-operand-test.true c.operand-item.is)) (each_more (SpellsOperand old) (SpellsOperand new) (operand_on _ _ c.in_ok-operand_datum.ensures.goes slots) c.loop-operand.found.items (take at operands) c.in_ok-operand_datum.field-0 _ c.loop-operand.invariant.spelled c.in_ok-operand_datum.ensures.spelled));
    }
