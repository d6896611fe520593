use Rattle.std.proofs.Common.{ℕ, ◌+◌, List, [], ◌∷◌, ◌++◌, length, map, take, sym, subst}
use Rattle.std.specs.List.{AllByRecursion}
use Rattle.code_lower.specs.declared.place.Coded.{Coded}
use Rattle.pex_values.specs.declared.values.Instruction.{Instruction}
use Rattle.pex_values.specs.Plain.{plain_instruction}
use Rattle.pex_values.specs.Shape.{IsShapedInstruction}
use Rattle.code_emit.specs.Spelled.{Each, Scope, SpellsInstruction, form_of}
use Rattle.code_emit.proofs.Goes.{more, goes_further}
use Rattle.code_emit.proofs.Later.{each_grown, instruction_later, pairs_later}
use Rattle.code_emit.proofs.Spelling.{views_more, form_on}
use Rattle.code_emit.proofs.functions.code.Goals as goal

pub instruction-requires : goal.instruction-requires
instruction-requires c =
    pairs_later (length c.args.strings.now.strings) (length c.loop-each.strings.strings) (more c.loop-each.invariant.goes) c.args.slots.now c.requires

pub loop-each-preserved : goal.loop-each-preserved
loop-each-preserved c =
    let n = length c.loop-each.strings.strings in
    let m = length c.instruction.new.strings.strings in
    let slots = c.args.slots.now in
    let old : Scope = record { table = c.loop-each.strings; slots = slots } in
    let new : Scope = record { table = c.instruction.new.strings; slots = slots } in
    let coded : List (Coded × ℕ) = c.args.coded.now in
    let P : List Instruction → Type 0 = λ xs. AllByRecursion (IsShapedInstruction m) (map plain_instruction xs) in
    let Q : List Instruction → Type 0 = λ xs. Each (SpellsInstruction new) (map plain_instruction xs) (map (λ i. i.0) (take (c.loop-each.each-index + 1) coded)) in
    record {
      goes = goes_further c.args.strings.now c.loop-each.strings c.instruction.new.strings c.loop-each.invariant.goes c.in_ok-instruction.ensures.goes;
      each = subst P (sym c.in_ok-push.ensures.items) (each_grown (IsShapedInstruction n) (IsShapedInstruction m) plain_instruction (instruction_later n m (more c.in_ok-instruction.ensures.goes)) c.loop-each.code.items c.in_ok-instruction.field-0 c.loop-each.invariant.each c.in_ok-instruction.ensures.instruction);
      spelled = subst Q (sym c.in_ok-push.ensures.items) (views_more (SpellsInstruction old) (SpellsInstruction new) (λ i code is. form_on _ _ c.in_ok-instruction.ensures.goes slots i (form_of code) is) plain_instruction (λ (i : Coded × ℕ). i.0) c.loop-each.code.items coded c.loop-each.each-index c.in_ok-instruction.field-0 c.each-item.result c.loop-each-test.true c.each-item.is c.loop-each.invariant.spelled c.in_ok-instruction.ensures.spelled);
    }
