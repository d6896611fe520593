use Rattle.std.proofs.Common.{ℕ, Bool, length, Option, refl, sym, subst}
use Rattle.pex_values.specs.Shape.{AgreesWith}
use Rattle.code_emit.proofs.Goes.{more}
use Rattle.code_emit.proofs.Later.{data_later}
use Rattle.code_emit.proofs.Spelling.{each_length, operands_on}
use Rattle.code_emit.proofs.instructions.call.Goals as goal

pub returns-clause-spelled : goal.returns-clause-spelled
returns-clause-spelled c = record {
  opcode = refl;
  fixed = operands_on c.operand_data.new.strings c.place_data.new.strings c.in_ok-more.ensures.goes c.args.slots.now c.in_ok-fixed.fixed.items c.args.operands.now c.in_ok-fixed.ensures.spelled;
  more = c.in_ok-more.ensures.spelled;
}

pub returns-clause-instruction : goal.returns-clause-instruction
returns-clause-instruction c =
    let count = each_length _ c.in_ok-fixed.fixed.items c.args.operands.now c.in_ok-fixed.ensures.spelled in
    let P : Option (ℕ × Bool) → Type 0 = λ wanted. AgreesWith wanted (length c.in_ok-fixed.fixed.items) (length c.in_ok-more.more.items) in
    record {
      opcode = c.ranges.opcode.fits;
      operands = subst P (sym c.requires.opcode) count;
      fixed = data_later (length c.operand_data.new.strings.strings) (length c.place_data.new.strings.strings) (more c.in_ok-more.ensures.goes) c.in_ok-fixed.fixed.items c.in_ok-fixed.ensures.operands;
      more = c.in_ok-more.ensures.operands;
    }
