use Rattle.std.proofs.Common.{ℕ, Bool, List, length, Option, refl, sym, ap, subst, rules}
use Rattle.pex_values.specs.Shape.{AgreesWith}
use Rattle.pex_values.specs.declared.values.Datum.{Datum}
use Rattle.code_emit.proofs.Spelling.{each_length}
use Rattle.code_emit.proofs.instructions.fixed.Goals as goal

pub returns-clause-instruction : goal.returns-clause-instruction
returns-clause-instruction c =
    let count = each_length _ c.in_ok-fixed.fixed.items c.args.operands.now c.in_ok-fixed.ensures.spelled in
    let P : Option (ℕ × Bool) → Type 0 = λ wanted. AgreesWith wanted (length c.in_ok-fixed.fixed.items) (length c.new-more.result.items) in
    record {
      opcode = c.ranges.opcode.fits;
      operands = subst P (sym c.requires.opcode) (count, ap (λ (ds : List Datum). length ds) c.new-more.ensures.items);
      fixed = c.in_ok-fixed.ensures.operands;
      more = search rules;
    }
