use Rattle.std.proofs.Common.{◌≡◌, ℕ, ◌+◌, Bool, true, false, List, [], length, Option, Some, refl, sym, ◌∙◌, ap, subst, arith, rules, suc, ◌∷◌}
use Rattle.std.specs.List.{flat_map}
use Rattle.pex_values.specs.declared.values.Instruction.{Instruction}
use Rattle.pex_values.specs.Opcodes.{operands_of}
use Rattle.pex_values.specs.Plain.{PlainInstruction, plain_instruction}
use Rattle.pex_values.specs.Shape.{AgreesWith}
use Rattle.pex_values.specs.Spelling.{datum, instruction}
use Rattle.pex_values.proofs.Sizes.{plain_size, counted_size}
use Rattle.pex_listing.specs.Listing as form
use Rattle.pex_listing.specs.Reading.{more_bytes}
use Rattle.pex_listing.proofs.Parts.{few_values}
use Rattle.pex_listing.proofs.Taken.{begun_more, begun_spent, ended, lines_of}
use Rattle.pex_listing.specs.Breaks.{Many, operands, values, values_behind}
use Rattle.pex_listing.specs.Left.{line_left, view}
use Rattle.pex_listing.specs.Listing.{opcode_names}
use Rattle.pex_listing.proofs.Opening.{begins_with, opcode_open, no_opcode, no_operands, line_read, read_err, memory_err}
use Rattle.pex_listing.proofs.objects.InstructionItem.read.Goals as goal

agrees : {X : Type 0} (n fixed : ℕ) (may_follow : Bool) (more : List X) → fixed ≡ n → (may_follow ≡ false → more ≡ []) → AgreesWith (Some (n, may_follow)) fixed (length more)
agrees n fixed true more count none = count
agrees n fixed false more count none = (count, ap length (none refl))

size : (i : PlainInstruction) (n : ℕ) (may_follow : Bool) → operands_of i.opcode ≡ Some (n, may_follow) → (may_follow ≡ false → i.more ≡ [])
    → length (instruction i) ≡ 1 + more_bytes may_follow + length (flat_map datum i.fixed) + length (flat_map datum i.more)
size i n true is none = omega (arith, counted_size i n is)
size i n false is none =
    let nothing : length (flat_map datum i.more) ≡ 0 = ap (λ more. length (flat_map datum more)) (none refl) in
    omega (arith, plain_size i n is, nothing)

pub returns : goal.returns
unfolding form.instruction
returns c =
    let is = sym c.operand_count.ensures ∙ c.in-Some-operand_count.is in
    let fixed = c.in_ok-fixed.ensures.values in
    let more = c.in_ok-more.ensures in
    let end = c.in_ok-next_line.ensures.ends in
    let i : Instruction = record { opcode = c.in-Some.opcode; fixed = c.in_ok-fixed.fixed; more = c.in_ok-more.more } in
    let good = more.values.takes.good end.good in
    let size_is = size (plain_instruction i) c.in-Some-operand_count.count c.in-Some-operand_count.may_follow is more.none in
    record {
      holds = (
        record {
          opcode = search rules;
          operands = subst (λ (o : Option (ℕ × Bool)). AgreesWith o (length i.fixed.items) (length i.more.items)) (sym is) (agrees c.in-Some-operand_count.count (length i.fixed.items) c.in-Some-operand_count.may_follow i.more.items c.in_ok-fixed.ensures.count more.none);
          fixed = fixed.holds good;
          more = more.values.holds end.good;
        },
        omega (arith, few_values i.more.items, more.values.takes.room end.good, c.read_fixed.new.listing.room.within),
      );
      lines = lines_of (omega (arith, size_is)) (ended (begun_more (begun_more (begun_spent c.in-Some.ensures.text c.spend.ensures.spends) fixed.takes) more.values.takes) end);
      left = λ strings awaited n table good at few.
          let after = Many opcode_names (suc n) ∷ awaited in
          let read =
          opcode_open strings awaited n (view c.args.listing.now) c.in-Some.opcode good at few (sym c.in-Some.ensures.code)
          ∙ ap (λ o. line_left strings after (operands strings o) (view c.args.listing.now)) is
          ∙ c.spend.ensures.pays.left strings after (values strings c.in-Some-operand_count.count (values_behind strings c.in-Some-operand_count.may_follow))
          ∙ (c.in_ok-fixed.ensures.left strings table).left strings after (values_behind strings c.in-Some-operand_count.may_follow)
          ∙ (more.left strings table).left strings after tt in
          line_read strings after [] _ _ read (c.in_ok-next_line.ensures.left strings after [] []);
    }

pub returns-in_err-next_line-clause-left : goal.returns-in_err-next_line-clause-left
returns-in_err-next_line-clause-left c = λ strings awaited n table good at few.
    let is = sym c.operand_count.ensures ∙ c.in-Some-operand_count.is in
    let after = Many opcode_names (suc n) ∷ awaited in
    let read =
    opcode_open strings awaited n (view c.args.listing.now) c.in-Some.opcode good at few (sym c.in-Some.ensures.code)
    ∙ ap (λ o. line_left strings after (operands strings o) (view c.args.listing.now)) is
    ∙ c.spend.ensures.pays.left strings after (values strings c.in-Some-operand_count.count (values_behind strings c.in-Some-operand_count.may_follow))
    ∙ (c.in_ok-fixed.ensures.left strings table).left strings after (values_behind strings c.in-Some-operand_count.may_follow)
    ∙ (c.in_ok-more.ensures.left strings table).left strings after tt in
    read_err _ _ c.in_err-next_line.field-0.0 c.from_residual-in_err-next_line.result (search rules) read (c.in_err-next_line.ensures.left strings after [] [])

pub returns-in_err-fixed-clause-left : goal.returns-in_err-fixed-clause-left
returns-in_err-fixed-clause-left c = λ strings awaited n table good at few. memory_err _ _ _ c.from_residual.result (search rules)

pub returns-in_err-more-clause-left : goal.returns-in_err-more-clause-left
returns-in_err-more-clause-left c = λ strings awaited n table good at few. memory_err _ _ _ c.from_residual-in_err-more.result (search rules)

pub returns-in_default-clause-left : goal.returns-in_default-clause-left
returns-in_default-clause-left c = λ strings awaited n table good at few.
    no_opcode strings awaited n (view c.args.listing.now) good at few (sym c.in_default.ensures.code)

pub returns-in_default-operand_count-clause-left : goal.returns-in_default-operand_count-clause-left
returns-in_default-operand_count-clause-left c = λ strings awaited n table good at few.
    let after = Many opcode_names (suc n) ∷ awaited in
    opcode_open strings awaited n (view c.args.listing.now) c.in-Some.opcode good at few (sym c.in-Some.ensures.code)
    ∙ ap (λ o. line_left strings after (operands strings o) (view c.args.listing.now)) (sym c.in_default-operand_count.ensures)
    ∙ no_operands strings after (view c.args.listing.now) (begins_with opcode_names (view c.args.listing.now).word at)
