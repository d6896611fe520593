use Rattle.std.proofs.Common.{length, Some, arith}
use Rattle.code_emit.proofs.Goes.{more, goes_further}
use Rattle.code_emit.proofs.Later.{reference_later}
use Rattle.code_emit.proofs.Spelling.{reads_on, type_on}
use Rattle.code_emit.proofs.emitter.one_variable.Goals as goal

pub returns-clause-variable : goal.returns-clause-variable
returns-clause-variable c =
    let n = length c.constant.new.strings.strings in
    let second = more c.in_ok-kind.ensures.goes in
    let last = more c.in_ok-value.ensures.goes in
    record {
      name = reference_later (length c.place_of.new.self.strings) n (omega arith) c.in_ok-name.name c.in_ok-name.ensures.place;
      kind = reference_later (length c.numbered.new.self.strings) n last c.in_ok-kind.kind c.in_ok-kind.ensures.place;
      flags = c.flag_bits.ensures.within;
      value = c.in_ok-value.ensures.datum;
    }

pub returns-clause-spelled : goal.returns-clause-spelled
returns-clause-spelled c =
    let last = c.in_ok-value.ensures.goes in
    record {
      name = reads_on _ _ (goes_further _ _ _ c.in_ok-kind.ensures.goes last) c.in_ok-name.name _ (rw c.as_bytes.ensures at c.in_ok-name.ensures.named);
      kind = type_on _ _ last c.in_ok-kind.kind (Some c.args.variable.now.kind) c.in_ok-kind.ensures.named;
      flags = c.flag_bits.ensures.value;
      value = c.in_ok-value.ensures.spelled;
    }
