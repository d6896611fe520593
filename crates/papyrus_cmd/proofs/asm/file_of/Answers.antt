use Rattle.std.proofs.Common.{arith, rules}
use Rattle.pex_listing.proofs.BreakLines.{told_exactly}
use Rattle.pex_values.specs.Plain.{plain}
use Rattle.papyrus_cmd.proofs.Assembled.{assembled}
use Rattle.papyrus_cmd.proofs.asm.file_of.Goals as goal

pub returns-in-Ok : goal.returns-in-Ok
returns-in-Ok c = assembled (plain c.in-Ok.value) c.args.text.now c.spelled-bytes.result c.spelled-bytes.ensures c.in-Ok.ensures.text c.in-Ok.ensures.first_break

pub returns-in-Err-Broken : goal.returns-in-Err-Broken
returns-in-Err-Broken c = record {
  line = c.in-Err-Broken.line;
  broken = c.in-Err-Broken.rule;
  place_is = search rules;
  rule_is = search rules;
  first_is = told_exactly c.args.text.now c.in-Err-Broken.line c.in-Err-Broken.rule (omega arith) (rw c.in-Err-Broken.field-0-is at c.in-Err-Broken.ensures.first_break);
}
