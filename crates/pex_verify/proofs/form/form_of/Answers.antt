use Rattle.std.proofs.Common.{sym, arith}
use Rattle.std.proofs.lemmas.List.{get_or_past}
use Rattle.pex_verify.specs.declared.form.Form.TheVariants as form
use Rattle.pex_verify.specs.declared.form.PlainForm.TheVariants as plain
use Rattle.pex_verify.specs.JudgedCode.{form_table}
use Rattle.pex_verify.proofs.form.form_of.Goals as goal

pub returns-then-opcode-gt-LAST : goal.returns-then-opcode-gt-LAST
returns-then-opcode-gt-LAST c =
    let past = c.if-opcode-gt-LAST.true in
    sym (get_or_past form_table c.args.opcode (form.Plain plain.Nop) (omega arith))
