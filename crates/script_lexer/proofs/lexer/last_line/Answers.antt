use Rattle.std.proofs.Common.{◌-◌, length, sym, ◌∙◌, arith}
use Rattle.std.proofs.lemmas.Bool.{eqb-false}
use Rattle.script_lexer.proofs.ReadingLemmas.{ended_lines, open_lines}
use Rattle.script_lexer.proofs.lexer.last_line.Goals as goal

pub returns-then-text-eq10 : goal.returns-then-text-eq10
returns-then-text-eq10 c =
    let some = eqb-false (length c.args.text.now) 0 (sym c.is_empty.ensures ∙ c.if-is_empty.false) in
    omega (arith, ended_lines c.args.text.now (length c.args.text.now - 1) (omega arith) c.if-text-eq10.true)

pub returns-else-text-eq10 : goal.returns-else-text-eq10
returns-else-text-eq10 c =
    let some = eqb-false (length c.args.text.now) 0 (sym c.is_empty.ensures ∙ c.if-is_empty.false) in
    omega (arith, open_lines c.args.text.now (length c.args.text.now - 1) (omega arith) c.if-text-eq10.false)
