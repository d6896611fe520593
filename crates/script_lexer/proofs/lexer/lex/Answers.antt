use Rattle.std.proofs.Common.{ℕ, List, drop, ap, subst, ◌∙◌}
use Rattle.std.specs.Prelude.{OnOk}
use Rattle.script_lexer.specs.Lines.{IsUnbroken}
use Rattle.script_lexer.proofs.ReadingLemmas.{unbroken_of}
use Rattle.script_lexer.proofs.SpanLemmas.{cut_of}
use Rattle.script_lexer.proofs.lexer.lex.Goals as goal

pub returns-clause-unbroken : goal.returns-clause-unbroken
returns-clause-unbroken c =
    let e = c.split_at.ensures.back ∙ ap (λ (n : ℕ). drop n c.args.bytes.now) c.mark_len-start.ensures.value in
    subst (λ (t : List ℕ). OnOk c.lex_text.result (IsUnbroken t)) e (unbroken_of c.mark_len-start.result c.split_at.result.1.now c.lex_text.result c.lex_text.ensures)

pub returns-clause-spelled : goal.returns-clause-spelled
returns-clause-spelled c = cut_of c.args.bytes.now c.mark_len-start.result c.split_at.result.1.now c.lex_text.result c.mark_len-start.ensures.value c.split_at.ensures.back c.lex_text.ensures
