use Rattle.std.proofs.Common.{◌≡◌, Some, sym, ap, ◌∙◌}
use Rattle.std.proofs.lemmas.Bool.{false≢true}
use Rattle.script_lexer.specs.Words.{keyword_spelling}
use Rattle.script_lexer.proofs.keyword.Keyword.of.Goals as goal

pub returns-in_default : goal.returns-in_default
returns-in_default c = λ k e.
    let found : Some c.in-Some.keyword ≡ Some k = c.in-Some.ensures k e in
    let same : k ≡ c.in-Some.keyword = cc in
    let spelled : c.spelling.result.now ≡ keyword_spelling k = c.spelling.ensures ∙ ap keyword_spelling (sym same) in
    false≢true (sym c.if-is_spelled.false ∙ c.is_spelled.ensures.1 (e ∙ sym spelled))
