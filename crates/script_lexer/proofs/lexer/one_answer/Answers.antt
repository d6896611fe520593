use Rattle.script_lexer.proofs.LawLemmas.{one_answer-law}
use Rattle.script_lexer.proofs.lexer.one_answer.Goals as goal

pub returns : goal.returns
returns c = one_answer-law
