use Rattle.std.proofs.Common.{◌∙◌, arith}
use Rattle.script_lexer.proofs.TriviaLemmas.{documentation_stands, documentation_too_long, documentation_open}
use Rattle.script_lexer.proofs.trivia.documentation.Goals as goal

pub returns-then-len-gt-DOCUMENTATION_LIMIT : goal.returns-then-len-gt-DOCUMENTATION_LIMIT
returns-then-len-gt-DOCUMENTATION_LIMIT c = documentation_too_long c.args.rest.now c.split_at.result.1.now c.run_len-len.result c.requires.opens c.split_at.ensures.back c.run_len-len.ensures.run (omega arith)

pub returns-then-len-behind : goal.returns-then-len-behind
returns-then-len-behind c = documentation_open c.args.rest.now c.split_at.result.1.now c.run_len-len.result c.requires.opens c.split_at.ensures.back c.run_len-len.ensures.run (omega arith) (omega arith)

pub returns : goal.returns
returns c = documentation_stands c.args.rest.now c.split_at.result.1.now c.in_ok-text.text c.run_len-len.result c.requires.opens c.split_at.ensures.back c.run_len-len.ensures.run (omega arith) (omega arith) (c.in_ok-text.ensures ∙ c.split_at-2.ensures.front)
