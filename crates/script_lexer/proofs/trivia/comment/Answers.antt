use Rattle.std.proofs.Common.{sym, ap, ◌∙◌}
use Rattle.script_lexer.specs.Answers.{begins_block}
use Rattle.script_lexer.proofs.TriviaLemmas.{line_comment_stands, block_comment_stands}
use Rattle.script_lexer.proofs.trivia.comment.Goals as goal

pub returns-then-not-begins_block : goal.returns-then-not-begins_block
returns-then-not-begins_block c = line_comment_stands c.args.rest.now c.split_at.result.1.now c.run_len-len.result c.requires.opens c.split_at.ensures.back c.run_len-len.ensures.run
    (sym (c.begins_block.ensures ∙ ap begins_block c.split_at.ensures.back) ∙ c.if-not-begins_block.true)

pub returns-in-Some : goal.returns-in-Some
returns-in-Some c = block_comment_stands c.args.rest.now c.split_at-2.result.1.now c.in-Some.end c.requires.opens
    (sym (c.begins_block.ensures ∙ ap begins_block c.split_at.ensures.back) ∙ c.if-not-begins_block.false) c.split_at-2.ensures.back c.in-Some.ensures.within c.in-Some.ensures.close
