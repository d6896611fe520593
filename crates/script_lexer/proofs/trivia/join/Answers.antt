use Rattle.std.proofs.Common.{arith}
use Rattle.script_lexer.proofs.TriviaLemmas.{join_stands, join_refused}
use Rattle.script_lexer.proofs.trivia.join.Goals as goal
use Rattle.script_lexer.proofs.trivia.join.Goals.{else-blanks-behind-via-then-blanks-behind+else-behind-blanks-eq10, else-blanks-behind-via-else-blanks-behind}

pub returns-then-behind-blanks-eq10 : goal.returns-then-behind-blanks-eq10
returns-then-behind-blanks-eq10 c = join_stands c.args.rest.now c.split_at.result.1.now c.run_len-blanks.result c.requires.opens c.split_at.ensures.back c.run_len-blanks.ensures.run (omega arith) c.if-behind-blanks-eq10.true

pub returns-else-blanks-behind : goal.returns-else-blanks-behind
returns-else-blanks-behind c = join_refused c.args.rest.now c.split_at.result.1.now c.run_len-blanks.result c.requires.opens c.split_at.ensures.back c.run_len-blanks.ensures.run
    (λ lt at. elim c.else-blanks-behind.branch [
      | else-blanks-behind-via-then-blanks-behind+else-behind-blanks-eq10 w ↦ w.if-behind-blanks-eq10.false at
      | else-blanks-behind-via-else-blanks-behind w ↦ absurd (omega arith)
    ])
