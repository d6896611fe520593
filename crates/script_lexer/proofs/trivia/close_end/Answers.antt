use Rattle.std.proofs.Common.{◌≡◌, ◌+◌, ◌-◌, get_or, sym, ◌∙◌, arith}
use Rattle.script_lexer.proofs.TriviaLemmas.{close_goes_on, close_missing}
use Rattle.script_lexer.proofs.trivia.close_end.Goals.{else-bytes-at-eq47-via-then-bytes-at-eq47+else-bytes-at-eq59, else-bytes-at-eq47-via-else-bytes-at-eq47}
use Rattle.script_lexer.proofs.trivia.close_end.Goals as goal

pub loop-at-preserved : goal.loop-at-preserved
loop-at-preserved c =
    let go = λ (h : get_or c.args.bytes.now (c.loop-at.at - 1) 0 ≡ 47 → get_or c.args.bytes.now c.loop-at.at 0 ≡ 59 → ⊥).
    sym (close_goes_on c.args.bytes.now (c.loop-at.at - 1) c.loop-at.at (c.loop-at.at + 1 - 1) (omega arith) (omega arith) c.loop-at-test.true h) ∙ c.loop-at.invariant in
    elim c.else-bytes-at-eq47.branch [
      | else-bytes-at-eq47-via-then-bytes-at-eq47+else-bytes-at-eq59 w ↦ go (λ a b. w.if-bytes-at-eq59.false b)
      | else-bytes-at-eq47-via-else-bytes-at-eq47 w ↦ go (λ a b. w.if-bytes-at-eq47.false a)
    ]

pub returns-clause-close : goal.returns-clause-close
returns-clause-close c = sym c.loop-at.invariant ∙ close_missing c.args.bytes.now (c.loop-at.at - 1) (omega arith)
