use Rattle.std.proofs.Common.{◌≡◌, rules}
use Rattle.run_replay.specs.declared.reader.JournalWord.TheVariants as keyword
use Rattle.run_replay.proofs.LineLemmas.{no_word, no_numbers, line_is}
use Rattle.run_replay.proofs.reader.line_of.Goals as goal

pub returns-in_err-keyword : goal.returns-in_err-keyword
returns-in_err-keyword c = rw c.from_residual.ensures (no_word c.args.text.now c.split_at.result.0.now c.split_at.result.1.now c.len_before.result c.len_before.ensures.run c.split_at.ensures.front c.split_at.ensures.back c.in_err-keyword.ensures)

pub returns-in_err-numbers : goal.returns-in_err-numbers
returns-in_err-numbers c =
    let other : c.in_ok-keyword.keyword ≡ keyword.Instance → ⊥ = search rules in
    rw c.from_residual-in_err-numbers.ensures (no_numbers c.args.text.now c.split_at.result.0.now c.split_at.result.1.now c.len_before.result c.in_ok-keyword.keyword c.len_before.ensures.run c.split_at.ensures.front c.split_at.ensures.back c.in_ok-keyword.ensures other c.in_err-numbers.ensures)

pub returns : goal.returns
returns c =
    let other : c.in_ok-keyword.keyword ≡ keyword.Instance → ⊥ = search rules in
    line_is c.args.text.now c.split_at.result.0.now c.split_at.result.1.now c.len_before.result c.in_ok-keyword.keyword c.in_ok-numbers.numbers c.numbered_line.result c.len_before.ensures.run c.split_at.ensures.front c.split_at.ensures.back c.in_ok-keyword.ensures other c.in_ok-numbers.ensures.0 c.in_ok-numbers.ensures.1 c.numbered_line.ensures.known c.numbered_line.ensures.read
