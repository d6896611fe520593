use Rattle.std.proofs.Common.{sym, ◌∙◌, inl, inr, arith}
use Rattle.script_lexer.proofs.NumberLemmas.{decimal_stands, decimal_refused}
use Rattle.std.proofs.lemmas.Bool.{false≢true}
use Rattle.std.specs.Prelude.{◌<◌}
use Rattle.std.specs.Str.Parse.{digits_value}
use Rattle.script_lexer.proofs.in_line.decimal.Goals.{then-number-gt-DECIMAL_LIMIT-via-then-number-gt-DECIMAL_LIMIT, then-number-gt-DECIMAL_LIMIT-via-else-number-gt-DECIMAL_LIMIT+then-begins_word}
use Rattle.script_lexer.proofs.in_line.decimal.Goals as goal

pub returns : goal.returns
returns c = decimal_stands c.args.rest.now c.split_at.result.1.now c.split_at-2.result.0.now c.split_at-2.result.1.now c.run_len-len.result c.in-Some.number c.requires.opens c.requires.prefix c.split_at.ensures.back c.run_len-len.ensures.run c.split_at-2.ensures.front c.split_at-2.ensures.back
    c.in-Some.ensures.value (omega arith) (λ h. false≢true (sym c.if-is_fraction.false ∙ c.is_fraction.ensures.1 h)) (λ h. false≢true (sym c.if-begins_word.false ∙ c.begins_word.ensures.1 h))

pub returns-then-number-gt-DECIMAL_LIMIT : goal.returns-then-number-gt-DECIMAL_LIMIT
returns-then-number-gt-DECIMAL_LIMIT c =
    decimal_refused c.args.rest.now c.split_at.result.1.now c.split_at-2.result.0.now c.split_at-2.result.1.now c.run_len-len.result c.requires.opens c.requires.prefix c.split_at.ensures.back c.run_len-len.ensures.run c.split_at-2.ensures.front c.split_at-2.ensures.back
    (λ h. false≢true (sym c.if-is_fraction.false ∙ c.is_fraction.ensures.1 h))
    (elim c.then-number-gt-DECIMAL_LIMIT.branch [
      | then-number-gt-DECIMAL_LIMIT-via-then-number-gt-DECIMAL_LIMIT w ↦ let over : 2147483647 < digits_value 10 c.split_at-2.result.0.now = omega (arith, c.in-Some.ensures.value, w.if-number-gt-DECIMAL_LIMIT.true) in inl over
      | then-number-gt-DECIMAL_LIMIT-via-else-number-gt-DECIMAL_LIMIT+then-begins_word w ↦ inr (w.begins_word.ensures.0 w.if-begins_word.true)
    ])
