use Rattle.std.proofs.Common.{◌<◌, sym, ◌∙◌, length, arith}
use Rattle.std.proofs.lemmas.Bool.{eqb-true}
use Rattle.std.proofs.lemmas.Bool.Decides.{nat_tests}
use Rattle.run_replay.proofs.Digits.{not_decimal, magnitude_is, no_leading_zero, not_empty}
use Rattle.run_replay.proofs.reader.magnitude.Goals as goal

pub returns-then-is_empty : goal.returns-then-is_empty
returns-then-is_empty c = λ n small same. not_empty c.args.digits.now n small (eqb-true (length c.args.digits.now) 0 (sym c.is_empty.ensures ∙ c.if-is_empty.true)) same

pub returns-then-has_leading_zero : goal.returns-then-has_leading_zero
returns-then-has_leading_zero c = λ n small same. no_leading_zero c.args.digits.now n small (sym c.has_leading_zero.ensures ∙ c.if-has_leading_zero.true) same

pub returns-in_err-number : goal.returns-in_err-number
returns-in_err-number c = rw c.from_residual.ensures (λ n small same. not_decimal c.args.digits.now n small (sym c.decimal_number.ensures ∙ c.in_err-number.was) same)

pub returns : goal.returns
returns c =
    let some : 0 < length c.args.digits.now = grind (arith, nat_tests) in
    let number = sym c.decimal_number.ensures ∙ c.in_ok-number.was in
    rw c.ok.ensures.value (magnitude_is c.args.digits.now c.in_ok-number.number c.try_from.result some (sym c.has_leading_zero.ensures ∙ c.if-has_leading_zero.false) number c.try_from.ensures)
