use Rattle.std.proofs.Common.{◌≡◌, true, refl, sym, ap, ◌∙◌, arith}
use Rattle.std.specs.Str.Parse.{digits_value}
use Rattle.papy_base.proofs.DigitLemmas.{number_value}
use Rattle.pex_listing.specs.Left.{rule_of}
use Rattle.pex_listing.specs.Numbers.{are_digits}
use Rattle.pex_listing.proofs.FieldRules.{not_within, number_below, number_here, number_no_digits, number_outside, too_big, value_here}
use Rattle.pex_listing.proofs.fields.unsigned_of.Goals as goal

pub returns-then-not-is_digits-clause-rule : goal.returns-then-not-is_digits-clause-rule
returns-then-not-is_digits-clause-rule c =
    let s = c.split_minus-is_negative in
    number_no_digits c.args.least c.args.most c.args.field.now s.result.0.now s.result.1 s.ensures.whole s.ensures.minus (sym c.if-not-is_digits.ensures)

pub returns-in_err-number-clause-rule : goal.returns-in_err-number-clause-rule
returns-in_err-number-clause-rule c =
    let s = c.split_minus-is_negative in
    let digits = s.result.0.now in
    let are : are_digits digits ≡ true = sym c.if-not-is_digits.ensures in
    let big = too_big digits are c.in_err-number.ensures in
    ap rule_of c.from_residual.ensures ∙ number_outside c.args.least c.args.most c.args.field.now digits s.result.1 s.ensures.whole (digits_value 10 digits) are refl (not_within c.args.least (digits_value 10 digits) c.args.most (omega (arith, c.ranges.most.fits)))

pub returns-then-not-is_within-clause-rule : goal.returns-then-not-is_within-clause-rule
returns-then-not-is_within-clause-rule c =
    let s = c.split_minus-is_negative in
    let value = (number_value s.result.0.now c.in_ok-number.number (sym c.in_ok-number.ensures)).value in
    number_outside c.args.least c.args.most c.args.field.now s.result.0.now s.result.1 s.ensures.whole c.in_ok-number.number (sym c.if-not-is_digits.ensures) value (sym c.if-not-is_within.ensures)

pub returns-then-is_below_zero-clause-rule : goal.returns-then-is_below_zero-clause-rule
returns-then-is_below_zero-clause-rule c =
    let s = c.split_minus-is_negative in
    let value = (number_value s.result.0.now c.in_ok-number.number (sym c.in_ok-number.ensures)).value in
    number_below c.args.least c.args.most c.args.field.now s.result.0.now s.result.1 s.ensures.whole c.in_ok-number.number (sym c.if-not-is_digits.ensures) value (sym c.if-is_below_zero.ensures)

pub returns-clause-rule : goal.returns-clause-rule
returns-clause-rule c =
    let s = c.split_minus-is_negative in
    let value = (number_value s.result.0.now c.in_ok-number.number (sym c.in_ok-number.ensures)).value in
    number_here c.args.least c.args.most c.args.field.now s.result.0.now s.result.1 s.ensures.whole c.in_ok-number.number c.is_spelling.result (sym c.if-not-is_digits.ensures) value (sym c.if-is_below_zero.ensures) (sym c.if-not-is_within.ensures)
    c.is_spelling.ensures

pub returns-clause-value : goal.returns-clause-value
returns-clause-value c =
    let s = c.split_minus-is_negative in
    let value = (number_value s.result.0.now c.in_ok-number.number (sym c.in_ok-number.ensures)).value in
    value_here c.args.least c.args.most c.args.field.now s.result.0.now s.result.1 s.ensures.whole c.in_ok-number.number (sym c.if-not-is_digits.ensures) value (sym c.if-is_below_zero.ensures)
