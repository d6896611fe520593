use Rattle.std.proofs.Common.{◌≡◌, true, refl, sym, ap, ◌∙◌, to_z, of_z, w32, arith, rules}
use Rattle.std.specs.Prelude.{FitsSigned}
use Rattle.std.specs.Fmt.{signed_decimal}
use Rattle.std.specs.Cmp.Lexicographic.{bytes_decides}
use Rattle.std.specs.Str.{bytes_eq}
use Rattle.std.specs.Str.Parse.{digits_value}
use Rattle.std.proofs.lemmas.Int.{to_z-of_z}
use Rattle.papy_base.proofs.DigitLemmas.{number_value}
use Rattle.pex_listing.specs.Left.{rule_of}
use Rattle.pex_listing.specs.Numbers.{are_digits}
use Rattle.pex_listing.proofs.FieldRules.{integer_here, integer_no_digits, integer_outside, no_fit, too_big}
use Rattle.pex_listing.proofs.fields.signed_of.Goals as goal

pub returns-then-not-is_digits-clause-rule : goal.returns-then-not-is_digits-clause-rule
returns-then-not-is_digits-clause-rule c =
    let s = c.split_minus-is_negative in
    integer_no_digits c.args.field.now s.result.0.now s.result.1 s.ensures.whole s.ensures.minus (sym c.if-not-is_digits.ensures)

pub returns-in_err-magnitude-clause-rule : goal.returns-in_err-magnitude-clause-rule
returns-in_err-magnitude-clause-rule c =
    let s = c.split_minus-is_negative in
    let digits = s.result.0.now in
    let are : are_digits digits ≡ true = sym c.if-not-is_digits.ensures in
    let big = too_big digits are c.in_err-magnitude.ensures in
    ap rule_of c.from_residual.ensures ∙ integer_outside c.args.field.now digits s.result.1 s.ensures.whole (digits_value 10 digits) are refl (no_fit s.result.1 (digits_value 10 digits) (omega arith))

pub returns-in_err-number-clause-rule : goal.returns-in_err-number-clause-rule
returns-in_err-number-clause-rule c =
    let s = c.split_minus-is_negative in
    let m = c.in_ok-magnitude.magnitude in
    let value = (number_value s.result.0.now m (sym c.in_ok-magnitude.ensures)).value in
    ap rule_of c.from_residual-in_err-number.ensures ∙ integer_outside c.args.field.now s.result.0.now s.result.1 s.ensures.whole m (sym c.if-not-is_digits.ensures) value c.in_err-number.ensures.fits

pub returns-clause-rule : goal.returns-clause-rule
returns-clause-rule c =
    let s = c.split_minus-is_negative in
    let m = c.in_ok-magnitude.magnitude in
    let n = c.in_ok-number.number in
    let fits : FitsSigned w32 n = search rules in
    let value = (number_value s.result.0.now m (sym c.in_ok-magnitude.ensures)).value in
    integer_here c.args.field.now s.result.0.now s.result.1 s.ensures.whole n m n c.is_spelling.result (sym c.if-not-is_digits.ensures) value c.in_ok-number.ensures.fits c.in_ok-number.ensures.value
    (c.is_spelling.ensures ∙ ap (λ z. bytes_eq c.args.field.now (signed_decimal z)) (to_z-of_z w32 n fits))

pub returns-clause-canonical : goal.returns-clause-canonical
returns-clause-canonical c = λ is. (bytes_decides c.args.field.now (signed_decimal (to_z w32 (of_z w32 c.in_ok-number.number)))).0 (sym c.is_spelling.ensures ∙ is)
