use Rattle.std.proofs.Common.{Ok, sym, ap, ◌∙◌}
use Rattle.pex_listing.specs.Fields.{place_rule}
use Rattle.pex_listing.specs.Numbers.{are_digits}
use Rattle.pex_listing.specs.Spelled.{two_byte}
use Rattle.papy_base.specs.Digits.{decimal_number}
use Rattle.pex_listing.proofs.FieldRules.{no_reference, sign_alone, sign_place, sign_shown, no_sign, word_place}
use Rattle.pex_listing.proofs.fields.place_of.Goals as goal

pub returns-then-is_word : goal.returns-then-is_word
returns-then-is_word c = λ strings table.
    ap (λ o. place_rule strings c.args.field.now (Ok o)) (c.place_of.ensures ∙ ap two_byte (table.words c.args.field.now (sym c.if-is_word.ensures))) ∙ word_place strings c.args.field.now table.few (sym c.if-is_word.ensures)

pub returns-in_default : goal.returns-in_default
returns-in_default c = λ strings table. no_reference strings c.args.field.now (sym c.if-is_word.ensures) (no_sign c.args.field.now c.in_default.ensures)

pub returns-then-not-is_digits : goal.returns-then-not-is_digits
returns-then-not-is_digits c =
    let s = sign_shown c.args.field.now c.in-Some.digits.now c.in-Some.ensures in
    λ strings table. sign_alone strings c.args.field.now (sym c.if-is_word.ensures) (ap are_digits (sym s.1) ∙ sym c.if-not-is_digits.ensures)

pub returns : goal.returns
returns c =
    let s = sign_shown c.args.field.now c.in-Some.digits.now c.in-Some.ensures in
    λ strings table.
    ap (λ o. place_rule strings c.args.field.now (Ok o)) (c.small_number.ensures ∙ ap (λ d. two_byte (decimal_number d)) s.1)
    ∙ sign_place strings c.args.field.now table.few s.0 (ap are_digits (sym s.1) ∙ sym c.if-not-is_digits.ensures)
