use Rattle.std.proofs.Common.{◌≡◌, ◌&&◌, get_or, ap, ◌∙◌, length, arith}
use Rattle.std.specs.Prelude.{IsTrue}
use Rattle.pex_listing.specs.Breaks.{digits_rule}
use Rattle.pex_listing.specs.Left.{rule_of}
use Rattle.pex_listing.proofs.FieldRules.{digits_here, fourth_bad, second_bad, third_bad}
use Rattle.pex_listing.proofs.Spelt.{eight_of, eight_spelled}
use Rattle.pex_listing.proofs.fields.hex_bytes.Goals as goal

pub returns-in_err-second-clause-rule : goal.returns-in_err-second-clause-rule
returns-in_err-second-clause-rule c =
    let xs = c.args.digits.now in
    let long : length xs ≡ 8 = omega (arith, c.in-len8.len_at_least, c.in-len8.len_below) in
    ap rule_of c.from_residual-in_err-second.ensures
    ∙ second_bad (get_or xs 0 0) (get_or xs 1 0) (get_or xs 2 0) (get_or xs 3 0) (get_or xs 4 0) (get_or xs 5 0) (get_or xs 6 0) (get_or xs 7 0) c.in_err-second.ensures.value
    ∙ ap digits_rule (eight_of xs long)

pub returns-in_err-third-clause-rule : goal.returns-in_err-third-clause-rule
returns-in_err-third-clause-rule c =
    let xs = c.args.digits.now in
    let long : length xs ≡ 8 = omega (arith, c.in-len8.len_at_least, c.in-len8.len_below) in
    ap rule_of c.from_residual-in_err-third.ensures
    ∙ third_bad (get_or xs 0 0) (get_or xs 1 0) (get_or xs 2 0) (get_or xs 3 0) (get_or xs 4 0) (get_or xs 5 0) (get_or xs 6 0) (get_or xs 7 0) c.in_err-third.ensures.value
    ∙ ap digits_rule (eight_of xs long)

pub returns-in_err-fourth-clause-rule : goal.returns-in_err-fourth-clause-rule
returns-in_err-fourth-clause-rule c =
    let xs = c.args.digits.now in
    let long : length xs ≡ 8 = omega (arith, c.in-len8.len_at_least, c.in-len8.len_below) in
    ap rule_of c.from_residual-in_err-fourth.ensures
    ∙ fourth_bad (get_or xs 0 0) (get_or xs 1 0) (get_or xs 2 0) (get_or xs 3 0) (get_or xs 4 0) (get_or xs 5 0) (get_or xs 6 0) (get_or xs 7 0) c.in_err-fourth.ensures.value
    ∙ ap digits_rule (eight_of xs long)

pub returns-clause-rule : goal.returns-clause-rule
returns-clause-rule c =
    let xs = c.args.digits.now in
    let first = c.in_ok-first.first in
    let second = c.in_ok-second.second in
    let third = c.in_ok-third.third in
    let fourth = c.in_ok-fourth.fourth in
    let long : length xs ≡ 8 = omega (arith, c.in-len8.len_at_least, c.in-len8.len_below) in
    digits_here (get_or xs 0 0) (get_or xs 1 0) (get_or xs 2 0) (get_or xs 3 0) (get_or xs 4 0) (get_or xs 5 0) (get_or xs 6 0) (get_or xs 7 0) first.0 c.both-is_lower.result first.0 second.0 third.0 fourth.0
    c.in_ok-first.ensures.value c.in_ok-second.ensures.value c.in_ok-third.ensures.value c.in_ok-fourth.ensures.value
    (cc (c.both.ensures, c.both-2.ensures, c.both-is_lower.ensures, c.in_ok-first.ensures.lower, c.in_ok-second.ensures.lower, c.in_ok-third.ensures.lower, c.in_ok-fourth.ensures.lower))
    ∙ ap digits_rule (eight_of xs long)

pub returns-clause-canonical : goal.returns-clause-canonical
returns-clause-canonical c =
    let first = c.in_ok-first.first in
    let second = c.in_ok-second.second in
    let third = c.in_ok-third.third in
    let fourth = c.in_ok-fourth.fourth in
    let long : length c.args.digits.now ≡ 8 = omega (arith, c.in-len8.len_at_least, c.in-len8.len_below) in
    λ is.
    let lower : IsTrue ((first.1 && second.1) && (third.1 && fourth.1)) = cc (c.both.ensures, c.both-2.ensures, c.both-is_lower.ensures, is) in
    eight_spelled first second third fourth _ _ _ _ _ _ _ _ c.in_ok-first.ensures.canonical c.in_ok-second.ensures.canonical c.in_ok-third.ensures.canonical c.in_ok-fourth.ensures.canonical lower ∙ eight_of c.args.digits.now long
