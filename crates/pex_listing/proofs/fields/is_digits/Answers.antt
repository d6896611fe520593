use Rattle.std.proofs.Common.{◌<◌, ◌&&◌, length, sym, ap, ◌∙◌, arith}
use Rattle.std.specs.Char.{is_ascii_digit}
use Rattle.std.specs.List.{list_all}
use Rattle.std.proofs.lemmas.Bool.{lt-ltb}
use Rattle.std.proofs.lemmas.Bool.Decides.{nat_tests}
use Rattle.pex_listing.proofs.fields.is_digits.Goals as goal

pub returns-then-not-is_empty : goal.returns-then-not-is_empty
returns-then-not-is_empty c =
    let bytes = c.args.bytes.now in
    let some : 0 < length bytes = grind (arith, nat_tests) in
    c.each_is_digit.ensures ∙ sym (ap (λ t. t && list_all is_ascii_digit bytes) (lt-ltb 0 (length bytes) some))
