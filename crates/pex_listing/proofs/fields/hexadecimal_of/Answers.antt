use Rattle.std.proofs.Common.{◌≡◌, sym, ap, ◌∙◌, rules}
use Rattle.std.specs.List.{flat_map}
use Rattle.std.proofs.lemmas.Nat.{be_bytes_4}
use Rattle.pex_values.specs.Spelling.{four_bytes}
use Rattle.pex_listing.specs.Lines.{two_digits}
use Rattle.pex_listing.proofs.fields.hexadecimal_of.Goals as goal

pub returns-clause-canonical : goal.returns-clause-canonical
returns-clause-canonical c =
    let n = c.from_be_bytes.result in
    let bytes = c.in_ok-bytes.bytes in
    let back : four_bytes n ≡ bytes = be_bytes_4 bytes n (search rules) (search rules) c.from_be_bytes.ensures in
    λ is. sym (c.in_ok-bytes.ensures.canonical is) ∙ ap (flat_map two_digits) (sym back)
