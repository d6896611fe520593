use Rattle.std.proofs.Common.{refl, sym, ◌∙◌, arith}
use Rattle.pex_listing.proofs.FieldRules.{unknown_place}
use Rattle.pex_listing.proofs.fields.reference_of.Goals as goal

pub returns-in-None-clause-rule : goal.returns-in-None-clause-rule
returns-in-None-clause-rule c = λ strings table.
    sym (unknown_place strings c.args.field.now c.in_ok-place_of.field-0 c.in_ok-place.place c.in_ok-place.ensures.value (omega (arith, c.in-None.ensures.unknown refl, table.count))) ∙ c.in_ok-place_of.ensures strings table
