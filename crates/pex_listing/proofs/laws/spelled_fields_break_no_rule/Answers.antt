use Rattle.pex_listing.proofs.Unbroken as unbroken
use Rattle.pex_listing.proofs.laws.spelled_fields_break_no_rule.Goals as goal

pub returns : goal.returns
returns c = record {
  number = unbroken.number_unbroken;
  integer = unbroken.integer_unbroken;
  digits = unbroken.digits_unbroken;
  reference = unbroken.reference_unbroken;
  string = unbroken.quoted_unbroken;
}
