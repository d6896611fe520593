use Rattle.std.proofs.Common.{refl}
use Rattle.std.proofs.lemmas.Bool.{false≢true}
use Rattle.pex_listing.specs.Breaks.{digits_rule}
use Rattle.pex_listing.specs.Left.{view}
use Rattle.pex_listing.specs.Lines.{eight_digits}
use Rattle.pex_listing.proofs.Leaving.{tested_as, tested_some}
use Rattle.pex_listing.proofs.Taken.{takes_noted}
use Rattle.pex_listing.proofs.listing.Listing.hexadecimal.Goals as goal

pub returns-in-Some : goal.returns-in-Some
returns-in-Some c = record {
  taken = takes_noted (eight_digits c.in-Some.number) c.field-field.ensures.cuts c.check.ensures.notes (λ is. c.in-Some.ensures.canonical is);
  tested = record {
    left = λ strings awaited form.
        tested_some digits_rule refl (view c.args.self.now) (view c.field-field.new.self) (view c.check.new.self) c.field-field.result.now c.field-field.ensures.field c.field-field.ensures.behind strings awaited c.in-Some.number c.in-Some.is_canonical
        c.check.ensures.noted c.in-Some.ensures.rule form;
  };
}

pub returns-in-None : goal.returns-in-None
returns-in-None c = record {
  taken = takes_noted (eight_digits 0) c.field-field.ensures.cuts c.note.ensures.notes (λ is. absurd (false≢true is));
  tested = record {
    left = λ strings awaited form.
        tested_as digits_rule refl (view c.args.self.now) (view c.field-field.new.self) (view c.note.new.self) c.field-field.result.now c.field-field.ensures.field c.field-field.ensures.behind strings awaited _ c.note.ensures.noted c.in-None.ensures.rule form;
  };
}
