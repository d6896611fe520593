use Rattle.std.proofs.Common.{refl, ◌∙◌}
use Rattle.std.proofs.lemmas.Bool.{false≢true}
use Rattle.pex_listing.specs.Breaks.{reference_rule}
use Rattle.pex_listing.specs.Left.{view}
use Rattle.pex_listing.specs.Spelled.{spelled_in}
use Rattle.pex_listing.proofs.Leaving.{reference_noted, tested_as}
use Rattle.pex_listing.proofs.Taken.{takes_noted}
use Rattle.pex_listing.proofs.listing.Listing.reference.Goals as goal

pub returns-in-Ok : goal.returns-in-Ok
returns-in-Ok c = record {
  gives = record {
    takes = takes_noted (spelled_in c.args.names.now c.in-Ok.place) c.field-field.ensures.cuts c.check.ensures.notes (λ is. c.in-Ok.ensures.canonical is);
    holds = λ good. c.in-Ok.ensures.known;
  };
  tested = λ strings table. record {
    left = λ s awaited form.
        tested_as (reference_rule strings) refl (view c.args.self.now) (view c.field-field.new.self) (view c.check.new.self) c.field-field.result.now c.field-field.ensures.field c.field-field.ensures.behind s awaited _ c.check.ensures.noted
        (reference_noted c.in-Ok.is_canonical c.in-Ok.place ∙ c.in-Ok.ensures.rule strings table) form;
  };
}

pub returns-in-Err : goal.returns-in-Err
returns-in-Err c = record {
  gives = record {
    takes = takes_noted (spelled_in c.args.names.now 0) c.field-field.ensures.cuts c.note.ensures.notes (λ is. absurd (false≢true is));
    holds = λ good. absurd (false≢true (c.note.ensures.notes.this good));
  };
  tested = λ strings table. record {
    left = λ s awaited form.
        tested_as (reference_rule strings) refl (view c.args.self.now) (view c.field-field.new.self) (view c.note.new.self) c.field-field.result.now c.field-field.ensures.field c.field-field.ensures.behind s awaited _ c.note.ensures.noted
        (c.in-Err.ensures.rule strings table) form;
  };
}
