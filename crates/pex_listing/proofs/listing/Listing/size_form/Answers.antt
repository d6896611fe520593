use Rattle.std.proofs.Common.{refl, sym}
use Rattle.std.specs.Prelude.{codes}
use Rattle.std.proofs.lemmas.Bool.{false≢true}
use Rattle.pex_listing.specs.Breaks.{size_rule}
use Rattle.pex_listing.specs.Left.{view}
use Rattle.pex_listing.proofs.Leaving.{field_kept, tested_as}
use Rattle.pex_listing.proofs.Taken.{takes_cut, takes_noted}
use Rattle.pex_listing.proofs.listing.Listing.size_form.Goals as goal

pub returns-in-Some : goal.returns-in-Some
returns-in-Some c = record {
  taken = takes_cut c.in-Some.ensures.spelled c.field-word.ensures.cuts;
  tested = record {
    left = λ strings awaited form.
        field_kept size_rule refl (view c.args.self.now) (view c.field-word.new.self) c.field-word.result.now c.field-word.ensures.field c.field-word.ensures.behind strings awaited c.in-Some.ensures.rule form;
  };
}

pub returns-in-None : goal.returns-in-None
returns-in-None c = record {
  taken = takes_noted (codes "bare") c.field-word.ensures.cuts c.note.ensures.notes (λ is. absurd (false≢true is));
  tested = record {
    left = λ strings awaited form.
        tested_as size_rule refl (view c.args.self.now) (view c.field-word.new.self) (view c.note.new.self) c.field-word.result.now c.field-word.ensures.field c.field-word.ensures.behind strings awaited _ c.note.ensures.noted (sym c.in-None.ensures.rule) form;
  };
}
