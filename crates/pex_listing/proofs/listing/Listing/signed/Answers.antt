use Rattle.std.proofs.Common.{pos, refl, sym, ap, ◌∙◌, to_z, of_z, w32, rules}
use Rattle.std.specs.Prelude.{FitsSigned}
use Rattle.std.proofs.lemmas.Int.{to_z-of_z}
use Rattle.std.proofs.lemmas.Bool.{false≢true}
use Rattle.std.specs.Fmt.{signed_decimal}
use Rattle.pex_listing.specs.Breaks.{integer_rule}
use Rattle.pex_listing.specs.Left.{view}
use Rattle.pex_listing.proofs.Leaving.{tested_as, tested_some}
use Rattle.pex_listing.proofs.Taken.{takes_noted}
use Rattle.pex_listing.proofs.listing.Listing.signed.Goals as goal

pub returns-in-Some : goal.returns-in-Some
returns-in-Some c =
    let n = c.in-Some.number in
    let fits : FitsSigned w32 n = search rules in
    record {
      taken = takes_noted (signed_decimal (to_z w32 (of_z w32 n))) c.field-field.ensures.cuts c.check.ensures.notes (λ is. c.in-Some.ensures.canonical is ∙ ap signed_decimal (sym (to_z-of_z w32 n fits)));
      tested = record {
        left = λ strings awaited form.
            tested_some integer_rule refl (view c.args.self.now) (view c.field-field.new.self) (view c.check.new.self) c.field-field.result.now c.field-field.ensures.field c.field-field.ensures.behind strings awaited n c.in-Some.is_canonical
            c.check.ensures.noted c.in-Some.ensures.rule form;
      };
    }

pub returns-in-None : goal.returns-in-None
returns-in-None c = record {
  taken = takes_noted (signed_decimal (pos 0)) c.field-field.ensures.cuts c.note.ensures.notes (λ is. absurd (false≢true is));
  tested = record {
    left = λ strings awaited form.
        tested_as integer_rule refl (view c.args.self.now) (view c.field-field.new.self) (view c.note.new.self) c.field-field.result.now c.field-field.ensures.field c.field-field.ensures.behind strings awaited _ c.note.ensures.noted c.in-None.ensures.rule form;
  };
}
