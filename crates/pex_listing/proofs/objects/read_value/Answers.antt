use Rattle.std.proofs.Common.{◌≡◌, ◌++◌, List, ℕ, length, arith, sym, ap, ◌∙◌, rules}
use Rattle.std.specs.Prelude.{FitsSigned, Some, codes}
use Rattle.std.specs.Fmt.{signed_decimal}
use Rattle.std.specs.Int.{w32}
use Rattle.std.proofs.lemmas.Int.{to_z-of_z}
use Rattle.std.proofs.lemmas.Bool.{false≢true}
use Rattle.pex_listing.specs.declared.fields.ValueKind.{ValueKind}
use Rattle.pex_listing.specs.declared.fields.ValueKind.TheVariants.{Nothing, Name, Text, Integer, Real, Truth}
use Rattle.pex_listing.specs.Lines.{field}
use Rattle.pex_listing.specs.Kinds.{kind_field}
use Rattle.pex_listing.specs.Breaks.{paid}
use Rattle.pex_listing.specs.Left.{view}
use Rattle.pex_listing.proofs.Following.{cut_shorter, value_kept, value_lost}
use Rattle.pex_listing.proofs.Taken.{takes_cut, takes_is, takes_more, takes_noted}
use Rattle.pex_listing.proofs.objects.read_value.Goals as goal

kind_is : {kind this : ValueKind} {fields : List ℕ} → kind ≡ this → kind_field kind ≡ fields → kind_field this ≡ fields
kind_is is has = sym (ap kind_field is) ∙ has

pub returns-in-Nothing-clause-gives : goal.returns-in-Nothing-clause-gives
returns-in-Nothing-clause-gives c = record { takes = takes_cut (kind_is c.in-Nothing.is c.in-Some.ensures.spelled) c.field-word.ensures.cuts; holds = λ good. tt }

pub returns-in-Name-clause-gives : goal.returns-in-Name-clause-gives
returns-in-Name-clause-gives c = record { takes = takes_more (takes_cut (kind_is c.in-Name.is c.in-Some.ensures.spelled) c.field-word.ensures.cuts) c.reference.ensures.gives.takes; holds = c.reference.ensures.gives.holds }

pub returns-in-Text-clause-gives : goal.returns-in-Text-clause-gives
returns-in-Text-clause-gives c = record { takes = takes_more (takes_cut (kind_is c.in-Text.is c.in-Some.ensures.spelled) c.field-word.ensures.cuts) c.reference-in-Text.ensures.gives.takes; holds = c.reference-in-Text.ensures.gives.holds }

pub returns-in-Integer-clause-gives : goal.returns-in-Integer-clause-gives
returns-in-Integer-clause-gives c =
    let fits : FitsSigned w32 c.signed.result = search rules in
    record {
      takes = takes_is (ap (λ z. codes " int" ++ field (signed_decimal z)) (sym (to_z-of_z w32 c.signed.result fits))) (takes_more (takes_cut (kind_is c.in-Integer.is c.in-Some.ensures.spelled) c.field-word.ensures.cuts) c.signed.ensures.taken);
      holds = λ good. search rules;
    }

pub returns-in-Real-clause-gives : goal.returns-in-Real-clause-gives
returns-in-Real-clause-gives c = record { takes = takes_more (takes_cut (kind_is c.in-Real.is c.in-Some.ensures.spelled) c.field-word.ensures.cuts) c.hexadecimal.ensures.taken; holds = λ good. search rules }

pub returns-in-Truth-clause-gives : goal.returns-in-Truth-clause-gives
returns-in-Truth-clause-gives c = record { takes = takes_more (takes_cut (kind_is c.in-Truth.is c.in-Some.ensures.spelled) c.field-word.ensures.cuts) c.unsigned_8.ensures.taken; holds = λ good. search rules }

pub returns-in_default-clause-gives : goal.returns-in_default-clause-gives
returns-in_default-clause-gives c = record { takes = takes_noted (codes "none") c.field-word.ensures.cuts c.note.ensures.notes (λ is. absurd (false≢true is)); holds = λ good. tt }

pub returns-in-Nothing-clause-left : goal.returns-in-Nothing-clause-left
returns-in-Nothing-clause-left c = λ strings table. record {
  left = λ s awaited form.
      value_kept strings s awaited form (view c.args.listing.now) (view c.field-word.new.self) c.field-word.result.now c.field-word.ensures.field c.field-word.ensures.behind Nothing (sym c.in-Some.ensures.kind ∙ ap Some c.in-Nothing.is);
}

pub returns-in-Name-clause-left : goal.returns-in-Name-clause-left
returns-in-Name-clause-left c = λ strings table. record {
  left = λ s awaited form.
      value_kept strings s awaited form (view c.args.listing.now) (view c.field-word.new.self) c.field-word.result.now c.field-word.ensures.field c.field-word.ensures.behind Name (sym c.in-Some.ensures.kind ∙ ap Some c.in-Name.is) ∙ (c.reference.ensures.tested strings table).left s awaited (paid 3 form);
}

pub returns-in-Text-clause-left : goal.returns-in-Text-clause-left
returns-in-Text-clause-left c = λ strings table. record {
  left = λ s awaited form.
      value_kept strings s awaited form (view c.args.listing.now) (view c.field-word.new.self) c.field-word.result.now c.field-word.ensures.field c.field-word.ensures.behind Text (sym c.in-Some.ensures.kind ∙ ap Some c.in-Text.is) ∙ (c.reference-in-Text.ensures.tested strings table).left s awaited (paid 3 form);
}

pub returns-in-Integer-clause-left : goal.returns-in-Integer-clause-left
returns-in-Integer-clause-left c = λ strings table. record {
  left = λ s awaited form.
      value_kept strings s awaited form (view c.args.listing.now) (view c.field-word.new.self) c.field-word.result.now c.field-word.ensures.field c.field-word.ensures.behind Integer (sym c.in-Some.ensures.kind ∙ ap Some c.in-Integer.is) ∙ c.signed.ensures.tested.left s awaited (paid 5 form);
}

pub returns-in-Real-clause-left : goal.returns-in-Real-clause-left
returns-in-Real-clause-left c = λ strings table. record {
  left = λ s awaited form.
      value_kept strings s awaited form (view c.args.listing.now) (view c.field-word.new.self) c.field-word.result.now c.field-word.ensures.field c.field-word.ensures.behind Real (sym c.in-Some.ensures.kind ∙ ap Some c.in-Real.is) ∙ c.hexadecimal.ensures.tested.left s awaited (paid 5 form);
}

pub returns-in-Truth-clause-left : goal.returns-in-Truth-clause-left
returns-in-Truth-clause-left c = λ strings table. record {
  left = λ s awaited form.
      value_kept strings s awaited form (view c.args.listing.now) (view c.field-word.new.self) c.field-word.result.now c.field-word.ensures.field c.field-word.ensures.behind Truth (sym c.in-Some.ensures.kind ∙ ap Some c.in-Truth.is) ∙ c.unsigned_8.ensures.counted.left s awaited (λ _. paid 2 form);
}

pub returns-in_default-clause-left : goal.returns-in_default-clause-left
returns-in_default-clause-left c = λ strings table. record {
  left = λ s awaited form.
      value_lost strings s awaited form (view c.args.listing.now) (view c.field-word.new.self) c.field-word.result.now c.field-word.ensures.field c.field-word.ensures.behind (paid 1 form) (view c.note.new.self) (sym c.in_default.ensures.kind) c.note.ensures.noted;
}

pub returns-in-Nothing-clause-shorter : goal.returns-in-Nothing-clause-shorter
returns-in-Nothing-clause-shorter c = λ has. let cut = cut_shorter c.args.listing.now c.field-word.new.self c.field-word.ensures.behind has in omega (arith, cut)

pub returns-in-Name-clause-shorter : goal.returns-in-Name-clause-shorter
returns-in-Name-clause-shorter c = λ has. let cut = cut_shorter c.args.listing.now c.field-word.new.self c.field-word.ensures.behind has in omega (arith, cut, c.reference.ensures.gives.takes.shorter)

pub returns-in-Text-clause-shorter : goal.returns-in-Text-clause-shorter
returns-in-Text-clause-shorter c = λ has. let cut = cut_shorter c.args.listing.now c.field-word.new.self c.field-word.ensures.behind has in omega (arith, cut, c.reference-in-Text.ensures.gives.takes.shorter)

pub returns-in-Integer-clause-shorter : goal.returns-in-Integer-clause-shorter
returns-in-Integer-clause-shorter c = λ has. let cut = cut_shorter c.args.listing.now c.field-word.new.self c.field-word.ensures.behind has in omega (arith, cut, c.signed.ensures.taken.shorter)

pub returns-in-Real-clause-shorter : goal.returns-in-Real-clause-shorter
returns-in-Real-clause-shorter c = λ has. let cut = cut_shorter c.args.listing.now c.field-word.new.self c.field-word.ensures.behind has in omega (arith, cut, c.hexadecimal.ensures.taken.shorter)

pub returns-in-Truth-clause-shorter : goal.returns-in-Truth-clause-shorter
returns-in-Truth-clause-shorter c = λ has. let cut = cut_shorter c.args.listing.now c.field-word.new.self c.field-word.ensures.behind has in omega (arith, cut, c.unsigned_8.ensures.taken.shorter)

pub returns-in_default-clause-shorter : goal.returns-in_default-clause-shorter
returns-in_default-clause-shorter c = λ has. let cut = cut_shorter c.args.listing.now c.field-word.new.self c.field-word.ensures.behind has in omega (arith, cut, ap length c.note.ensures.notes.fields)
