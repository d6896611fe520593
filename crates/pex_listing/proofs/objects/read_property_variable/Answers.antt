use Rattle.std.proofs.Common.{◌≡◌, true, false, ap, ◌∙◌, rules}
use Rattle.pex_listing.specs.Breaks.{a_name, own_variable}
use Rattle.pex_listing.specs.Left.{line_left, view}
use Rattle.pex_values.specs.Bits.{has_variable}
use Rattle.pex_listing.proofs.objects.read_property_variable.Goals as goal

pub returns-then-not-has_variable-clause-left : goal.returns-then-not-has_variable-clause-left
returns-then-not-has_variable-clause-left c = λ strings table. record {
  left = λ s awaited form. let no : has_variable c.args.bits ≡ false = search rules in ap (λ b. line_left s awaited (own_variable strings b form) (view c.args.listing.now)) no;
}

pub returns-clause-left : goal.returns-clause-left
returns-clause-left c = λ strings table. record {
  left = λ s awaited form.
      let is : has_variable c.args.bits ≡ true = search rules in
      ap (λ b. line_left s awaited (own_variable strings b form) (view c.args.listing.now)) is
      ∙ c.spend.ensures.pays.left s awaited (a_name strings form)
      ∙ (c.reference.ensures.tested strings table).left s awaited form;
}
