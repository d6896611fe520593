use Rattle.std.proofs.Common.{◌≡◌, ◌+◌, length, sym, ap, ◌∙◌, arith}
use Rattle.pex_values.specs.Spelling as spell
use Rattle.pex_listing.specs.Breaks.{paid}
use Rattle.pex_listing.specs.Left.{line_left, view}
use Rattle.pex_listing.proofs.Taken.{takes_spent, takes_as}
use Rattle.pex_listing.proofs.objects.read_datum.Goals as goal

pub returns-clause-gives : goal.returns-clause-gives
returns-clause-gives c =
    let value = c.read_value-value.ensures.gives in
    let size : 0 + c.size_of.result ≡ length (spell.datum c.read_value-value.result) = omega (arith, c.size_of.ensures) in
    record {
      takes = takes_as size (takes_spent value.takes c.spend.ensures.spends);
      holds = λ good. value.holds (c.spend.ensures.spends.good good);
    }

pub returns-clause-left : goal.returns-clause-left
returns-clause-left c = λ strings table. record {
  left = λ s awaited form.
      (c.read_value-value.ensures.left strings table).left s awaited form
      ∙ ap (λ n. line_left s awaited (paid n form) (view c.read_value-value.new.listing)) (sym c.size_of.ensures)
      ∙ c.spend.ensures.pays.left s awaited form;
}

pub returns-clause-shorter : goal.returns-clause-shorter
returns-clause-shorter c = λ has. let value = c.read_value-value.ensures.shorter has in omega (arith, value, ap length c.spend.ensures.spends.fields)
