use Rattle.std.proofs.Common.{arith, rules, suc, [], ◌∷◌, ◌∙◌}
use Rattle.pex_values.specs.declared.values.PexVariable.{PexVariable}
use Rattle.pex_values.proofs.Sizes.{variable_size}
use Rattle.pex_listing.specs.Listing as form
use Rattle.pex_listing.proofs.Taken.{begun_more, begun_spent, ended, lines_of}
use Rattle.std.specs.Prelude.{codes, unwrap_or}
use Rattle.std.proofs.lemmas.Bool.{both_ways}
use Rattle.pex_listing.specs.Breaks.{Many, a_name, a_value, some_flags, done}
use Rattle.pex_listing.specs.Left.{view}
use Rattle.pex_listing.proofs.Opening.{part_open, line_read, read_err, variable_form}
use Rattle.pex_listing.proofs.objects.PexVariableItem.read.Goals as goal

pub returns : goal.returns
unfolding form.variable
returns c =
    let name = c.reference-name.ensures.gives in
    let kind = c.reference-kind.ensures.gives in
    let flags = c.unsigned_32-flags.ensures.taken in
    let value = c.read_datum-value.ensures.gives in
    let end = c.in_ok-next_line.ensures.ends in
    let good = value.takes.good end.good in
    let v : PexVariable = record { name = c.reference-name.result; kind = c.reference-kind.result; flags = c.unsigned_32-flags.result; value = c.read_datum-value.result } in
    record {
      holds = record { name = name.holds (kind.takes.good (flags.good good)); kind = kind.holds (flags.good good); flags = search rules; value = value.holds end.good };
      lines = lines_of (omega (arith, variable_size v)) (ended (begun_more (begun_more (begun_more (begun_more (begun_spent c.in_ok-expect.ensures.text c.spend.ensures.spends) name.takes) kind.takes) flags) value.takes) end);
      left = λ strings awaited n table good at few.
          let v = view c.args.listing.now in
          let after = Many (codes "variable" ∷ []) (suc n) ∷ awaited in
          let read =
          part_open strings awaited n v (codes "variable") good c.in_ok-expect.ensures.word few (variable_form strings (unwrap_or v.fields []))
          ∙ c.spend.ensures.pays.left strings after (a_name strings (a_name strings (some_flags (a_value strings (done [] [])))))
          ∙ (c.reference-name.ensures.tested strings table).left strings after (a_name strings (some_flags (a_value strings (done [] []))))
          ∙ (c.reference-kind.ensures.tested strings table).left strings after (some_flags (a_value strings (done [] [])))
          ∙ c.unsigned_32-flags.ensures.counted.left strings after (λ _. a_value strings (done [] []))
          ∙ (c.read_datum-value.ensures.left strings table).left strings after (done [] []) in
          line_read strings after [] _ _ read (c.in_ok-next_line.ensures.left strings after [] []);
    }

pub returns-in_err-expect-clause-left : goal.returns-in_err-expect-clause-left
returns-in_err-expect-clause-left c = λ strings awaited n table good at few. absurd (both_ways _ c.in_err-expect.ensures.missing.0 at)

pub returns-in_err-next_line-clause-left : goal.returns-in_err-next_line-clause-left
returns-in_err-next_line-clause-left c = λ strings awaited n table good at few.
    let v = view c.args.listing.now in
    let after = Many (codes "variable" ∷ []) (suc n) ∷ awaited in
    let read =
    part_open strings awaited n v (codes "variable") good c.in_ok-expect.ensures.word few (variable_form strings (unwrap_or v.fields []))
    ∙ c.spend.ensures.pays.left strings after (a_name strings (a_name strings (some_flags (a_value strings (done [] [])))))
    ∙ (c.reference-name.ensures.tested strings table).left strings after (a_name strings (some_flags (a_value strings (done [] []))))
    ∙ (c.reference-kind.ensures.tested strings table).left strings after (some_flags (a_value strings (done [] [])))
    ∙ c.unsigned_32-flags.ensures.counted.left strings after (λ _. a_value strings (done [] []))
    ∙ (c.read_datum-value.ensures.left strings table).left strings after (done [] []) in
    read_err _ _ c.in_err-next_line.field-0.0 c.from_residual-in_err-next_line.result (search rules) read (c.in_err-next_line.ensures.left strings after ([]) [])
