use Rattle.std.proofs.Common.{ℕ, arith, suc, [], ◌∷◌, ◌∙◌, rules}
use Rattle.pex_values.specs.declared.values.PexFunction.{PexFunction}
use Rattle.pex_values.specs.Plain.{plain_named}
use Rattle.pex_values.proofs.Sizes.{named_size}
use Rattle.pex_listing.proofs.Taken.{begun_more, begun_spent}
use Rattle.std.specs.Prelude.{codes, unwrap_or}
use Rattle.std.proofs.lemmas.Bool.{both_ways}
use Rattle.pex_listing.specs.Breaks.{Many, a_name, function_line}
use Rattle.pex_listing.specs.Left.{view}
use Rattle.pex_listing.proofs.Opening.{part_open, read_err, named_form}
use Rattle.pex_listing.proofs.objects.Tuple2U16PexFunctionItem.read.Goals as goal

pub returns : goal.returns
returns c =
    let f : ℕ × PexFunction = (c.reference-name.result, c.in_ok-function.function) in
    let name = c.reference-name.ensures.gives in
    let got = c.in_ok-function.ensures in
    record {
      holds = (record { name = name.holds got.good; function = got.holds.0 }, got.holds.1);
      lines = got.lines _ _ _ _ (begun_more (begun_spent c.in_ok-expect.ensures.text c.spend.ensures.spends) name.takes) (omega (arith, named_size (plain_named f)));
      left = λ strings awaited n table good at few.
          let v = view c.args.listing.now in
          let after = Many (codes "function" ∷ []) (suc n) ∷ awaited in
          let read =
          part_open strings awaited n v (codes "function") good c.in_ok-expect.ensures.word few (named_form strings (unwrap_or v.fields []))
          ∙ c.spend.ensures.pays.left strings after (a_name strings (function_line strings))
          ∙ (c.reference-name.ensures.tested strings table).left strings after (function_line strings) in
          let told = got.left strings after table in
          (read ∙ told.0, told.1);
    }

pub returns-in_err-expect-clause-left : goal.returns-in_err-expect-clause-left
returns-in_err-expect-clause-left c = λ strings awaited n table good at few. absurd (both_ways _ c.in_err-expect.ensures.missing.0 at)

pub returns-in_err-function-clause-left : goal.returns-in_err-function-clause-left
returns-in_err-function-clause-left c = λ strings awaited n table good at few.
    let v = view c.args.listing.now in
    let after = Many (codes "function" ∷ []) (suc n) ∷ awaited in
    let read =
    part_open strings awaited n v (codes "function") good c.in_ok-expect.ensures.word few (named_form strings (unwrap_or v.fields []))
    ∙ c.spend.ensures.pays.left strings after (a_name strings (function_line strings))
    ∙ (c.reference-name.ensures.tested strings table).left strings after (function_line strings) in
    read_err _ _ c.in_err-function.field-0.0 c.from_residual-in_err-function.result (search rules) read (c.in_err-function.ensures.left strings after table)
