use Rattle.std.proofs.Common.{arith, rules, suc, [], ◌∷◌, ◌∙◌}
use Rattle.pex_values.specs.declared.debug.PexLines.{PexLines}
use Rattle.pex_values.specs.Plain.{plain_lines}
use Rattle.pex_values.proofs.Sizes.{lines_size}
use Rattle.pex_listing.specs.Listing as form
use Rattle.pex_listing.proofs.Taken.{begun_more, begun_spent, ended, lines_of}
use Rattle.std.specs.Prelude.{codes, unwrap_or}
use Rattle.std.proofs.lemmas.Bool.{both_ways}
use Rattle.pex_listing.specs.Breaks.{Many, a_name, a_byte, numbers}
use Rattle.pex_listing.specs.Left.{view}
use Rattle.pex_listing.proofs.Opening.{part_open, line_read, read_err, lines_form}
use Rattle.pex_listing.proofs.assembling.PexLinesItem.read.Goals as goal

pub returns : goal.returns
unfolding form.lines
returns c =
    let object = c.reference-object.ensures.gives in
    let state = c.reference-state.ensures.gives in
    let function = c.reference-function.ensures.gives in
    let kind = c.unsigned_8-kind.ensures.taken in
    let ns = c.in_ok-lines.ensures.gives in
    let end = c.in_ok-next_line.ensures.ends in
    let good = kind.good (ns.takes.good end.good) in
    let held = ns.holds end.good in
    let e : PexLines = record { object = c.reference-object.result; state = c.reference-state.result; function = c.reference-function.result; kind = c.unsigned_8-kind.result; lines = c.in_ok-lines.lines } in
    record {
      holds = (record { object = object.holds (state.takes.good (function.takes.good good)); state = state.holds (function.takes.good good); function = function.holds good; kind = search rules; lines = held.1 }, held.0);
      lines = lines_of (omega (arith, lines_size (plain_lines e)))
          (ended (begun_more (begun_more (begun_more (begun_more (begun_more (begun_spent c.in_ok-expect.ensures.text c.spend.ensures.spends) object.takes) state.takes) function.takes) kind) ns.takes) end);
      left = λ strings awaited n table good at few.
          let v = view c.args.listing.now in
          let after = Many (codes "lines" ∷ []) (suc n) ∷ awaited in
          let read =
          part_open strings awaited n v (codes "lines") good c.in_ok-expect.ensures.word few (lines_form strings (unwrap_or v.fields []))
          ∙ c.spend.ensures.pays.left strings after (a_name strings (a_name strings (a_name strings (a_byte (numbers 65535)))))
          ∙ (c.reference-object.ensures.tested strings table).left strings after (a_name strings (a_name strings (a_byte (numbers 65535))))
          ∙ (c.reference-state.ensures.tested strings table).left strings after (a_name strings (a_byte (numbers 65535)))
          ∙ (c.reference-function.ensures.tested strings table).left strings after (a_byte (numbers 65535))
          ∙ c.unsigned_8-kind.ensures.counted.left strings after (λ _. numbers 65535)
          ∙ c.in_ok-lines.ensures.left.left strings after tt in
          line_read strings after [] _ _ read (c.in_ok-next_line.ensures.left strings after [] []);
    }

pub returns-in_err-expect-clause-left : goal.returns-in_err-expect-clause-left
returns-in_err-expect-clause-left c = λ strings awaited n table good at few. absurd (both_ways _ c.in_err-expect.ensures.missing.0 at)

pub returns-in_err-next_line-clause-left : goal.returns-in_err-next_line-clause-left
returns-in_err-next_line-clause-left c = λ strings awaited n table good at few.
    let v = view c.args.listing.now in
    let after = Many (codes "lines" ∷ []) (suc n) ∷ awaited in
    let read =
    part_open strings awaited n v (codes "lines") good c.in_ok-expect.ensures.word few (lines_form strings (unwrap_or v.fields []))
    ∙ c.spend.ensures.pays.left strings after (a_name strings (a_name strings (a_name strings (a_byte (numbers 65535)))))
    ∙ (c.reference-object.ensures.tested strings table).left strings after (a_name strings (a_name strings (a_byte (numbers 65535))))
    ∙ (c.reference-state.ensures.tested strings table).left strings after (a_name strings (a_byte (numbers 65535)))
    ∙ (c.reference-function.ensures.tested strings table).left strings after (a_byte (numbers 65535))
    ∙ c.unsigned_8-kind.ensures.counted.left strings after (λ _. numbers 65535)
    ∙ c.in_ok-lines.ensures.left.left strings after tt in
    read_err _ _ c.in_err-next_line.field-0.0 c.from_residual-in_err-next_line.result (search rules) read (c.in_err-next_line.ensures.left strings after ([]) [])
