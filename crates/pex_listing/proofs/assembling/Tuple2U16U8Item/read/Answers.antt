use Rattle.std.proofs.Common.{arith, rules, suc, [], ◌∷◌, ◌∙◌}
use Rattle.pex_listing.proofs.Taken.{begun_more, begun_spent, ended, lines_of}
use Rattle.std.specs.Prelude.{codes, unwrap_or}
use Rattle.std.proofs.lemmas.Bool.{both_ways}
use Rattle.pex_listing.specs.Breaks.{Many, a_name, a_byte, done}
use Rattle.pex_listing.specs.Left.{view}
use Rattle.pex_listing.proofs.Opening.{part_open, line_read, read_err, flag_form}
use Rattle.pex_listing.proofs.assembling.Tuple2U16U8Item.read.Goals as goal

pub returns : goal.returns
returns c =
    let name = c.reference-name.ensures.gives in
    let index = c.unsigned_8-index.ensures.taken in
    let end = c.in_ok-next_line.ensures.ends in
    record {
      holds = record { name = name.holds (index.good end.good); index = search rules };
      lines = lines_of (omega arith) (ended (begun_more (begun_more (begun_spent c.in_ok-expect.ensures.text c.spend.ensures.spends) name.takes) index) end);
      left = λ strings awaited n table good at few.
          let v = view c.args.listing.now in
          let after = Many (codes "flag" ∷ []) (suc n) ∷ awaited in
          let read =
          part_open strings awaited n v (codes "flag") good c.in_ok-expect.ensures.word few (flag_form strings (unwrap_or v.fields []))
          ∙ c.spend.ensures.pays.left strings after (a_name strings (a_byte (done [] [])))
          ∙ (c.reference-name.ensures.tested strings table).left strings after (a_byte (done [] []))
          ∙ c.unsigned_8-index.ensures.counted.left strings after (λ _. done [] []) in
          line_read strings after [] _ _ read (c.in_ok-next_line.ensures.left strings after [] []);
    }

pub returns-in_err-expect-clause-left : goal.returns-in_err-expect-clause-left
returns-in_err-expect-clause-left c = λ strings awaited n table good at few. absurd (both_ways _ c.in_err-expect.ensures.missing.0 at)

pub returns-in_err-next_line-clause-left : goal.returns-in_err-next_line-clause-left
returns-in_err-next_line-clause-left c = λ strings awaited n table good at few.
    let v = view c.args.listing.now in
    let after = Many (codes "flag" ∷ []) (suc n) ∷ awaited in
    let read =
    part_open strings awaited n v (codes "flag") good c.in_ok-expect.ensures.word few (flag_form strings (unwrap_or v.fields []))
    ∙ c.spend.ensures.pays.left strings after (a_name strings (a_byte (done [] [])))
    ∙ (c.reference-name.ensures.tested strings table).left strings after (a_byte (done [] []))
    ∙ c.unsigned_8-index.ensures.counted.left strings after (λ _. done [] []) in
    read_err _ _ c.in_err-next_line.field-0.0 c.from_residual-in_err-next_line.result (search rules) read (c.in_err-next_line.ensures.left strings after ([]) [])
