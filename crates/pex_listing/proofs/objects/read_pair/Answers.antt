use Rattle.std.proofs.Common.{arith, suc, [], ◌∷◌, ◌∙◌, rules}
use Rattle.pex_listing.proofs.Taken.{begun_more, begun_spent, ended, lines_of}
use Rattle.std.specs.Prelude.{unwrap_or}
use Rattle.std.proofs.lemmas.Bool.{both_ways}
use Rattle.pex_listing.specs.Breaks.{Many, a_name, done}
use Rattle.pex_listing.specs.Left.{view}
use Rattle.pex_listing.proofs.Opening.{part_open, line_read, read_err}
use Rattle.pex_listing.proofs.objects.read_pair.Goals as goal

pub returns : goal.returns
returns c =
    let end = c.in_ok-next_line.ensures.ends in
    let name = c.reference-name.ensures.gives in
    let kind = c.reference-kind.ensures.gives in
    record {
      holds = record { name = name.holds (kind.takes.good end.good); kind = kind.holds end.good };
      line = lines_of (omega arith) (ended (begun_more (begun_more (begun_spent c.in_ok-expect.ensures.text c.spend.ensures.spends) name.takes) kind.takes) end);
      left = λ forms strings awaited n table good at few.
          let v = view c.args.listing.now in
          let after = Many (c.args.word.now ∷ []) (suc n) ∷ awaited in
          let read =
          part_open strings awaited n v c.args.word.now good c.in_ok-expect.ensures.word few (forms strings (unwrap_or v.fields []))
          ∙ c.spend.ensures.pays.left strings after (a_name strings (a_name strings (done [] [])))
          ∙ (c.reference-name.ensures.tested strings table).left strings after (a_name strings (done [] []))
          ∙ (c.reference-kind.ensures.tested strings table).left strings after (done [] []) in
          line_read strings after [] _ _ read (c.in_ok-next_line.ensures.left strings after [] []);
    }

pub returns-in_err-expect-clause-left : goal.returns-in_err-expect-clause-left
returns-in_err-expect-clause-left c = λ forms strings awaited n table good at few. absurd (both_ways _ c.in_err-expect.ensures.missing.0 at)

pub returns-in_err-next_line-clause-left : goal.returns-in_err-next_line-clause-left
returns-in_err-next_line-clause-left c = λ forms strings awaited n table good at few.
    let v = view c.args.listing.now in
    let after = Many (c.args.word.now ∷ []) (suc n) ∷ awaited in
    let read =
    part_open strings awaited n v c.args.word.now good c.in_ok-expect.ensures.word few (forms strings (unwrap_or v.fields []))
    ∙ c.spend.ensures.pays.left strings after (a_name strings (a_name strings (done [] [])))
    ∙ (c.reference-name.ensures.tested strings table).left strings after (a_name strings (done [] []))
    ∙ (c.reference-kind.ensures.tested strings table).left strings after (done [] []) in
    read_err _ _ c.in_err-next_line.field-0.0 c.from_residual-in_err-next_line.result (search rules) read (c.in_err-next_line.ensures.left strings after [] [])
