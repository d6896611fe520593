use Rattle.std.proofs.Common.{vec_len, arith, suc, [], ◌∷◌, ◌∙◌, rules}
use Rattle.pex_values.specs.declared.values.PexState.{PexState}
use Rattle.pex_values.specs.Fit.{FitsFunction}
use Rattle.pex_values.specs.Plain.{plain_named, plain_state}
use Rattle.pex_values.specs.Shape.{IsShapedNamed}
use Rattle.pex_values.specs.Spelling as spell
use Rattle.pex_values.proofs.Sizes.{state_size}
use Rattle.pex_listing.specs.Listing as form
use Rattle.pex_listing.specs.Spelled.{spelled_in}
use Rattle.pex_listing.proofs.Parts.{viewed}
use Rattle.pex_listing.proofs.Taken.{begun_more, begun_spent, ended, lines_of, lines_more}
use Rattle.std.specs.Prelude.{codes, unwrap_or}
use Rattle.std.proofs.lemmas.Bool.{both_ways}
use Rattle.pex_listing.specs.Breaks.{Many, a_name, done, any_number_of}
use Rattle.pex_listing.specs.Left.{view}
use Rattle.pex_listing.proofs.Opening.{part_open, line_read, read_err, state_form}
use Rattle.pex_listing.proofs.objects.PexStateItem.read.Goals as goal

pub returns : goal.returns
unfolding form.state
returns c =
    let n = vec_len c.args.names.now.spelled in
    let spelled = spelled_in c.args.names.now in
    let name = c.reference-name.ensures.gives in
    let end = c.in_ok-next_line.ensures.ends in
    let fs = viewed (IsShapedNamed n) (λ f. FitsFunction f.1) spell.named (form.named spelled) plain_named _ _ c.in_ok-functions.functions.items c.in_ok-functions.ensures.all in
    let s : PexState = record { name = c.reference-name.result; functions = c.in_ok-functions.functions } in
    record {
      holds = (record { name = name.holds end.good; functions = fs.shaped }, record { functions = fs.counted; each = fs.fits });
      lines = lines_of (omega (arith, state_size (plain_state s))) (lines_more (ended (begun_more (begun_spent c.in_ok-expect.ensures.text c.spend.ensures.spends) name.takes) end) fs.takes);
      left = λ strings awaited n table good at few.
          let v = view c.args.listing.now in
          let after = Many (codes "state" ∷ []) (suc n) ∷ awaited in
          let read =
          part_open strings awaited n v (codes "state") good c.in_ok-expect.ensures.word few (state_form strings (unwrap_or v.fields []))
          ∙ c.spend.ensures.pays.left strings after (a_name strings (done (any_number_of (codes "function") ∷ []) []))
          ∙ (c.reference-name.ensures.tested strings table).left strings after (done (any_number_of (codes "function") ∷ []) []) in
          let line = line_read strings after (any_number_of (codes "function") ∷ []) _ _ read (c.in_ok-next_line.ensures.left strings after (any_number_of (codes "function") ∷ []) []) in
          let functions = c.in_ok-functions.ensures.left strings (after) table line.1 in
          (line.0 ∙ functions.0, functions.1);
    }

pub returns-in_err-expect-clause-left : goal.returns-in_err-expect-clause-left
returns-in_err-expect-clause-left c = λ strings awaited n table good at few. absurd (both_ways _ c.in_err-expect.ensures.missing.0 at)

pub returns-in_err-next_line-clause-left : goal.returns-in_err-next_line-clause-left
returns-in_err-next_line-clause-left c = λ strings awaited n table good at few.
    let v = view c.args.listing.now in
    let after = Many (codes "state" ∷ []) (suc n) ∷ awaited in
    let read =
    part_open strings awaited n v (codes "state") good c.in_ok-expect.ensures.word few (state_form strings (unwrap_or v.fields []))
    ∙ c.spend.ensures.pays.left strings after (a_name strings (done (any_number_of (codes "function") ∷ []) []))
    ∙ (c.reference-name.ensures.tested strings table).left strings after (done (any_number_of (codes "function") ∷ []) []) in
    read_err _ _ c.in_err-next_line.field-0.0 c.from_residual-in_err-next_line.result (search rules) read (c.in_err-next_line.ensures.left strings after (any_number_of (codes "function") ∷ []) [])

pub returns-in_err-functions-clause-left : goal.returns-in_err-functions-clause-left
returns-in_err-functions-clause-left c = λ strings awaited n table good at few.
    let v = view c.args.listing.now in
    let after = Many (codes "state" ∷ []) (suc n) ∷ awaited in
    let read =
    part_open strings awaited n v (codes "state") good c.in_ok-expect.ensures.word few (state_form strings (unwrap_or v.fields []))
    ∙ c.spend.ensures.pays.left strings after (a_name strings (done (any_number_of (codes "function") ∷ []) []))
    ∙ (c.reference-name.ensures.tested strings table).left strings after (done (any_number_of (codes "function") ∷ []) []) in
    let line = line_read strings after (any_number_of (codes "function") ∷ []) _ _ read (c.in_ok-next_line.ensures.left strings after (any_number_of (codes "function") ∷ []) []) in
    read_err _ _ c.in_err-functions.field-0.0 c.from_residual-in_err-functions.result (search rules) (line.0) (c.in_err-functions.ensures.left strings (after) table line.1)
