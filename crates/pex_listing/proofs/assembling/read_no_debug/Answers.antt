use Rattle.pex_listing.proofs.Taken.{ended}
use Rattle.std.proofs.Common.{[], ◌∷◌, refl, ap, ◌∙◌, rules}
use Rattle.std.specs.Prelude.{codes, unwrap_or}
use Rattle.std.proofs.lemmas.Bool.{both_ways}
use Rattle.pex_listing.specs.Left.{line_left, view}
use Rattle.pex_listing.proofs.Opening.{one_open, line_read, read_err, nodebug_form}
use Rattle.pex_listing.proofs.assembling.read_no_debug.Goals as goal

pub returns-clause-line : goal.returns-clause-line
returns-clause-line c = ended c.in_ok-expect.ensures.text c.in_ok-next_line.ensures.ends

pub returns-in_err-expect-clause-left : goal.returns-in_err-expect-clause-left
returns-in_err-expect-clause-left c = λ strings awaited good at. absurd (both_ways _ c.in_err-expect.ensures.missing.0 at)

pub returns-in_err-next_line-clause-left : goal.returns-in_err-next_line-clause-left
returns-in_err-next_line-clause-left c = λ strings awaited good at.
    let v = view c.args.listing.now in
    let read = one_open strings v (codes "nodebug" ∷ codes "debug" ∷ []) awaited (codes "nodebug") good c.in_ok-expect.ensures.word refl ∙ ap (λ f. line_left strings awaited f v) (nodebug_form strings (unwrap_or v.fields [])) in
    read_err _ _ c.in_err-next_line.field-0.0 c.from_residual-in_err-next_line.result (search rules) read (c.in_err-next_line.ensures.left strings awaited [] [])

pub returns-clause-left : goal.returns-clause-left
returns-clause-left c = λ strings awaited good at.
    let v = view c.args.listing.now in
    let read = one_open strings v (codes "nodebug" ∷ codes "debug" ∷ []) awaited (codes "nodebug") good c.in_ok-expect.ensures.word refl ∙ ap (λ f. line_left strings awaited f v) (nodebug_form strings (unwrap_or v.fields [])) in
    line_read strings awaited [] _ _ read (c.in_ok-next_line.ensures.left strings awaited [] [])
