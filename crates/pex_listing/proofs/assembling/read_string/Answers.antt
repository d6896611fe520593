use Rattle.std.proofs.Common.{append_assoc, ap, length, arith, [], sym, ◌∙◌, rules}
use Rattle.pex_listing.proofs.Taken.{begun_more, begun_spent, ended, lines_as}
use Rattle.std.specs.Prelude.{unwrap_or}
use Rattle.pex_listing.specs.Breaks.{done, paid, a_string, left_after}
use Rattle.pex_listing.specs.Left.{line_left, missing_by, view}
use Rattle.pex_listing.proofs.Opening.{open_line, read_err, expect_err, memory_err}
use Rattle.pex_listing.proofs.assembling.read_string.Goals as goal

pub returns-clause-line : goal.returns-clause-line
returns-clause-line c =
    lines_as (simp append_assoc) (omega (arith, ap length c.as_bytes.ensures)) (ended (begun_spent (begun_more (begun_spent c.in_ok-expect.ensures.text c.spend.ensures.spends) c.in_ok-text.ensures.taken) c.spend-2.ensures.spends) c.in_ok-next_line.ensures.ends)

pub returns-in_err-expect-clause-left : goal.returns-in_err-expect-clause-left
returns-in_err-expect-clause-left c = λ strings awaited adds forms good may.
    expect_err _ _ c.in_err-expect.field-0.0 (missing_by (view c.args.listing.now).word) c.from_residual.result (search rules) c.in_err-expect.ensures.missing.1 (may.missing c.in_err-expect.ensures.missing.0)

pub returns-in_err-text-clause-left : goal.returns-in_err-text-clause-left
returns-in_err-text-clause-left c = λ strings awaited adds forms good may. memory_err _ _ _ c.from_residual-in_err-text.result (search rules)

pub returns-in_err-next_line-clause-left : goal.returns-in_err-next_line-clause-left
returns-in_err-next_line-clause-left c = λ strings awaited adds forms good may.
    let v = view c.args.listing.now in
    let word = c.args.word.now in
    let after = left_after awaited word in
    let text = unwrap_or v.fields [] in
    let read =
    open_line strings v awaited word good c.in_ok-expect.ensures.word may.stands
    ∙ ap (λ f. line_left strings after f v) (forms strings text)
    ∙ c.spend.ensures.pays.left strings after (a_string adds text)
    ∙ ap (λ o. line_left strings after (a_string adds (unwrap_or o [])) (view c.spend.new.self)) (sym c.spend.ensures.same)
    ∙ c.in_ok-text.ensures.left strings after adds
    ∙ ap (λ k. line_left strings after (paid k (done [] (adds c.in_ok-text.text))) (view c.string.new.self)) (ap length (sym c.as_bytes.ensures))
    ∙ c.spend-2.ensures.pays.left strings after (done [] (adds c.in_ok-text.text)) in
    read_err _ _ c.in_err-next_line.field-0.0 c.from_residual-in_err-next_line.result (search rules) read (c.in_err-next_line.ensures.left strings after [] (adds c.in_ok-text.text))

pub returns-clause-left : goal.returns-clause-left
returns-clause-left c = λ strings awaited adds forms good may.
    let v = view c.args.listing.now in
    let word = c.args.word.now in
    let after = left_after awaited word in
    let text = unwrap_or v.fields [] in
    let read =
    open_line strings v awaited word good c.in_ok-expect.ensures.word may.stands
    ∙ ap (λ f. line_left strings after f v) (forms strings text)
    ∙ c.spend.ensures.pays.left strings after (a_string adds text)
    ∙ ap (λ o. line_left strings after (a_string adds (unwrap_or o [])) (view c.spend.new.self)) (sym c.spend.ensures.same)
    ∙ c.in_ok-text.ensures.left strings after adds
    ∙ ap (λ k. line_left strings after (paid k (done [] (adds c.in_ok-text.text))) (view c.string.new.self)) (ap length (sym c.as_bytes.ensures))
    ∙ c.spend-2.ensures.pays.left strings after (done [] (adds c.in_ok-text.text)) in
    let told = c.in_ok-next_line.ensures.left strings after [] (adds c.in_ok-text.text) in
    (read ∙ told.0, told.1)
