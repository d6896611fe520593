use Rattle.std.proofs.Common.{◌≡◌, ℕ, ◌<◌, ◌≤◌, [], ◌∷◌, inl, inr, refl, ap, ◌∙◌, append_assoc, ⊎_elim, arith, rules}
use Rattle.std.specs.Prelude.{◌⊎◌, codes, unwrap_or}
use Rattle.std.proofs.lemmas.Bool.{cases_lt}
use Rattle.pex_listing.specs.Breaks.{a_time, done}
use Rattle.pex_listing.specs.Left.{line_left, missing_by, view}
use Rattle.pex_listing.proofs.Opening.{expect_err, line_read, one_missing, one_open, pex_form, read_err}
use Rattle.pex_listing.proofs.Taken.{begun_more, ended, lines_as}
use Rattle.pex_listing.proofs.assembling.read_version.Goals as goal

one_or_two : (n : ℕ) → 1 ≤ n → n ≤ 2 → (n ≡ 1) ⊎ (n ≡ 2)
one_or_two n low high = ⊎_elim (λ (one : n < 2). inl (omega arith)) (λ (two : 2 ≤ n). inr (omega arith)) (cases_lt n 2)

pub returns-clause-line : goal.returns-clause-line
returns-clause-line c =
    lines_as (simp append_assoc) (omega arith) (ended (begun_more (begun_more c.in_ok-expect.ensures.text c.unsigned-minor.ensures.taken) c.unsigned-time.ensures.taken) c.in_ok-next_line.ensures.ends)

pub returns-clause-shaped : goal.returns-clause-shaped
returns-clause-shaped c =
    (one_or_two c.unsigned-minor.result (c.unsigned-minor.ensures.least (c.unsigned-time.ensures.taken.good c.in_ok-next_line.ensures.ends.good)) c.unsigned-minor.ensures.most, omega (arith, c.unsigned-time.ensures.most))

pub returns-in_err-expect-clause-left : goal.returns-in_err-expect-clause-left
returns-in_err-expect-clause-left c = λ strings awaited good.
    let v = view c.args.listing.now in
    let missing = c.in_err-expect.ensures.missing in
    expect_err _ _ c.in_err-expect.field-0.0 (missing_by v.word) c.from_residual.result (search rules) missing.1 (one_missing strings v (codes "pex" ∷ []) awaited missing.0)

pub returns-in_err-next_line-clause-left : goal.returns-in_err-next_line-clause-left
returns-in_err-next_line-clause-left c = λ strings awaited good.
    let v = view c.args.listing.now in
    let read =
    one_open strings v (codes "pex" ∷ []) awaited (codes "pex") good c.in_ok-expect.ensures.word refl
    ∙ ap (λ f. line_left strings awaited f v) (pex_form strings (unwrap_or v.fields []))
    ∙ c.unsigned-minor.ensures.counted.left strings awaited (λ _. a_time (done [] []))
    ∙ c.unsigned-time.ensures.counted.left strings awaited (λ _. done [] []) in
    read_err _ _ c.in_err-next_line.field-0.0 c.from_residual-in_err-next_line.result (search rules) read (c.in_err-next_line.ensures.left strings awaited [] [])

pub returns-clause-left : goal.returns-clause-left
returns-clause-left c = λ strings awaited good.
    let v = view c.args.listing.now in
    let read =
    one_open strings v (codes "pex" ∷ []) awaited (codes "pex") good c.in_ok-expect.ensures.word refl
    ∙ ap (λ f. line_left strings awaited f v) (pex_form strings (unwrap_or v.fields []))
    ∙ c.unsigned-minor.ensures.counted.left strings awaited (λ _. a_time (done [] []))
    ∙ c.unsigned-time.ensures.counted.left strings awaited (λ _. done [] []) in
    line_read strings awaited [] _ _ read (c.in_ok-next_line.ensures.left strings awaited [] [])
