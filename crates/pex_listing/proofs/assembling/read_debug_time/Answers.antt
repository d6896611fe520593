use Rattle.std.proofs.Common.{arith, ◌≡◌, ℕ, ◌||◌, Bool, true, false, List, [], ◌∷◌, refl, ap, ◌∙◌, rules, Option, Some, None}
use Rattle.pex_listing.proofs.Taken.{begun_more, begun_spent, ended, lines_of}
use Rattle.std.specs.Prelude.{codes, unwrap_or}
use Rattle.std.specs.Str.{bytes_eq}
use Rattle.pex_listing.specs.Breaks.{a_time, done, any_number_of}
use Rattle.pex_listing.specs.Left.{begins_by, line_left, missing_by, view}
use Rattle.pex_listing.proofs.Opening.{one_open, one_missing, line_read, read_err, expect_err, debug_form}
use Rattle.pex_listing.proofs.assembling.read_debug_time.Goals as goal

-- it begins with neither word
neither : (o : Option (List ℕ)) → begins_by (codes "nodebug" ∷ []) o ≡ false → begins_by (codes "debug" ∷ []) o ≡ false → begins_by (codes "nodebug" ∷ codes "debug" ∷ []) o ≡ false
neither None first second = refl
neither (Some w) first second = by (bytes_eq w (codes "nodebug")) (bytes_eq w (codes "debug")) first second
  where
    by : (a b : Bool) → (a || false) ≡ false → (b || false) ≡ false → (a || (b || false)) ≡ false
    by true b first second = first
    by false b first second = second

pub returns-clause-line : goal.returns-clause-line
returns-clause-line c = lines_of (omega arith) (ended (begun_more (begun_spent c.in_ok-expect.ensures.text c.spend.ensures.spends) c.unsigned-time.ensures.taken) c.in_ok-next_line.ensures.ends)

pub returns-in_err-expect-clause-left : goal.returns-in_err-expect-clause-left
returns-in_err-expect-clause-left c = λ strings awaited good at.
    let v = view c.args.listing.now in
    expect_err _ _ c.in_err-expect.field-0.0 (missing_by v.word) c.from_residual.result (search rules) c.in_err-expect.ensures.missing.1 (one_missing strings v (codes "nodebug" ∷ codes "debug" ∷ []) awaited (neither v.word at c.in_err-expect.ensures.missing.0))

pub returns-in_err-next_line-clause-left : goal.returns-in_err-next_line-clause-left
returns-in_err-next_line-clause-left c = λ strings awaited good at.
    let v = view c.args.listing.now in
    let read =
    one_open strings v (codes "nodebug" ∷ codes "debug" ∷ []) awaited (codes "debug") good c.in_ok-expect.ensures.word refl
    ∙ ap (λ f. line_left strings awaited f v) (debug_form strings (unwrap_or v.fields []))
    ∙ c.spend.ensures.pays.left strings awaited (a_time (done (any_number_of (codes "lines") ∷ []) []))
    ∙ c.unsigned-time.ensures.counted.left strings awaited (λ _. done (any_number_of (codes "lines") ∷ []) []) in
    read_err _ _ c.in_err-next_line.field-0.0 c.from_residual-in_err-next_line.result (search rules) read (c.in_err-next_line.ensures.left strings awaited (any_number_of (codes "lines") ∷ []) [])

pub returns-clause-left : goal.returns-clause-left
returns-clause-left c = λ strings awaited good at.
    let v = view c.args.listing.now in
    let read =
    one_open strings v (codes "nodebug" ∷ codes "debug" ∷ []) awaited (codes "debug") good c.in_ok-expect.ensures.word refl
    ∙ ap (λ f. line_left strings awaited f v) (debug_form strings (unwrap_or v.fields []))
    ∙ c.spend.ensures.pays.left strings awaited (a_time (done (any_number_of (codes "lines") ∷ []) []))
    ∙ c.unsigned-time.ensures.counted.left strings awaited (λ _. done (any_number_of (codes "lines") ∷ []) []) in
    line_read strings awaited (any_number_of (codes "lines") ∷ []) _ _ read (c.in_ok-next_line.ensures.left strings awaited (any_number_of (codes "lines") ∷ []) [])
