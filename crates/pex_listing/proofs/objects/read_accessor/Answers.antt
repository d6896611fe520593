use Rattle.std.proofs.Common.{◌≡◌, ℕ, ◌+◌, ◌-◌, Bool, true, false, List, length, vec_len, refl, sym, subst, arith, rules, [], ◌∷◌, ◌++◌, ap, ◌∙◌}
use Rattle.std.specs.Prelude.{Some, None, unwrap_or}
use Rattle.pex_values.specs.declared.values.PexFunction.{PexFunction}
use Rattle.pex_values.specs.Plain.{plain_function}
use Rattle.pex_values.specs.Spelling as spell
use Rattle.pex_values.proofs.Sizes.{function_size}
use Rattle.pex_listing.specs.declared.listing.Listing.{Listing}
use Rattle.pex_listing.specs.Listing as form
use Rattle.pex_listing.specs.Opened.{Begun, Continues}
use Rattle.pex_listing.specs.Reading.{HoldsFunction, ReadsAccessor}
use Rattle.pex_listing.specs.Spelled.{spelled_in}
use Rattle.pex_listing.proofs.Taken.{lines_nothing}
use Rattle.pex_listing.specs.Breaks.{asked}
use Rattle.pex_listing.specs.Left.{line_left, lines_left, missing_by, view}
use Rattle.pex_listing.proofs.Opening.{one_open, own_word, one_missing, read_err, expect_err}
use Rattle.pex_listing.proofs.objects.read_accessor.Goals as goal

-- a function has 15 bytes or more beside its name
some_accessor : (n : ℕ) (s : ℕ → List ℕ) (word : List ℕ) (asked : Bool) (old new : Listing) (f : PexFunction) (m : ℕ) → asked ≡ true → HoldsFunction n f → Begun word 0 old old
    → Continues (form.function s (plain_function f)) (length (spell.function (plain_function f))) 15 old new → m + 15 ≡ length (spell.function (plain_function f)) → ReadsAccessor n s word asked old new (Some f)
some_accessor n s word asked old new f m is holds begun lines whole = subst (λ b. ReadsAccessor n s word b old new (Some f)) (sym is) (record {
  asked_for = refl;
  shaped = holds.0;
  fits = holds.1;
  bytes = m;
  whole = whole;
  takes = lines word old 0 m begun (omega (arith, whole));
})

no_accessor : (n : ℕ) (s : ℕ → List ℕ) (word : List ℕ) (asked : Bool) (l : Listing) → asked ≡ false → ReadsAccessor n s word asked l l None
no_accessor n s word asked l is = subst (λ b. ReadsAccessor n s word b l l None) (sym is) (record { asked_for = refl; shaped = tt; fits = tt; bytes = 0; whole = omega arith; takes = lines_nothing l })

pub returns-clause-reads : goal.returns-clause-reads
returns-clause-reads c =
    let asked : c.args.is_asked ≡ true = grind arith in
    let f = c.in_ok-read_function.field-0 in
    let got = c.in_ok-read_function.ensures in
    let size = function_size (plain_function f) in
    some_accessor (vec_len c.args.names.now.spelled) (spelled_in c.args.names.now) c.args.word.now c.args.is_asked c.args.listing.now c.read_function.new.listing f (length (spell.function (plain_function f)) - 15) asked got.holds c.in_ok-expect.ensures.text got.lines (omega arith)

pub returns-then-not-is_asked-clause-reads : goal.returns-then-not-is_asked-clause-reads
returns-then-not-is_asked-clause-reads c = no_accessor (vec_len c.args.names.now.spelled) (spelled_in c.args.names.now) c.args.word.now c.args.is_asked c.args.listing.now (search rules)

pub returns-then-not-is_asked-clause-left : goal.returns-then-not-is_asked-clause-left
returns-then-not-is_asked-clause-left c = λ forms strings awaited table good.
    let no : c.args.is_asked ≡ false = search rules in
    (ap (λ b. lines_left strings (asked b c.args.word.now ++ awaited) (view c.args.listing.now)) no, good)

pub returns-in_err-expect-clause-left : goal.returns-in_err-expect-clause-left
returns-in_err-expect-clause-left c = λ forms strings awaited table good.
    let v = view c.args.listing.now in
    let word = c.args.word.now in
    let is_asked : c.args.is_asked ≡ true = grind arith in
    let must = ap (λ b. lines_left strings (asked b word ++ awaited) v) is_asked in
    expect_err _ _ c.in_err-expect.field-0.0 (missing_by v.word) c.from_residual.result (search rules) c.in_err-expect.ensures.missing.1 (must ∙ one_missing strings v (word ∷ []) awaited c.in_err-expect.ensures.missing.0)

pub returns-in_err-read_function-clause-left : goal.returns-in_err-read_function-clause-left
returns-in_err-read_function-clause-left c = λ forms strings awaited table good.
    let v = view c.args.listing.now in
    let word = c.args.word.now in
    let is_asked : c.args.is_asked ≡ true = grind arith in
    let must = ap (λ b. lines_left strings (asked b word ++ awaited) v) is_asked in
    let read = must ∙ one_open strings v (word ∷ []) awaited word good c.in_ok-expect.ensures.word (own_word word) ∙ ap (λ f. line_left strings awaited f v) (forms strings (unwrap_or v.fields [])) in
    read_err _ _ c.in_err-read_function.field-0.0 c.from_residual-in_err-read_function.result (search rules) read (c.in_err-read_function.ensures.left strings awaited table)

pub returns-clause-left : goal.returns-clause-left
returns-clause-left c = λ forms strings awaited table good.
    let v = view c.args.listing.now in
    let word = c.args.word.now in
    let is_asked : c.args.is_asked ≡ true = grind arith in
    let must = ap (λ b. lines_left strings (asked b word ++ awaited) v) is_asked in
    let read = must ∙ one_open strings v (word ∷ []) awaited word good c.in_ok-expect.ensures.word (own_word word) ∙ ap (λ f. line_left strings awaited f v) (forms strings (unwrap_or v.fields [])) in
    let told = c.in_ok-read_function.ensures.left strings awaited table in
    (read ∙ told.0, told.1)
