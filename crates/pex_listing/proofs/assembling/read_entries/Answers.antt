use Rattle.std.proofs.Common.{◌≡◌, ℕ, List, vec_len, length, ap, refl, sym, subst, arith, ◌++◌, ◌∙◌, rules}
use Rattle.std.specs.Prelude.{Option, None}
use Rattle.std.specs.List.{flat_map}
use Rattle.pex_values.specs.declared.debug.PexDebug.{PexDebug}
use Rattle.pex_values.specs.Fit.{IsCounted}
use Rattle.pex_values.specs.Plain.{PlainLines, plain_lines, plain_debug}
use Rattle.pex_values.specs.Shape.{IsShapedLines}
use Rattle.pex_values.specs.Spelling as spell
use Rattle.pex_values.proofs.Sizes.{debug_size, no_debug_size}
use Rattle.pex_listing.specs.declared.listing.Listing.{Listing}
use Rattle.pex_listing.specs.Listing as form
use Rattle.pex_listing.specs.Reading.{ReadsDebug, debug_rest, debug_start}
use Rattle.pex_listing.specs.Spelled.{spelled_in}
use Rattle.pex_listing.proofs.Taken.{lines_nothing}
use Rattle.pex_listing.proofs.Parts.{viewed}
use Rattle.pex_listing.specs.Left.{lines_left, view}
use Rattle.pex_listing.specs.Parted.{debug_lines}
use Rattle.pex_listing.proofs.Opening.{read_err}
use Rattle.pex_listing.proofs.assembling.read_entries.Goals as goal

pub returns-clause-reads : goal.returns-clause-reads
returns-clause-reads c =
    let n = vec_len c.args.names.now.spelled in
    let es = viewed (IsShapedLines n) (λ (e : PlainLines). IsCounted e.lines) spell.lines (form.lines (spelled_in c.args.names.now)) plain_lines _ _ c.in_ok-functions.functions.items c.in_ok-functions.ensures.all in
    let d : PexDebug = record { time = c.in-Some.time; functions = c.in_ok-functions.functions } in
    let time = rw c.in-Some.is at c.requires in
    record {
      shaped = record { time = time; functions = es.shaped };
      fits = record { functions = es.counted; each = es.fits };
      start = ap debug_start c.in-Some.is;
      bytes = length (flat_map spell.lines (plain_debug d).functions);
      whole = omega (arith, debug_size (plain_debug d), ap debug_rest c.in-Some.is);
      takes = es.takes;
    }

no_entries : (n : ℕ) (s : ℕ → List ℕ) (time : Option ℕ) (l : Listing) → time ≡ None → ReadsDebug n s time l l None
no_entries n s time l is =
    subst (λ t. ReadsDebug n s t l l None) (sym is) (record { shaped = tt; fits = tt; start = refl; bytes = 0; whole = omega (arith, no_debug_size); takes = lines_nothing l })

pub returns-in_default-clause-reads : goal.returns-in_default-clause-reads
returns-in_default-clause-reads c = no_entries (vec_len c.args.names.now.spelled) (spelled_in c.args.names.now) c.args.time c.args.listing.now c.in_default.is

pub returns-in_default-clause-left : goal.returns-in_default-clause-left
returns-in_default-clause-left c = λ strings awaited table good. (ap (λ t. lines_left strings (debug_lines t ++ awaited) (view c.args.listing.now)) c.in_default.is, good)

pub returns-in_err-functions-clause-left : goal.returns-in_err-functions-clause-left
returns-in_err-functions-clause-left c = λ strings awaited table good.
    read_err _ _ c.in_err-functions.field-0.0 c.from_residual.result (search rules) (ap (λ t. lines_left strings (debug_lines t ++ awaited) (view c.args.listing.now)) c.in-Some.is) (c.in_err-functions.ensures.left strings awaited table good)

pub returns-clause-left : goal.returns-clause-left
returns-clause-left c = λ strings awaited table good.
    let told = c.in_ok-functions.ensures.left strings awaited table good in
    (ap (λ t. lines_left strings (debug_lines t ++ awaited) (view c.args.listing.now)) c.in-Some.is ∙ told.0, told.1)
