use Rattle.std.proofs.Common.{◌≡◌, ℕ, ◌<◌, true, Bor, List, Option, Some, None, length, option_copied, refl, rules, sym, subst, arith}
use Rattle.std.specs.Prelude.{slice_get, slice_index_or}
use Rattle.std.specs.Slice.{IsItemAt}
use Rattle.std.proofs.lemmas.List.{get_or_read}
use Rattle.std.proofs.lemmas.Option.{slice_get_past, slice_get_read}
use borrow.Author.Count.{below_more}
use Rattle.pex_verify.specs.declared.judged.JudgedOperand.{JudgedOperand as Operand}
use Rattle.pex_verify.specs.Accepted.{ParameterFits}
use Rattle.pex_verify.proofs.operand_rules.each_fits.Goals as goal

read_at : (numbers : List ℕ) (place : ℕ) (found : Option (Bor ℕ)) → IsItemAt numbers place found → option_copied found ≡ slice_get numbers place
read_at numbers place None h = sym (slice_get_past numbers place h.3)
read_at numbers place (Some number) h = sym (slice_get_read numbers (length numbers) place number.now refl h.3.0 h.1)

pub loop-place-preserved : goal.loop-place-preserved
loop-place-preserved c =
    let scope = c.args.scope.now in
    let kinds = c.args.kinds.now in
    let arguments = c.args.arguments.now in
    let place = c.loop-place.place in
    let argument = c.index-arguments-place.result in
    let within : place < length arguments = omega arith in
    let read : option_copied c.get.result ≡ slice_get kinds place = read_at kinds place c.get.result c.get.ensures.lookup in
    let passed : c.parameter_fits.result ≡ true = search rules in
    let fits : ParameterFits scope (slice_get kinds place) argument = subst (λ (kind : Option ℕ). ParameterFits scope kind argument) read (c.parameter_fits.ensures passed) in
    let Fit : ℕ → Type 0 = λ k. (d : Operand) → ParameterFits scope (slice_get kinds k) (slice_index_or arguments k d) in
    let here : Fit place = λ d. subst (λ (o : Operand). ParameterFits scope (slice_get kinds place) o) (get_or_read arguments place argument within c.index-arguments-place.is d) fits in
    λ k d h. below_more Fit place (λ i below other. c.loop-place.invariant i other below) here k h d
