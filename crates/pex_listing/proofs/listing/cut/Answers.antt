use Rattle.std.proofs.Common.{◌≡◌, ℕ, ◌==◌, ◌+◌, Some, None, ltb, cond, length, rules, tests, sym, ap, ◌∙◌}
use Rattle.std.specs.Prelude.{option_map}
use Rattle.std.specs.List.{position_or_len}
use Rattle.std.proofs.lemmas.List.{take_rest}
use Rattle.std.proofs.lemmas.Iterator.{YieldsList-from_slice}
use Rattle.std.proofs.lemmas.Iterator.Search.{position_from_yields_List}
use Rattle.pex_listing.proofs.Leaving.{cut_before, cut_none, cut_some}
use Rattle.pex_listing.proofs.listing.cut.Goals as goal

pub returns-in_err-at-clause-behind : goal.returns-in_err-at-clause-behind
returns-in_err-at-clause-behind c =
    let test = λ (x : ℕ). x == c.args.byte in
    let found : c.position.result ≡ cond (ltb (position_or_len test c.args.bytes.now) (length c.args.bytes.now)) (Some (position_or_len test c.args.bytes.now)) None =
    position_from_yields_List test _ _ _ c.position.ensures.ran (YieldsList-from_slice c.args.bytes.now cc) (λ x b q k. search (rules, tests)) in
    ap (option_map (λ parts. parts.1.now)) c.from_residual.ensures ∙ cut_none c.args.byte c.args.bytes.now (sym c.in_err-at.was ∙ found)

pub returns-clause-before : goal.returns-clause-before
returns-clause-before c =
    let test = λ (x : ℕ). x == c.args.byte in
    let found : Some c.in_ok-at.at ≡ cond (ltb (position_or_len test c.args.bytes.now) (length c.args.bytes.now)) (Some (position_or_len test c.args.bytes.now)) None =
    position_from_yields_List test _ _ _ c.in_ok-at.ensures.ran (YieldsList-from_slice c.args.bytes.now cc) (λ x b q k. search (rules, tests)) in
    cut_before c.args.byte c.args.bytes.now c.in_ok-at.at found

pub returns-clause-behind : goal.returns-clause-behind
returns-clause-behind c =
    let test = λ (x : ℕ). x == c.args.byte in
    let found : Some c.in_ok-at.at ≡ cond (ltb (position_or_len test c.args.bytes.now) (length c.args.bytes.now)) (Some (position_or_len test c.args.bytes.now)) None =
    position_from_yields_List test _ _ _ c.in_ok-at.ensures.ran (YieldsList-from_slice c.args.bytes.now cc) (λ x b q k. search (rules, tests)) in
    cut_some c.args.byte c.args.bytes.now _ c.in_ok-at.at found (take_rest c.args.bytes.now (c.in_ok-at.at + 1))
