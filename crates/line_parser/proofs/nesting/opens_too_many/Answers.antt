use Rattle.std.proofs.Common.{ℕ, ◌+◌, ◌-◌, ◌<◌, ◌≤◌, Bool, true, false, cond, List, [], ◌∷◌, length, fold, take, arith}
use Rattle.std.proofs.lemmas.List.{length-take}
use Rattle.script_lexer.specs.declared.token.Spanned.{Spanned}
use Rattle.line_parser.specs.Nesting.{opens, closes, open_next, open_after}
use Rattle.line_parser.proofs.nesting.opens_too_many.Goals as goal

-- a token opens at most one bracket
one_more : (a b : Bool) (n : ℕ) → cond a (n + 1) (cond b (n - 1) n) ≤ n + 1
one_more true b n = omega arith
one_more false true n = omega arith
one_more false false n = omega arith

open_within : (tokens : List Spanned) (n : ℕ) → fold open_next n tokens ≤ n + length tokens
open_within [] n = omega arith
open_within (s ∷ tokens) n =
    let rest : fold open_next (open_next n s) tokens ≤ open_next n s + length tokens = open_within tokens (open_next n s) in
    let first : open_next n s ≤ n + 1 = one_more (opens s.token) (closes s.token) n in
    omega (arith, rest, first)

few_open : (tokens : List Spanned) (k : ℕ) → length tokens ≤ 64 → 64 < open_after (take k tokens) → ⊥
few_open tokens k few many =
    let within : open_after (take k tokens) ≤ 0 + length (take k tokens) = open_within (take k tokens) 0 in
    omega (arith, within, length-take k tokens, few, many)

pub returns-else-tokens-from : goal.returns-else-tokens-from
returns-else-tokens-from c =
    let few : length c.args.tokens.now ≤ 64 = omega (arith, c.if-tokens-from.false, c.from.ensures) in
    (λ t. grind (arith, t, c.if-tokens-from.false), λ many. absurd (few_open c.args.tokens.now many.0 few many.1))
