use Rattle.std.proofs.Common.{◌≡◌, ℕ, ◌+◌, ◌-◌, ◌<◌, true, cond, List, length, get_or, take, refl, sym, ap, ◌∙◌, arith}
use Rattle.std.proofs.lemmas.List.Sums.{fold_more}
use Rattle.script_lexer.specs.declared.token.Spanned.{Spanned}
use Rattle.line_parser.specs.Nesting.{opens, closes, open_next, open_after}
use Rattle.line_parser.proofs.nesting.passes_limit.Goals as goal

-- one more bracket is open after an opening sign
open_after-opens : (tokens : List Spanned) (i n : ℕ) (s : Spanned) → i < length tokens → s ≡ get_or tokens i s → opens s.token ≡ true → n ≡ open_after (take i tokens) → open_after (take (i + 1) tokens) ≡ n + 1
open_after-opens tokens i n s within is opening count =
    fold_more open_next 0 tokens i s within
    ∙ ap (λ m. open_next m (get_or tokens i s)) (sym count)
    ∙ ap (open_next n) (sym is)
    ∙ ap (λ b. cond b (n + 1) (cond (closes s.token) (n - 1) n)) opening

pub returns-then-open-eq-BRACKET_LIMIT : goal.returns-then-open-eq-BRACKET_LIMIT
returns-then-open-eq-BRACKET_LIMIT c =
    let more = open_after-opens c.args.tokens.now c.loop-spanned.spanned-index c.loop-spanned.open c.spanned-item.result c.loop-spanned-test.true c.spanned-item.is (sym c.opens_bracket.ensures ∙ c.if-opens_bracket.true) c.loop-spanned.invariant.0 in
    (λ _. (c.loop-spanned.spanned-index + 1, omega arith), λ _. refl)
