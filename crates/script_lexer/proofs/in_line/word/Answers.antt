use Rattle.std.proofs.Common.{ℕ, ◌+◌, refl, sym, subst, ◌∙◌, inl, inr, arith}
use Rattle.std.specs.Prelude.{List}
use Rattle.script_lexer.specs.declared.token.Token.TheVariants as token
use Rattle.script_lexer.specs.declared.piece.Piece.TheVariants as piece
use Rattle.script_lexer.specs.Answers.{Stands}
use Rattle.script_lexer.specs.declared.keyword.Keyword.TheVariants as keyword
use Rattle.script_lexer.proofs.KeywordLemmas.{same_keyword}
use Rattle.script_lexer.proofs.WordLemmas.{word_stands, word_too_long}
use Rattle.script_lexer.proofs.in_line.word.Goals as goal

pub returns-then-len-gt-NAME_LIMIT : goal.returns-then-len-gt-NAME_LIMIT
returns-then-len-gt-NAME_LIMIT c = word_too_long c.args.rest.now c.split_at.result.1.now c.run_len-len.result c.requires.opens c.split_at.ensures.back c.run_len-len.ensures.run (omega arith)

pub returns-in_ok-name-in-None : goal.returns-in_ok-name-in-None
returns-in_ok-name-in-None c =
    let e = c.in_ok-name-in-None.ensures in
    let w = subst (λ (n : List ℕ). Stands c.args.rest.now (piece.Token (token.Word n)) (1 + c.run_len-len.result)) (sym e) in
    w (word_stands c.args.rest.now c.split_at.result.1.now c.split_at-2.result.0.now c.run_len-len.result (token.Word c.split_at-2.result.0.now) c.requires.opens c.split_at.ensures.back c.run_len-len.ensures.run (omega arith) c.split_at-2.ensures.front
    (inr (c.in-None.ensures, refl)) (c.in-None.ensures keyword.Float))

pub returns-in_default : goal.returns-in_default
returns-in_default c = word_stands c.args.rest.now c.split_at.result.1.now c.split_at-2.result.0.now c.run_len-len.result (token.Key c.in-Some.keyword) c.requires.opens c.split_at.ensures.back c.run_len-len.ensures.run (omega arith) c.split_at-2.ensures.front
    (inl (c.in-Some.keyword, c.in-Some.ensures, refl)) (λ e. c.in_default.not-Float (same_keyword c.in-Some.keyword keyword.Float (sym c.in-Some.ensures ∙ e)))
