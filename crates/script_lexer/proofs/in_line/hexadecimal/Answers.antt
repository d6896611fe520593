use Rattle.std.proofs.Common.{◌≡◌, ◌+◌, sym, ap, subst, ◌∙◌}
use Rattle.std.specs.Prelude.{ℤ}
use Rattle.std.specs.Int.{w32, cast_signed, cast_unsigned}
use Rattle.std.proofs.lemmas.Int.{of_z-to_z}
use Rattle.script_lexer.specs.declared.token.Token.TheVariants as token
use Rattle.script_lexer.specs.declared.piece.Piece.TheVariants as piece
use Rattle.script_lexer.specs.Answers.{Stands}
use Rattle.script_lexer.proofs.NumberLemmas.{hexadecimal_stands}
use Rattle.std.proofs.lemmas.Bool.{false≢true}
use Rattle.script_lexer.proofs.in_line.hexadecimal.Goals as goal

pub returns : goal.returns
returns c =
    let e : cast_signed w32 (cast_unsigned w32 c.cast_signed.result) ≡ cast_signed w32 c.in-Some.number =
    ap (λ (z : ℤ). cast_signed w32 (cast_unsigned w32 z)) c.cast_signed.ensures ∙ ap (cast_signed w32) (of_z-to_z w32 c.in-Some.number c.in-Some.ensures.small) in
    subst (λ (z : ℤ). Stands c.args.rest.now (piece.Token (token.Int z)) (c.run_len-len.result + 2)) (sym e)
    (hexadecimal_stands c.args.rest.now c.split_at.result.1.now c.split_at-2.result.0.now c.split_at-2.result.1.now c.run_len-len.result c.in-Some.number c.requires.opens c.requires.prefix c.split_at.ensures.back c.run_len-len.ensures.run c.split_at-2.ensures.front c.split_at-2.ensures.back
    c.in-Some.ensures.value c.in-Some.ensures.small (λ h. false≢true (sym c.if-begins_word.false ∙ c.begins_word.ensures.1 h)))
