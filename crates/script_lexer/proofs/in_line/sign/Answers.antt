use Rattle.std.proofs.Common.{sym, ◌∙◌}
use Rattle.script_lexer.proofs.SignLemmas.{two_byte_sign, one_byte_sign}
use Rattle.script_lexer.proofs.in_line.sign.Goals as goal

pub returns-in-Some : goal.returns-in-Some
returns-in-Some c = two_byte_sign c.args.rest.now c.in-Some.sign c.requires.opens (sym c.pair.ensures ∙ c.in-Some.is)

pub returns-in-Some-of_byte : goal.returns-in-Some-of_byte
returns-in-Some-of_byte c = one_byte_sign c.args.rest.now c.in-Some-of_byte.sign c.requires.opens (sym c.pair.ensures ∙ c.in-None.is) (sym c.of_byte.ensures ∙ c.in-Some-of_byte.is)
