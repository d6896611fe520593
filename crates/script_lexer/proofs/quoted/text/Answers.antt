use Rattle.std.proofs.Common.{◌∙◌, arith}
use Rattle.script_lexer.proofs.TextLemmas.{text_stands, text_bad_escape, text_too_long}
use Rattle.script_lexer.proofs.quoted.text.Goals as goal

pub returns-then-not-good : goal.returns-then-not-good
returns-then-not-good c = text_bad_escape c.args.rest.now c.split_at.result.1.now c.in_ok-meant.meant.items c.in_ok-meant.good c.in_ok-meant.len c.requires.opens c.split_at.ensures.back (c.in_ok-meant.ensures) c.if-len-behind.false c.if-behind-len-ne34.false c.if-not-good.true

pub returns-then-len-gt-TEXT_LIMIT : goal.returns-then-len-gt-TEXT_LIMIT
returns-then-len-gt-TEXT_LIMIT c = text_too_long c.args.rest.now c.split_at.result.1.now c.in_ok-meant.meant.items c.in_ok-meant.good c.in_ok-meant.len c.requires.opens c.split_at.ensures.back (c.in_ok-meant.ensures) c.if-len-behind.false c.if-behind-len-ne34.false c.if-not-good.false (omega arith)

pub returns : goal.returns
returns c = text_stands c.args.rest.now c.split_at.result.1.now c.in_ok-meant.meant.items c.in_ok-text.text c.in_ok-meant.good c.in_ok-meant.len c.requires.opens c.split_at.ensures.back (c.in_ok-meant.ensures) c.if-len-behind.false c.if-behind-len-ne34.false c.if-not-good.false (omega arith) (c.in_ok-text.ensures ∙ c.deref.ensures.value)
