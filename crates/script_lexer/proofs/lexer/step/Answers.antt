use Rattle.std.proofs.Common.{rules}
use Rattle.script_lexer.specs.Answers.{Opens}
use Rattle.script_lexer.proofs.InLineLemmas.{holds_no_line_end}
use Rattle.script_lexer.proofs.lexer.step.Goals as goal

pub line_ends_within-requires-clause-in_line : goal.line_ends_within-requires-clause-in_line
line_ends_within-requires-clause-in_line c =
    let opens : Opens c.of-opening.result c.args.rest.now = search rules in
    holds_no_line_end c.of-opening.result c.args.rest.now c.split_at.result.0.now c.in-Ok.found.0 c.in-Ok.found.1 opens c.in-Ok.ensures c.split_at.ensures.front
