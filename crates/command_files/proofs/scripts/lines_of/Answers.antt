use Rattle.script_lexer.proofs.FewLines.{few_lines}
use Rattle.command_files.proofs.scripts.lines_of.Goals as goal

pub returns-in-Ok-clause-few : goal.returns-in-Ok-clause-few
returns-in-Ok-clause-few c = few_lines c.args.text.now _ c.in-Ok.lines.last c.in-Ok.ensures.cut c.in-Ok.ensures.small
