use Rattle.std.proofs.Common.{rules}
use Rattle.script_lexer.proofs.KeywordLemmas.{only_candidate}
use Rattle.script_lexer.proofs.keyword.candidate.Goals as goal

pub returns : goal.returns
returns c = search (only_candidate, rules)
