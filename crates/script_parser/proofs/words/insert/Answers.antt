use Rattle.std.proofs.Common.{map, ap, ◌∙◌}
use Rattle.script_parser.proofs.WordCounts.{shown-insert_key}
use Rattle.script_parser.proofs.words.insert.Goals as goal

pub returns : goal.returns
returns c = ap (map (λ k. k.now)) c.in_ok-index.ensures.keys ∙ shown-insert_key c.args.words.now.all.keys c.args.bytes
