use Rattle.std.proofs.Common.{sym}
use Rattle.script_parser.proofs.WordCounts.{list_any-index, bytes_eq-equal}
use Rattle.script_parser.proofs.words.came_lately.Goals as goal

pub returns-in-Some-get_index : goal.returns-in-Some-get_index
returns-in-Some-get_index c = λ found.
    list_any-index c.args.bytes.now c.args.words.now.all.keys c.in-Some.index.now c.in-Some-get_index.word.now (sym c.in-Some-get_index.ensures.key) (bytes_eq-equal c.args.bytes.now c.in-Some-get_index.word.now.now (c.are_same.ensures.0 found))
