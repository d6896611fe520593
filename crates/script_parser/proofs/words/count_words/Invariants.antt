-- The words of the lines so far are in.
use Rattle.std.proofs.Common.{◌≡◌, [], take}
use Rattle.std.specs.Str.{bytes_eq}
use Rattle.indexmap.specs.IndexSet.{insert_all}
use Rattle.script_parser.specs.Held.{held}
use Rattle.script_parser.specs.Words.{words_of}
use Rattle.script_parser.proofs.words.count_words.Given as goal

abbrev pub invariant-loop-line : goal.invariant-loop-line
invariant-loop-line l = held l.words.all ≡ insert_all bytes_eq [] (words_of (take l.line-index l.lines))
