-- The words of the tokens so far are in.
use Rattle.std.proofs.Common.{◌≡◌, take}
use Rattle.std.specs.Str.{bytes_eq}
use Rattle.indexmap.specs.IndexSet.{insert_all}
use Rattle.script_parser.specs.Held.{held}
use Rattle.script_parser.specs.Words.{words_in}
use Rattle.script_parser.proofs.words.add_words.Given as goal

abbrev pub invariant-loop-spanned : goal.invariant-loop-spanned
invariant-loop-spanned l =
    held l.words.all ≡ insert_all bytes_eq (held l.fn.words.all) (words_in (take l.spanned-index l.tokens))
