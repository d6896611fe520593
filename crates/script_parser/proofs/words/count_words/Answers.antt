use Rattle.std.proofs.Common.{List, [], sym, ap, ◌∙◌}
use Rattle.std.proofs.lemmas.List.{length-map, take_all}
use Rattle.std.specs.Str.{bytes_eq}
use Rattle.indexmap.specs.IndexSet.{insert_all}
use Rattle.script_lexer.specs.declared.line.Line.{Line}
use Rattle.script_parser.specs.Held.{held}
use Rattle.script_parser.specs.Words.{words_of}
use Rattle.script_parser.proofs.WordCounts.{CountsDifferent-insert_all}
use Rattle.script_parser.proofs.words.count_words.Goals as goal

pub returns : goal.returns
returns c =
    let all_lines = take_all c.loop-line.line-index c.args.lines.now c.loop-line-test.false in
    CountsDifferent-insert_all (words_of c.args.lines.now) (held c.loop-line.words.all) c.len-count.result (c.loop-line.invariant ∙ ap (λ (lines : List Line). insert_all bytes_eq [] (words_of lines)) all_lines) (c.len-count.ensures.len ∙ sym (length-map c.loop-line.words.all.keys (λ k. k.now)))
