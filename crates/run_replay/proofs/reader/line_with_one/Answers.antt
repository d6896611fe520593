use Rattle.std.proofs.Common.{◌≡◌, ◌++◌, ℕ, sym, ap, ◌∙◌, arith}
use Rattle.run_replay.specs.declared.reader.JournalWord.{JournalWord}
use Rattle.run_replay.specs.declared.reader.JournalWord.TheVariants as keyword
use Rattle.run_replay.specs.declared.reader.Numbers.TheVariants as numbers
use Rattle.run_replay.specs.Lines.{word_of, spelled}
use Rattle.run_replay.proofs.LineLemmas.{heading_is}
use Rattle.run_replay.proofs.reader.line_with_one.Goals as goal

pub returns-in-Journal-clause-read : goal.returns-in-Journal-clause-read
returns-in-Journal-clause-read c =
    let one : c.args.number ≡ 1 = omega arith in
    let word : c.args.keyword ≡ keyword.Journal = cc in
    (tt, heading_is ∙ ap (λ (k : JournalWord). word_of k ++ spelled (numbers.One 1)) (sym word) ∙ ap (λ (n : ℕ). word_of c.args.keyword ++ spelled (numbers.One n)) (sym one))
