use Rattle.std.proofs.Common.{◌≡◌, map, take}
use Rattle.pex_set.proofs.prelude.strings.Given as goal

abbrev pub invariant-loop-word : goal.invariant-loop-word
invariant-loop-word l = l.strings.items ≡ map (λ word. word.now) (take l.word-index l.words)
