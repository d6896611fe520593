use Rattle.std.proofs.Common.{◌≡◌, vec_len}
use Rattle.pex_sources.proofs.source_texts.texts_of.Given as goal

abbrev pub invariant-loop-number : goal.invariant-loop-number
invariant-loop-number l = vec_len l.texts ≡ l.number
