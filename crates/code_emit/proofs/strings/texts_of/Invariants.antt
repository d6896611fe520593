use Rattle.std.proofs.Common.{◌≡◌, map, take}
use Rattle.code_emit.proofs.strings.texts_of.Given as goal

abbrev pub invariant-loop-string : goal.invariant-loop-string
invariant-loop-string l = l.texts.items ≡ map (λ string. string.items) (take l.string-index l.strings)
