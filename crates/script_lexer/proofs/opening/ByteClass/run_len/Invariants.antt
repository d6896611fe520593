use Rattle.std.proofs.Common.{◌≡◌, ◌+◌, drop}
use Rattle.std.specs.List.{prefix_len}
use Rattle.script_lexer.specs.Bytes.{class_test}
use Rattle.script_lexer.proofs.opening.ByteClass.run_len.Given as goal

-- the bytes so far are of the class, and the rest's front follows them
abbrev pub invariant-loop-at : goal.invariant-loop-at
invariant-loop-at l = l.at + prefix_len (class_test l.self) (drop l.at l.bytes) ≡ prefix_len (class_test l.self) l.bytes
