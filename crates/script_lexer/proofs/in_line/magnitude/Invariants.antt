use Rattle.std.proofs.Common.{◌≡◌, ◌<◌, ◌^◌, take}
use Rattle.std.specs.Str.Parse.{digits_value}
use Rattle.script_lexer.proofs.in_line.magnitude.Given as goal

-- the number of the digits so far
abbrev pub invariant-loop-byte : goal.invariant-loop-byte
invariant-loop-byte l = record { value : l.number ≡ digits_value l.base (take l.byte-index l.digits); small : l.number < 2 ^ 32 }
