use Rattle.std.proofs.Common.{◌≡◌, ℕ, List, ◌+◌, ◌*◌, ◌<◌, take, get_or, length, sym, arith}
use Rattle.std.proofs.lemmas.Int.Digits.{digits_value_more}
use Rattle.std.proofs.lemmas.Str.Parse.{digits_value-take-le}
use Rattle.std.specs.Str.Parse.{digits_value}
use Rattle.std.specs.Char.{digit_value}
use Rattle.script_lexer.proofs.in_line.magnitude.Goals as goal

-- the number with one digit more
more : (base i number digit : ℕ) (ds : List ℕ) → i < length ds → number ≡ digits_value base (take i ds) → digit ≡ digit_value (get_or ds i 0) → number * base + digit ≡ digits_value base (take (i + 1) ds)
more base i number digit ds lt value is_digit = rw (value, is_digit) (sym (digits_value_more base ds i lt))

pub returns-then-number-gt4294967295 : goal.returns-then-number-gt4294967295
returns-then-number-gt4294967295 c =
    let e = more c.args.base c.loop-byte.byte-index c.loop-byte.number c.digit.result c.args.digits.now c.loop-byte-test.true c.loop-byte.invariant.value c.digit.ensures in
    let le = digits_value-take-le c.args.base c.args.digits.now (c.loop-byte.byte-index + 1) c.requires.some in
    omega arith

pub loop-byte-preserved : goal.loop-byte-preserved
loop-byte-preserved c = record {
  value = more c.args.base c.loop-byte.byte-index c.loop-byte.number c.digit.result c.args.digits.now c.loop-byte-test.true c.loop-byte.invariant.value c.digit.ensures;
  small = omega arith;
}
