use Rattle.std.proofs.Common.{arith, ℕ, Bool, true, false, List, [], ◌∷◌, ◌≡◌, nat_eq, if◌then◌else◌, refl}
use Rattle.std.proofs.lemmas.Bool.Decides.{nat_tests}
use Rattle.std.proofs.lemmas.Str.{IsUtf8-from_ascii}
use Rattle.std.proofs.lemmas.Str.Ascii.{IsAscii-cons}
use Rattle.std.proofs.lemmas.Fmt.{IsAscii-from_digits}
use Rattle.std.specs.Str.{IsAscii}
use Rattle.std.specs.Str.Parse.{AllDigits}
use Rattle.papy_base.specs.Decimal.{IsInt}
use Rattle.papy_base.proofs.decimal.read_int.Goals as goal

-- digits are ASCII, also behind a minus
ascii_behind : (minus : Bool) (b : ℕ) (bs : List ℕ) → (minus ≡ true → b ≡ 45) → AllDigits 10 (if minus then bs else (b ∷ bs)) → IsAscii (b ∷ bs)
ascii_behind true b bs is_minus digits = IsAscii-cons b bs (let e = is_minus refl in omega arith) (IsAscii-from_digits bs digits)
ascii_behind false b bs is_minus digits = IsAscii-from_digits (b ∷ bs) digits

-- a number's text is ASCII, and so it is UTF-8
int_is_ascii : (text : List ℕ) → IsInt text → IsAscii text
int_is_ascii [] h = absurd (omega (arith, h.0.0))
int_is_ascii (b ∷ bs) h = ascii_behind (nat_eq b 45) b bs (λ e. grind (arith, nat_tests)) h.0.1

pub returns-in-Err-clause-number : goal.returns-in-Err-clause-number
returns-in-Err-clause-number c = λ number. absurd (c.in-Err.ensures.cases.0 (IsUtf8-from_ascii _ (int_is_ascii _ number)))
