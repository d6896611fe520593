use Rattle.std.proofs.Common.{arith, rules, ◌≡◌, ◌≢◌, ◌∙◌, sym, ℕ, Bool, true, false, ◌<◌, ◌≤◌, ◌^◌, length, get_or, List, [], ◌∷◌, refl, nat_le, if◌then◌else◌, ◌&&◌}
use Rattle.std.specs.Prelude.{Some, None, Result, Ok, Err}
use Rattle.std.specs.Str.{all_ascii_digits}
use Rattle.std.specs.String.{string_bytes}
use Rattle.std.specs.Str.Parse.{ParsesUnsigned}
use Rattle.std.proofs.lemmas.Bool.Decides.{nat_tests}
use Rattle.std.proofs.lemmas.Str.Parse.{IsNumeralModel, numerals_by_fold, parse_plain}
use Rattle.papyrus_cmd.specs.Command.{begins_above_zero, counted_number, read_on}
use Rattle.papyrus_cmd.proofs.command.counted_number.Goals as goal

own : IsNumeralModel (λ ds. all_ascii_digits ds ≡ true) (read_on 0)
own = numerals_by_fold _ (search rules) read_on (search rules)

-- what begins above zero has no sign
unsigned : (word : List ℕ) → begins_above_zero word ≡ true → get_or word 0 0 ≢ 43
unsigned [] above = absurd (cc)
unsigned (byte ∷ bytes) above = grind (arith, nat_tests)

chosen : (most : ℕ) (b a : Bool) (value count : ℕ) → b ≡ true → a ≡ true → count ≡ value → count ≤ most → Some count ≡ (if b && (a && nat_le value most) then Some value else None)
chosen most b a value count above digits is few = grind (arith, nat_tests)

too_many : (most : ℕ) (b a : Bool) (value count : ℕ) → count ≡ value → most < count → None ≡ (if b && (a && nat_le value most) then Some value else None)
too_many most b a value count is many = grind (arith, nat_tests)

no_digits : (most : ℕ) (b a : Bool) (value size : ℕ) → most < 2 ^ 32 → 0 < size → ¬ ((a ≡ true) × (0 < size) × (value < 2 ^ 32)) → None ≡ (if b && (a && nat_le value most) then Some value else None)
no_digits most false a value size fits some none = refl
no_digits most true false value size fits some none = refl
no_digits most true true value size fits some none =
    let many : most < value = grind (arith, nat_tests) in grind (arith, nat_tests)

some-bytes : (word : List ℕ) → begins_above_zero word ≡ true → 0 < length word
some-bytes [] above = absurd (cc)
some-bytes (byte ∷ bytes) above = omega arith

counted : (E : Type 0) (most : ℕ) (word : List ℕ) (r : Result ℕ E) (count : ℕ) → ParsesUnsigned 32 10 word r → begins_above_zero word ≡ true → r ≡ Ok count → count ≤ most → Some count ≡ counted_number most word
counted E most word (Ok number) count parses above is few =
    let tells : ((all_ascii_digits word ≡ true) × (0 < length word) × (read_on 0 word < 2 ^ 32)) × (number ≡ read_on 0 word) = parse_plain own {E = E} 32 word (Ok number) parses (unsigned word above) in
    let found : number ≡ count = cc in
    let same : count ≡ read_on 0 word = sym found ∙ tells.1 in
    chosen most (begins_above_zero word) (all_ascii_digits word) (read_on 0 word) count above tells.0.0 same few
counted E most word (Err fault) count parses above is few = absurd (cc)

uncounted : (E : Type 0) (most : ℕ) (word : List ℕ) (r : Result ℕ E) (count : ℕ) → ParsesUnsigned 32 10 word r → begins_above_zero word ≡ true → r ≡ Ok count → most < count → None ≡ counted_number most word
uncounted E most word (Ok number) count parses above is many =
    let tells : ((all_ascii_digits word ≡ true) × (0 < length word) × (read_on 0 word < 2 ^ 32)) × (number ≡ read_on 0 word) = parse_plain own {E = E} 32 word (Ok number) parses (unsigned word above) in
    let found : number ≡ count = cc in
    let same : count ≡ read_on 0 word = sym found ∙ tells.1 in
    too_many most (begins_above_zero word) (all_ascii_digits word) (read_on 0 word) count same many
uncounted E most word (Err fault) count parses above is many = absurd (cc)

unread : (E : Type 0) (most : ℕ) (word : List ℕ) (r : Result ℕ E) (fault : E) → most < 2 ^ 32 → ParsesUnsigned 32 10 word r → begins_above_zero word ≡ true → r ≡ Err fault → None ≡ counted_number most word
unread E most word (Err other) fault fits parses above is =
    let tells = parse_plain own {E = E} 32 word (Err other) parses (unsigned word above) in
    no_digits most (begins_above_zero word) (all_ascii_digits word) (read_on 0 word) (length word) fits (some-bytes word above) tells
unread E most word (Ok number) fault fits parses above is = absurd (cc)

pub returns-in-Ok-clause-number : goal.returns-in-Ok-clause-number
returns-in-Ok-clause-number c =
    let word = string_bytes c.args.word.now in
    let parses = rw c.as_str-text.ensures.value at c.parse.ensures.value.0 in
    let above : begins_above_zero word ≡ true = cc in
    counted _ c.args.most word c.parse.result c.in-Ok.count parses above c.in-Ok.is c.if-count-most.true

pub returns-in_default-clause-number : goal.returns-in_default-clause-number
returns-in_default-clause-number c =
    let word = string_bytes c.args.word.now in
    let parses = rw c.as_str-text.ensures.value at c.parse.ensures.value.0 in
    let above : begins_above_zero word ≡ true = cc in
    uncounted _ c.args.most word c.parse.result c.in-Ok.count parses above c.in-Ok.is c.if-count-most.false

pub returns-in_default-2-clause-number : goal.returns-in_default-2-clause-number
returns-in_default-2-clause-number c =
    let word = string_bytes c.args.word.now in
    let parses = rw c.as_str-text.ensures.value at c.parse.ensures.value.0 in
    let above : begins_above_zero word ≡ true = cc in
    unread _ c.args.most word c.parse.result _ c.ranges.most.fits parses above c.in_default.is
