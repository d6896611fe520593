-- Each reader stands behind what it read: so many bytes further in the same bytes.
use Rattle.std.specs.Prelude.{Bool, true, false, Option, Some, None, nat_le, if◌then◌else◌, ◌==◌}
use Rattle.std.proofs.Common.{◌≡◌, ℕ, ◌+◌, ◌≤◌, zero, suc, List, [], ◌∷◌, length, take, drop, refl, sym, ap, subst, ◌∙◌, arith, length-drop}
use Rattle.std.proofs.lemmas.Bool.{leb-true}
use Rattle.std.proofs.lemmas.List.{drop-drop}
use Rattle.pex_values.specs.Opcodes.{operands_of}
use Rattle.pex_values.specs.Bits.{has_variable}
use Rattle.pex_codec.specs.Scanning.{with_strings, times_at}
use Rattle.pex_codec.specs.declared.scan.Part.TheVariants as part
use Rattle.pex_codec.specs.Opening.{Moved, fixed_with, fixed_at, state_count_at, debug_count_with, debug_count_at}
use Rattle.pex_codec.specs.Reading.{Reading, Reader, Got, Short, Refused, then_read, read_as, judged, byte_at, bytes_at, number_at, reference_at, string_at, items_at, optional_at, datum_with, kind_at, datum_at, pair_at, opcode_at, count_at, variable_at, function_head_at, property_head_at, object_head_at, size_form_at, lines_head_at, debug_flag_at, flag_at, heading_at}
use Rattle.pex_values.specs.declared.values.SizeForm.{SizeForm}
use Rattle.pex_values.specs.declared.values.SizeForm.TheVariants.{Counted, Bare}
use Rattle.pex_codec.specs.declared.faults.PexRule.{PexRule}
use Rattle.pex_codec.specs.declared.faults.PexRule.TheVariants.{BadSize}

abbrev pub Moves : {A : Type 0} → ℕ → Reading A → ℕ → List ℕ → Type 0
Moves least (Got part at rest) from bytes = Moved least from bytes at rest
Moves least Short from bytes = Unit {0}
Moves least (Refused offset rule) from bytes = Unit {0}

-- where the part was read
pub moved : {A : Type 0} (least : ℕ) (r : Reading A) (from : ℕ) (bytes : List ℕ) (part : A) (at : ℕ) (rest : List ℕ) → Moves least r from bytes → r ≡ Got part at rest → Moved least from bytes at rest
moved least r from bytes part at rest moves is = subst (λ (reading : Reading _). Moves least reading from bytes) is moves

pub stays : (from : ℕ) (bytes : List ℕ) → Moved 0 from bytes from bytes
stays from bytes = record { count = 0; within = omega arith; enough = omega arith; at = omega arith; rest = refl }

moved_on : (least from : ℕ) (bytes : List ℕ) (to : ℕ) (behind : List ℕ) (end : ℕ) (rest : List ℕ) → Moved least from bytes to behind → Moved 0 to behind end rest → Moved least from bytes end rest
moved_on least from bytes to behind end rest first second = record {
  count = first.count + second.count;
  within = omega (arith, second.within, ap length first.rest, length-drop first.count bytes, first.within);
  enough = omega arith;
  at = omega arith;
  rest = second.rest ∙ ap (λ (xs : List ℕ). drop second.count xs) first.rest ∙ drop-drop second.count first.count bytes;
}

on : {A : Type 0} (least from : ℕ) (bytes : List ℕ) (to : ℕ) (behind : List ℕ) (r : Reading A) → Moved least from bytes to behind → Moves 0 r to behind → Moves least r from bytes
on least from bytes to behind (Got part at rest) first second = moved_on least from bytes to behind at rest first second
on least from bytes to behind Short first second = tt
on least from bytes to behind (Refused o rule) first second = tt

moves_then : {A B : Type 0} (least from : ℕ) (bytes : List ℕ) (r : Reading A) (next : A → Reader B)
    → Moves least r from bytes → ((a : A) (at : ℕ) (rest : List ℕ) → Moves 0 (next a at rest) at rest) → Moves least (then_read r next) from bytes
moves_then least from bytes (Got part at rest) next first second = on least from bytes at rest (next part at rest) first (second part at rest)
moves_then least from bytes Short next first second = tt
moves_then least from bytes (Refused o rule) next first second = tt

moves_as : {A B : Type 0} (view : A → B) (least from : ℕ) (bytes : List ℕ) (r : Reading A) → Moves least r from bytes → Moves least (read_as view r) from bytes
moves_as view least from bytes (Got part at rest) moves = moves
moves_as view least from bytes Short moves = tt
moves_as view least from bytes (Refused o rule) moves = tt

one_of : {A : Type 0} (test : Bool) (a b : Reading A) (least from : ℕ) (bytes : List ℕ) → Moves least a from bytes → Moves least b from bytes → Moves least (if test then a else b) from bytes
one_of true a b least from bytes x y = x
one_of false a b least from bytes x y = y

moves_judged : {A : Type 0} (test : A → Bool) (rule : PexRule) (offset least from : ℕ) (bytes : List ℕ) (r : Reading A) → Moves least r from bytes → Moves least (judged test rule offset r) from bytes
moves_judged test rule offset least from bytes (Got part at rest) moves = one_of (test part) (Got part at rest) (Refused offset rule) least from bytes moves tt
moves_judged test rule offset least from bytes Short moves = tt
moves_judged test rule offset least from bytes (Refused o earlier) moves = tt

less : {A : Type 0} (least from : ℕ) (bytes : List ℕ) (r : Reading A) → Moves least r from bytes → Moves 0 r from bytes
less least from bytes (Got part at rest) moves = record { count = moves.count; within = moves.within; enough = omega arith; at = moves.at; rest = moves.rest }
less least from bytes Short moves = tt
less least from bytes (Refused o rule) moves = tt

down : {A : Type 0} (least from : ℕ) (bytes : List ℕ) (r : Reading A) → 1 ≤ least → Moves least r from bytes → Moves 1 r from bytes
down least from bytes (Got part at rest) some moves = record { count = moves.count; within = moves.within; enough = omega arith; at = moves.at; rest = moves.rest }
down least from bytes Short some moves = tt
down least from bytes (Refused o rule) some moves = tt

-- ---- numbers and strings

pub byte_moves : (at : ℕ) (bytes : List ℕ) → Moves 1 (byte_at at bytes) at bytes
byte_moves at [] = tt
byte_moves at (byte ∷ rest) = record { count = 1; within = omega arith; enough = omega arith; at = omega arith; rest = refl }

taken_moves : (there : Bool) (count at : ℕ) (bytes : List ℕ) → (there ≡ true → count ≤ length bytes) → Moves count (if there then Got (take count bytes) (at + count) (drop count bytes) else Short) at bytes
taken_moves true count at bytes within = record { count = count; within = within refl; enough = omega arith; at = refl; rest = refl }
taken_moves false count at bytes within = tt

pub bytes_move : (count at : ℕ) (bytes : List ℕ) → Moves count (bytes_at count at bytes) at bytes
unfolding bytes_at
bytes_move count at bytes = taken_moves (nat_le count (length bytes)) count at bytes (λ is. leb-true count (length bytes) is)

pub number_moves : (width at : ℕ) (bytes : List ℕ) → Moves width (number_at width at bytes) at bytes
unfolding number_at
number_moves width at bytes = moves_as _ width at bytes (bytes_at width at bytes) (bytes_move width at bytes)

pub number_on : (width at : ℕ) (bytes : List ℕ) → 1 ≤ width → Moves 1 (number_at width at bytes) at bytes
number_on width at bytes some = down width at bytes (number_at width at bytes) some (number_moves width at bytes)

pub reference_moves : (strings at : ℕ) (bytes : List ℕ) → Moves 1 (reference_at strings at bytes) at bytes
unfolding reference_at
reference_moves strings at bytes = moves_judged _ _ at 1 at bytes (number_at 2 at bytes) (number_on 2 at bytes (omega arith))

pub string_moves : (at : ℕ) (bytes : List ℕ) → Moves 1 (string_at at bytes) at bytes
unfolding string_at
string_moves at bytes = moves_then 1 at bytes (number_at 2 at bytes) bytes_at (number_on 2 at bytes (omega arith)) (λ n at1 rest1. less n at1 rest1 (bytes_at n at1 rest1) (bytes_move n at1 rest1))

pub items_move : {A : Type 0} (item : Reader A) (n at : ℕ) (bytes : List ℕ) → ((at1 : ℕ) (rest1 : List ℕ) → Moves 0 (item at1 rest1) at1 rest1) → Moves 0 (items_at item n at bytes) at bytes
items_move item zero at bytes one = stays at bytes
items_move item (suc n) at bytes one =
    moves_then 0 at bytes (item at bytes) _ (one at bytes) (λ first at1 rest1. moves_as _ 0 at1 rest1 (items_at item n at1 rest1) (items_move item n at1 rest1 one))

optional_moves : {A : Type 0} (asked : Bool) (item : Reader A) (at : ℕ) (bytes : List ℕ) → Moves 0 (item at bytes) at bytes → Moves 0 (optional_at asked item at bytes) at bytes
optional_moves true item at bytes one = moves_as Some 0 at bytes (item at bytes) one
optional_moves false item at bytes one = stays at bytes

-- ---- the same where no number of bytes is asked for

byte_0 : (at : ℕ) (bytes : List ℕ) → Moves 0 (byte_at at bytes) at bytes
byte_0 at bytes = less 1 at bytes (byte_at at bytes) (byte_moves at bytes)

number_0 : (width at : ℕ) (bytes : List ℕ) → Moves 0 (number_at width at bytes) at bytes
number_0 width at bytes = less width at bytes (number_at width at bytes) (number_moves width at bytes)

reference_0 : (strings at : ℕ) (bytes : List ℕ) → Moves 0 (reference_at strings at bytes) at bytes
reference_0 strings at bytes = less 1 at bytes (reference_at strings at bytes) (reference_moves strings at bytes)

-- ---- values and code

pub kind_moves : (at : ℕ) (bytes : List ℕ) → Moves 1 (kind_at at bytes) at bytes
unfolding kind_at
kind_moves at bytes = moves_judged _ _ at 1 at bytes (byte_at at bytes) (byte_moves at bytes)

datum_rest : (strings kind at : ℕ) (rest : List ℕ) → Moves 0 (datum_with strings kind at rest) at rest
datum_rest strings zero at rest = stays at rest
datum_rest strings (suc zero) at rest = moves_as _ 0 at rest (reference_at strings at rest) (reference_0 strings at rest)
datum_rest strings (suc (suc zero)) at rest = moves_as _ 0 at rest (reference_at strings at rest) (reference_0 strings at rest)
datum_rest strings (suc (suc (suc zero))) at rest = moves_as _ 0 at rest (number_at 4 at rest) (number_0 4 at rest)
datum_rest strings (suc (suc (suc (suc zero)))) at rest = moves_as _ 0 at rest (number_at 4 at rest) (number_0 4 at rest)
datum_rest strings (suc (suc (suc (suc (suc n))))) at rest = moves_as _ 0 at rest (byte_at at rest) (byte_0 at rest)

pub datum_moves : (strings at : ℕ) (bytes : List ℕ) → Moves 1 (datum_at strings at bytes) at bytes
unfolding datum_at
datum_moves strings at bytes = moves_then 1 at bytes (kind_at at bytes) (datum_with strings) (kind_moves at bytes) (datum_rest strings)

datum_0 : (strings at : ℕ) (bytes : List ℕ) → Moves 0 (datum_at strings at bytes) at bytes
datum_0 strings at bytes = less 1 at bytes (datum_at strings at bytes) (datum_moves strings at bytes)

pub pair_moves : (strings at : ℕ) (bytes : List ℕ) → Moves 1 (pair_at strings at bytes) at bytes
unfolding pair_at
pair_moves strings at bytes =
    moves_then 1 at bytes (reference_at strings at bytes) _ (reference_moves strings at bytes) (λ name at1 rest1. moves_as _ 0 at1 rest1 (reference_at strings at1 rest1) (reference_0 strings at1 rest1))

pub opcode_moves : (at : ℕ) (bytes : List ℕ) → Moves 1 (opcode_at at bytes) at bytes
unfolding opcode_at
opcode_moves at bytes = moves_judged _ _ at 1 at bytes (byte_at at bytes) (byte_moves at bytes)

count_0 : (at : ℕ) (bytes : List ℕ) → Moves 0 (count_at at bytes) at bytes
unfolding count_at
count_0 at bytes =
    moves_then 0 at bytes (judged _ _ at (kind_at at bytes)) _ (moves_judged _ _ at 0 at bytes (kind_at at bytes) (less 1 at bytes (kind_at at bytes) (kind_moves at bytes)))
    (λ kind at1 rest1. moves_judged _ _ at 0 at1 rest1 (number_at 4 at1 rest1) (number_0 4 at1 rest1))

pub operands_move : (n strings at : ℕ) (bytes : List ℕ) → Moves 0 (times_at part.Operand n strings at bytes) at bytes
operands_move zero strings at bytes = stays at bytes
operands_move (suc n) strings at bytes =
    moves_then 0 at bytes (with_strings strings (datum_at strings at bytes)) _ (moves_as _ 0 at bytes (datum_at strings at bytes) (datum_0 strings at bytes))
    (λ strings1 at1 rest1. operands_move n strings1 at1 rest1)

fixed_rest : (strings : ℕ) (operands : Option (ℕ × Bool)) (at : ℕ) (bytes : List ℕ) → Moves 0 (fixed_with strings operands at bytes) at bytes
fixed_rest strings (Some (n, true)) at bytes =
    moves_then 0 at bytes (times_at part.Operand n strings at bytes) _ (operands_move n strings at bytes) (λ fixed at1 rest1. count_0 at1 rest1)
fixed_rest strings (Some (n, false)) at bytes = moves_as _ 0 at bytes (times_at part.Operand n strings at bytes) (operands_move n strings at bytes)
fixed_rest strings None at bytes = tt

pub fixed_moves : (strings at : ℕ) (bytes : List ℕ) → Moves 1 (fixed_at strings at bytes) at bytes
unfolding fixed_at
fixed_moves strings at bytes = moves_then 1 at bytes (opcode_at at bytes) _ (opcode_moves at bytes) (λ opcode at1 rest1. fixed_rest strings (operands_of opcode) at1 rest1)

-- ---- heads

pub function_head_moves : (strings at : ℕ) (bytes : List ℕ) → Moves 1 (function_head_at strings at bytes) at bytes
unfolding function_head_at
function_head_moves strings at bytes =
    moves_then 1 at bytes (reference_at strings at bytes) _ (reference_moves strings at bytes)
    (λ a at1 rest1. moves_then 0 at1 rest1 (reference_at strings at1 rest1) _ (reference_0 strings at1 rest1)
    (λ b at2 rest2. moves_then 0 at2 rest2 (number_at 4 at2 rest2) _ (number_0 4 at2 rest2)
    (λ c at3 rest3. moves_then 0 at3 rest3 (byte_at at3 rest3) _ (byte_0 at3 rest3)
    (λ d at4 rest4. moves_as _ 0 at4 rest4 (number_at 2 at4 rest4) (number_0 2 at4 rest4)))))

pub variable_moves : (strings at : ℕ) (bytes : List ℕ) → Moves 1 (variable_at strings at bytes) at bytes
unfolding variable_at
variable_moves strings at bytes =
    moves_then 1 at bytes (reference_at strings at bytes) _ (reference_moves strings at bytes)
    (λ a at1 rest1. moves_then 0 at1 rest1 (reference_at strings at1 rest1) _ (reference_0 strings at1 rest1)
    (λ b at2 rest2. moves_then 0 at2 rest2 (number_at 4 at2 rest2) _ (number_0 4 at2 rest2)
    (λ c at3 rest3. moves_as _ 0 at3 rest3 (datum_at strings at3 rest3) (datum_0 strings at3 rest3))))

pub property_head_moves : (strings at : ℕ) (bytes : List ℕ) → Moves 1 (property_head_at strings at bytes) at bytes
unfolding property_head_at
property_head_moves strings at bytes =
    moves_then 1 at bytes (reference_at strings at bytes) _ (reference_moves strings at bytes)
    (λ a at1 rest1. moves_then 0 at1 rest1 (reference_at strings at1 rest1) _ (reference_0 strings at1 rest1)
    (λ b at2 rest2. moves_then 0 at2 rest2 (reference_at strings at2 rest2) _ (reference_0 strings at2 rest2)
    (λ c at3 rest3. moves_then 0 at3 rest3 (number_at 4 at3 rest3) _ (number_0 4 at3 rest3)
    (λ d at4 rest4. moves_then 0 at4 rest4 (byte_at at4 rest4) _ (byte_0 at4 rest4)
    (λ bits at5 rest5. moves_as _ 0 at5 rest5 (optional_at (has_variable bits) (reference_at strings) at5 rest5) (optional_moves (has_variable bits) (reference_at strings) at5 rest5 (reference_0 strings at5 rest5)))))))

pub object_head_moves : (strings at : ℕ) (bytes : List ℕ) → Moves 1 (object_head_at strings at bytes) at bytes
unfolding object_head_at
object_head_moves strings at bytes =
    moves_then 1 at bytes (reference_at strings at bytes) _ (reference_moves strings at bytes)
    (λ a at1 rest1. moves_then 0 at1 rest1 (number_at 4 at1 rest1) _ (number_0 4 at1 rest1)
    (λ b at2 rest2. moves_then 0 at2 rest2 (reference_at strings at2 rest2) _ (reference_0 strings at2 rest2)
    (λ c at3 rest3. moves_then 0 at3 rest3 (reference_at strings at3 rest3) _ (reference_0 strings at3 rest3)
    (λ d at4 rest4. moves_then 0 at4 rest4 (number_at 4 at4 rest4) _ (number_0 4 at4 rest4)
    (λ e at5 rest5. moves_then 0 at5 rest5 (reference_at strings at5 rest5) _ (reference_0 strings at5 rest5)
    (λ f at6 rest6. moves_as _ 0 at6 rest6 (number_at 2 at6 rest6) (number_0 2 at6 rest6)))))))

pub lines_head_moves : (strings at : ℕ) (bytes : List ℕ) → Moves 1 (lines_head_at strings at bytes) at bytes
unfolding lines_head_at
lines_head_moves strings at bytes =
    moves_then 1 at bytes (reference_at strings at bytes) _ (reference_moves strings at bytes)
    (λ a at1 rest1. moves_then 0 at1 rest1 (reference_at strings at1 rest1) _ (reference_0 strings at1 rest1)
    (λ b at2 rest2. moves_then 0 at2 rest2 (reference_at strings at2 rest2) _ (reference_0 strings at2 rest2)
    (λ c at3 rest3. moves_then 0 at3 rest3 (byte_at at3 rest3) _ (byte_0 at3 rest3)
    (λ d at4 rest4. moves_as _ 0 at4 rest4 (number_at 2 at4 rest4) (number_0 2 at4 rest4)))))

pub state_count_moves : (strings at : ℕ) (bytes : List ℕ) → Moves 1 (state_count_at strings at bytes) at bytes
unfolding state_count_at
state_count_moves strings at bytes = moves_then 1 at bytes (reference_at strings at bytes) _ (reference_moves strings at bytes) (λ name at1 rest1. number_0 2 at1 rest1)

-- ---- tables and the heading

pub flag_moves : (strings at : ℕ) (bytes : List ℕ) → Moves 1 (flag_at strings at bytes) at bytes
unfolding flag_at
flag_moves strings at bytes =
    moves_then 1 at bytes (reference_at strings at bytes) _ (reference_moves strings at bytes) (λ name at1 rest1. moves_as _ 0 at1 rest1 (byte_at at1 rest1) (byte_0 at1 rest1))

debug_count_rest : (flag at : ℕ) (bytes : List ℕ) → Moves 0 (debug_count_with flag at bytes) at bytes
debug_count_rest zero at bytes = stays at bytes
debug_count_rest (suc flag) at bytes = moves_then 0 at bytes (number_at 8 at bytes) _ (number_0 8 at bytes) (λ time at1 rest1. number_0 2 at1 rest1)

debug_flag_moves : (at : ℕ) (bytes : List ℕ) → Moves 1 (debug_flag_at at bytes) at bytes
unfolding debug_flag_at
debug_flag_moves at bytes = moves_judged _ _ at 1 at bytes (byte_at at bytes) (byte_moves at bytes)

pub debug_count_moves : (at : ℕ) (bytes : List ℕ) → Moves 1 (debug_count_at at bytes) at bytes
unfolding debug_count_at
debug_count_moves at bytes = moves_then 1 at bytes (debug_flag_at at bytes) debug_count_with (debug_flag_moves at bytes) debug_count_rest

pub heading_moves : (at : ℕ) (bytes : List ℕ) → Moves 1 (heading_at at bytes) at bytes
unfolding heading_at
heading_moves at bytes =
    moves_then 1 at bytes (judged _ _ at (number_at 4 at bytes)) _ (moves_judged _ _ at 1 at bytes (number_at 4 at bytes) (number_on 4 at bytes (omega arith)))
    (λ magic at1 rest1. moves_then 0 at1 rest1 (judged _ _ at1 (byte_at at1 rest1)) _ (moves_judged _ _ at1 0 at1 rest1 (byte_at at1 rest1) (byte_0 at1 rest1))
    (λ major at2 rest2. moves_then 0 at2 rest2 (judged _ _ at2 (byte_at at2 rest2)) _ (moves_judged _ _ at2 0 at2 rest2 (byte_at at2 rest2) (byte_0 at2 rest2))
    (λ minor at3 rest3. moves_then 0 at3 rest3 (judged _ _ at3 (number_at 2 at3 rest3)) _ (moves_judged _ _ at3 0 at3 rest3 (number_at 2 at3 rest3) (number_0 2 at3 rest3))
    (λ game at4 rest4. moves_as _ 0 at4 rest4 (number_at 8 at4 rest4) (number_0 8 at4 rest4)))))
