-- What was read stays read: where other bytes follow, a part that was got or refused is got or refused in the same way.
use Rattle.std.specs.Prelude.{zero, suc, true, false, Bool, Option, Some, None, nat_le, ◌==◌, if◌then◌else◌, ◌⊎◌}
use Rattle.std.proofs.Common.{inl, inr, ◌≡◌, ℕ, ◌+◌, ◌<◌, ◌≤◌, List, [], ◌∷◌, ◌++◌, length, take, drop, refl, arith}
use Rattle.std.proofs.lemmas.Bool.{le-leb}
use Rattle.std.proofs.lemmas.Bool.Decides.{leb_tells}
use Rattle.std.proofs.lemmas.List.{length-append, take-append-le, drop-append-le}
use Rattle.pex_values.specs.Bits.{has_read, has_write}
use Rattle.pex_values.specs.Opcodes.{operands_of}
use Rattle.pex_values.specs.declared.values.SizeForm.TheVariants.{Counted, Bare}
use Rattle.pex_codec.specs.declared.faults.PexRule.{PexRule}
use Rattle.pex_codec.specs.declared.faults.PexRule.TheVariants.{BadSize}
use Rattle.pex_codec.specs.declared.cursor.FileHeader.{FileHeader}
use Rattle.pex_codec.specs.declared.cursor.FunctionHead.{FunctionHead}
use Rattle.pex_codec.specs.declared.cursor.PropertyHead.{PropertyHead}
use Rattle.pex_codec.specs.declared.cursor.ObjectHead.{ObjectHead}
use Rattle.pex_codec.specs.declared.cursor.LinesHead.{LinesHead}
use Rattle.pex_codec.specs.Reading.{Reading, Reader, Got, Short, Refused, then_read, read_as, judged, byte_at, bytes_at, number_at, reference_at, string_at, items_at, list_at, optional_at, datum_with, kind_at, datum_at, pair_at, opcode_at, count_at, instruction_with, instruction_at, function_head_at, function_with, function_at, named_at, state_at, variable_at, property_head_at, property_with, property_at, object_head_at, size_form_at, object_with, object_at, lines_head_at, lines_with, lines_at, debug_flag_at, debug_with, debug_at, flag_at, heading_at, Texts, texts_at, pex_with, pex_at}

abbrev pub Extends : {A : Type 0} → Reading A → Reading A → List ℕ → Type 0
Extends (Got part at rest) more x = more ≡ Got part at (rest ++ x)
Extends Short more x = Unit {0}
Extends (Refused offset rule) more x = more ≡ Refused offset rule

abbrev pub IsStable : {A : Type 0} → Reader A → Type 0
IsStable reader = (at : ℕ) (bytes x : List ℕ) → Extends (reader at bytes) (reader at (bytes ++ x)) x

-- ---- the ways of reading

pub then_extends : {A B : Type 0} (r more : Reading A) (x : List ℕ) (next : A → Reader B) → Extends r more x → ((a : A) → IsStable (next a))
    → Extends (then_read r next) (then_read more next) x
then_extends (Got part at rest) more x next same each = rw same (each part at rest x)
then_extends Short more x next same each = tt
then_extends (Refused offset rule) more x next same each = rw same refl

pub as_extends : {A B : Type 0} (view : A → B) (r more : Reading A) (x : List ℕ) → Extends r more x → Extends (read_as view r) (read_as view more) x
as_extends view (Got part at rest) more x same = rw same refl
as_extends view Short more x same = tt
as_extends view (Refused offset rule) more x same = rw same refl

tested : {A : Type 0} (passes : Bool) (part : A) (at : ℕ) (rest x : List ℕ) (rule : PexRule) (offset : ℕ)
    → Extends (if passes then Got part at rest else Refused offset rule) (if passes then Got part at (rest ++ x) else Refused offset rule) x
tested true part at rest x rule offset = refl
tested false part at rest x rule offset = refl

pub judged_extends : {A : Type 0} (test : A → Bool) (rule : PexRule) (offset : ℕ) (r more : Reading A) (x : List ℕ) → Extends r more x
    → Extends (judged test rule offset r) (judged test rule offset more) x
judged_extends test rule offset (Got part at rest) more x same = rw same (tested (test part) part at rest x rule offset)
judged_extends test rule offset Short more x same = tt
judged_extends test rule offset (Refused earlier broken) more x same = rw same refl

-- ---- numbers, references, strings and lists

pub byte_stable : IsStable byte_at
byte_stable at [] x = tt
byte_stable at (byte ∷ rest) x = refl

bytes_by : (count at : ℕ) (bytes x : List ℕ) → ((nat_le count (length bytes) ≡ true) × (count ≤ length bytes)) ⊎ ((nat_le count (length bytes) ≡ false) × (length bytes < count))
    → Extends (bytes_at count at bytes) (bytes_at count at (bytes ++ x)) x
unfolding bytes_at
bytes_by count at bytes x (inl p) =
    let more : nat_le count (length (bytes ++ x)) ≡ true = le-leb count (length (bytes ++ x)) (omega (arith, length-append bytes x, p.1)) in
    rw (p.0, more, take-append-le count bytes x p.1, drop-append-le count bytes x p.1) refl
bytes_by count at bytes x (inr p) = rw p.0 tt

pub bytes_stable : (count : ℕ) → IsStable (bytes_at count)
bytes_stable count at bytes x = bytes_by count at bytes x (leb_tells count (length bytes))

pub number_stable : (width : ℕ) → IsStable (number_at width)
unfolding number_at
number_stable width at bytes x = as_extends _ (bytes_at width at bytes) (bytes_at width at (bytes ++ x)) x (bytes_stable width at bytes x)

pub reference_stable : (strings : ℕ) → IsStable (reference_at strings)
unfolding reference_at
reference_stable strings at bytes x = judged_extends _ _ at (number_at 2 at bytes) (number_at 2 at (bytes ++ x)) x (number_stable 2 at bytes x)

pub string_stable : IsStable string_at
unfolding string_at
string_stable at bytes x = then_extends (number_at 2 at bytes) (number_at 2 at (bytes ++ x)) x bytes_at (number_stable 2 at bytes x) bytes_stable

pub items_stable : {A : Type 0} (item : Reader A) → IsStable item → (n : ℕ) → IsStable (items_at item n)
items_stable item one zero at bytes x = refl
items_stable item one (suc n) at bytes x =
    then_extends (item at bytes) (item at (bytes ++ x)) x _ (one at bytes x)
    (λ first at1 rest1 y. as_extends _ (items_at item n at1 rest1) (items_at item n at1 (rest1 ++ y)) y (items_stable item one n at1 rest1 y))

pub list_stable : {A : Type 0} (item : Reader A) → IsStable item → IsStable (list_at item)
unfolding list_at
list_stable item one at bytes x = then_extends (number_at 2 at bytes) (number_at 2 at (bytes ++ x)) x (items_at item) (number_stable 2 at bytes x) (items_stable item one)

pub optional_stable : {A : Type 0} (asked : Bool) (part : Reader A) → IsStable part → IsStable (optional_at asked part)
optional_stable true part one at bytes x = as_extends Some (part at bytes) (part at (bytes ++ x)) x (one at bytes x)
optional_stable false part one at bytes x = refl

-- two readers in a row, and a reader whose part is seen in another way
pub then_stable : {A B : Type 0} (first : Reader A) (next : A → Reader B) → IsStable first → ((a : A) → IsStable (next a)) → IsStable (λ at bytes. then_read (first at bytes) next)
then_stable first next one each at bytes x = then_extends (first at bytes) (first at (bytes ++ x)) x next (one at bytes x) each

pub as_stable : {A B : Type 0} (view : A → B) (reader : Reader A) → IsStable reader → IsStable (λ at bytes. read_as view (reader at bytes))
as_stable view reader one at bytes x = as_extends view (reader at bytes) (reader at (bytes ++ x)) x (one at bytes x)

pub judged_stable : {A : Type 0} (test : A → Bool) (rule : PexRule) (reader : Reader A) → IsStable reader → IsStable (λ at bytes. judged test rule at (reader at bytes))
judged_stable test rule reader one at bytes x = judged_extends test rule at (reader at bytes) (reader at (bytes ++ x)) x (one at bytes x)

-- ---- values and code

datum_with_stable : (strings kind : ℕ) → IsStable (datum_with strings kind)
datum_with_stable strings zero at rest x = refl
datum_with_stable strings (suc zero) at rest x = as_stable _ (reference_at strings) (reference_stable strings) at rest x
datum_with_stable strings (suc (suc zero)) at rest x = as_stable _ (reference_at strings) (reference_stable strings) at rest x
datum_with_stable strings (suc (suc (suc zero))) at rest x = as_stable _ (number_at 4) (number_stable 4) at rest x
datum_with_stable strings (suc (suc (suc (suc zero)))) at rest x = as_stable _ (number_at 4) (number_stable 4) at rest x
datum_with_stable strings (suc (suc (suc (suc (suc kind))))) at rest x = as_stable _ byte_at byte_stable at rest x

pub kind_stable : IsStable kind_at
unfolding kind_at
kind_stable = judged_stable _ _ byte_at byte_stable

pub datum_stable : (strings : ℕ) → IsStable (datum_at strings)
unfolding datum_at
datum_stable strings = then_stable kind_at (datum_with strings) kind_stable (datum_with_stable strings)

pub pair_stable : (strings : ℕ) → IsStable (pair_at strings)
unfolding pair_at
pair_stable strings = then_stable (reference_at strings) _ (reference_stable strings) (λ name. as_stable _ (reference_at strings) (reference_stable strings))

pub opcode_stable : IsStable opcode_at
unfolding opcode_at
opcode_stable = judged_stable _ _ byte_at byte_stable

pub count_stable : IsStable count_at
unfolding count_at
count_stable at bytes x =
    then_extends _ _ x _ (judged_extends _ _ at (kind_at at bytes) (kind_at at (bytes ++ x)) x (kind_stable at bytes x))
    (λ kind at1 rest1 y. judged_extends _ _ at (number_at 4 at1 rest1) (number_at 4 at1 (rest1 ++ y)) y (number_stable 4 at1 rest1 y))

instruction_with_stable : (strings opcode : ℕ) (operands : Option (ℕ × Bool)) → IsStable (instruction_with strings opcode operands)
instruction_with_stable strings opcode (Some (n, true)) at bytes x =
    then_stable (items_at (datum_at strings) n) _ (items_stable (datum_at strings) (datum_stable strings) n)
    (λ fixed. then_stable count_at _ count_stable (λ count. as_stable _ (items_at (datum_at strings) count) (items_stable (datum_at strings) (datum_stable strings) count))) at bytes x
instruction_with_stable strings opcode (Some (n, false)) at bytes x = as_stable _ (items_at (datum_at strings) n) (items_stable (datum_at strings) (datum_stable strings) n) at bytes x
instruction_with_stable strings opcode None at bytes x = tt

pub instruction_stable : (strings : ℕ) → IsStable (instruction_at strings)
unfolding instruction_at
instruction_stable strings = then_stable opcode_at _ opcode_stable (λ opcode. instruction_with_stable strings opcode (operands_of opcode))

-- ---- functions

pub function_head_stable : (strings : ℕ) → IsStable (function_head_at strings)
unfolding function_head_at
function_head_stable strings =
    then_stable (reference_at strings) _ (reference_stable strings) (λ result. then_stable (reference_at strings) _ (reference_stable strings)
    (λ doc. then_stable (number_at 4) _ (number_stable 4) (λ flags. then_stable byte_at _ byte_stable (λ bits. as_stable _ (number_at 2) (number_stable 2)))))

pub function_with_stable : (strings : ℕ) (head : FunctionHead) → IsStable (function_with strings head)
function_with_stable strings head =
    then_stable (items_at (pair_at strings) head.parameters) _ (items_stable (pair_at strings) (pair_stable strings) head.parameters)
    (λ parameters. then_stable (list_at (pair_at strings)) _ (list_stable (pair_at strings) (pair_stable strings))
    (λ locals. as_stable _ (list_at (instruction_at strings)) (list_stable (instruction_at strings) (instruction_stable strings))))

pub function_stable : (strings : ℕ) → IsStable (function_at strings)
unfolding function_at
function_stable strings = then_stable (function_head_at strings) (function_with strings) (function_head_stable strings) (function_with_stable strings)

pub named_stable : (strings : ℕ) → IsStable (named_at strings)
unfolding named_at
named_stable strings = then_stable (reference_at strings) _ (reference_stable strings) (λ name. as_stable _ (function_at strings) (function_stable strings))

pub state_stable : (strings : ℕ) → IsStable (state_at strings)
unfolding state_at
state_stable strings =
    then_stable (reference_at strings) _ (reference_stable strings) (λ name. as_stable _ (list_at (named_at strings)) (list_stable (named_at strings) (named_stable strings)))

-- ---- variables, properties and objects

pub variable_stable : (strings : ℕ) → IsStable (variable_at strings)
unfolding variable_at
variable_stable strings =
    then_stable (reference_at strings) _ (reference_stable strings) (λ name. then_stable (reference_at strings) _ (reference_stable strings)
    (λ kind. then_stable (number_at 4) _ (number_stable 4) (λ flags. as_stable _ (datum_at strings) (datum_stable strings))))

pub property_head_stable : (strings : ℕ) → IsStable (property_head_at strings)
unfolding property_head_at
property_head_stable strings =
    then_stable (reference_at strings) _ (reference_stable strings) (λ name. then_stable (reference_at strings) _ (reference_stable strings)
    (λ kind. then_stable (reference_at strings) _ (reference_stable strings) (λ doc. then_stable (number_at 4) _ (number_stable 4)
    (λ flags. then_stable byte_at _ byte_stable (λ bits. as_stable _ _ (optional_stable _ (reference_at strings) (reference_stable strings)))))))

pub property_with_stable : (strings : ℕ) (head : PropertyHead) → IsStable (property_with strings head)
property_with_stable strings head =
    then_stable (optional_at (has_read head.bits) (function_at strings)) _ (optional_stable (has_read head.bits) (function_at strings) (function_stable strings))
    (λ read. as_stable _ (optional_at (has_write head.bits) (function_at strings)) (optional_stable (has_write head.bits) (function_at strings) (function_stable strings)))

pub property_stable : (strings : ℕ) → IsStable (property_at strings)
unfolding property_at
property_stable strings = then_stable (property_head_at strings) (property_with strings) (property_head_stable strings) (property_with_stable strings)

pub object_head_stable : (strings : ℕ) → IsStable (object_head_at strings)
unfolding object_head_at
object_head_stable strings =
    then_stable (reference_at strings) _ (reference_stable strings) (λ name at1 rest1 x. then_extends _ _ x _ (number_stable 4 at1 rest1 x)
    (λ size. then_stable (reference_at strings) _ (reference_stable strings) (λ parent. then_stable (reference_at strings) _ (reference_stable strings)
    (λ doc. then_stable (number_at 4) _ (number_stable 4) (λ flags. then_stable (reference_at strings) _ (reference_stable strings)
    (λ auto_state. as_stable _ (number_at 2) (number_stable 2)))))))

by_sizes : (counted bare : Bool) (size_at at : ℕ) (bytes x : List ℕ)
    → Extends (if counted then Got Counted at bytes else (if bare then Got Bare at bytes else Refused size_at BadSize))
    (if counted then Got Counted at (bytes ++ x) else (if bare then Got Bare at (bytes ++ x) else Refused size_at BadSize)) x
by_sizes true bare size_at at bytes x = refl
by_sizes false true size_at at bytes x = refl
by_sizes false false size_at at bytes x = refl

pub size_form_stable : (size_at size : ℕ) → IsStable (size_form_at size_at size)
size_form_stable size_at size at bytes x = by_sizes (size_at + size == at) (size_at + 4 + size == at) size_at at bytes x

pub object_with_stable : (strings : ℕ) (head : ObjectHead) → IsStable (object_with strings head)
object_with_stable strings head =
    then_stable (items_at (variable_at strings) head.variables) _ (items_stable (variable_at strings) (variable_stable strings) head.variables)
    (λ variables. then_stable (list_at (property_at strings)) _ (list_stable (property_at strings) (property_stable strings))
    (λ properties. then_stable (list_at (state_at strings)) _ (list_stable (state_at strings) (state_stable strings))
    (λ states. as_stable _ (size_form_at head.size_at head.size) (size_form_stable head.size_at head.size))))

pub object_stable : (strings : ℕ) → IsStable (object_at strings)
unfolding object_at
object_stable strings = then_stable (object_head_at strings) (object_with strings) (object_head_stable strings) (object_with_stable strings)

-- ---- debug information, flags and the file

pub lines_head_stable : (strings : ℕ) → IsStable (lines_head_at strings)
unfolding lines_head_at
lines_head_stable strings =
    then_stable (reference_at strings) _ (reference_stable strings) (λ object. then_stable (reference_at strings) _ (reference_stable strings)
    (λ state. then_stable (reference_at strings) _ (reference_stable strings) (λ function. then_stable byte_at _ byte_stable (λ kind. as_stable _ (number_at 2) (number_stable 2)))))

pub lines_with_stable : (head : LinesHead) → IsStable (lines_with head)
lines_with_stable head = as_stable _ (items_at (number_at 2) head.lines) (items_stable (number_at 2) (number_stable 2) head.lines)

pub lines_stable : (strings : ℕ) → IsStable (lines_at strings)
unfolding lines_at
lines_stable strings = then_stable (lines_head_at strings) lines_with (lines_head_stable strings) lines_with_stable

pub debug_flag_stable : IsStable debug_flag_at
unfolding debug_flag_at
debug_flag_stable = judged_stable _ _ byte_at byte_stable

debug_with_stable : (strings flag : ℕ) → IsStable (debug_with strings flag)
debug_with_stable strings zero at bytes x = refl
debug_with_stable strings (suc flag) at bytes x =
    then_stable (number_at 8) _ (number_stable 8) (λ time. as_stable _ (list_at (lines_at strings)) (list_stable (lines_at strings) (lines_stable strings))) at bytes x

pub debug_stable : (strings : ℕ) → IsStable (debug_at strings)
unfolding debug_at
debug_stable strings = then_stable debug_flag_at (debug_with strings) debug_flag_stable (debug_with_stable strings)

pub flag_stable : (strings : ℕ) → IsStable (flag_at strings)
unfolding flag_at
flag_stable strings = then_stable (reference_at strings) _ (reference_stable strings) (λ name. as_stable _ byte_at byte_stable)

pub heading_stable : IsStable heading_at
unfolding heading_at
heading_stable =
    then_stable _ _ (judged_stable _ _ (number_at 4) (number_stable 4)) (λ magic. then_stable _ _ (judged_stable _ _ byte_at byte_stable)
    (λ major. then_stable _ _ (judged_stable _ _ byte_at byte_stable) (λ minor. then_stable _ _ (judged_stable _ _ (number_at 2) (number_stable 2))
    (λ game. as_stable _ (number_at 8) (number_stable 8)))))

pub texts_stable : IsStable texts_at
unfolding texts_at
texts_stable =
    then_stable string_at _ string_stable (λ source. then_stable string_at _ string_stable (λ user. then_stable string_at _ string_stable
    (λ machine. as_stable _ (list_at string_at) (list_stable string_at string_stable))))

pub pex_with_stable : (heading : FileHeader) (texts : Texts) → IsStable (pex_with heading texts)
pex_with_stable heading texts =
    let strings = length texts.strings in
    then_stable (debug_at strings) _ (debug_stable strings) (λ debug. then_stable (list_at (flag_at strings)) _ (list_stable (flag_at strings) (flag_stable strings))
    (λ user_flags. as_stable _ (list_at (object_at strings)) (list_stable (object_at strings) (object_stable strings))))

pub pex_stable : IsStable pex_at
unfolding pex_at
pex_stable = then_stable heading_at _ heading_stable (λ heading. then_stable texts_at _ texts_stable (λ texts. pex_with_stable heading texts))
