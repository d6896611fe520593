-- Only rules of fields refuse a part.
use Rattle.std.specs.Prelude.{zero, suc, true, false, Bool, Option, Some, None, nat_le, ◌==◌, if◌then◌else◌, ◌⊎◌}
use Rattle.std.proofs.Common.{inl, inr, ◌≡◌, ℕ, ◌+◌, ◌<◌, ◌≤◌, List, [], ◌∷◌, ◌++◌, length, take, drop, refl, arith}
use Rattle.std.proofs.lemmas.Bool.{le-leb}
use Rattle.std.proofs.lemmas.Bool.Decides.{leb_tells}
use Rattle.std.proofs.lemmas.List.{length-append, take-append-le, drop-append-le}
use Rattle.pex_values.specs.Bits.{has_read, has_write}
use Rattle.pex_values.specs.Opcodes.{operands_of}
use Rattle.pex_values.specs.declared.values.SizeForm.TheVariants.{Counted, Bare}
use Rattle.pex_codec.specs.declared.faults.PexRule.{PexRule}
use Rattle.pex_codec.specs.declared.faults.PexRule.TheVariants.{BadSize, Truncated, Trailing, TooLarge}
use Rattle.pex_codec.specs.declared.cursor.FileHeader.{FileHeader}
use Rattle.pex_codec.specs.declared.cursor.FunctionHead.{FunctionHead}
use Rattle.pex_codec.specs.declared.cursor.PropertyHead.{PropertyHead}
use Rattle.pex_codec.specs.declared.cursor.ObjectHead.{ObjectHead}
use Rattle.pex_codec.specs.declared.cursor.LinesHead.{LinesHead}
use Rattle.pex_codec.specs.Reading.{Reading, Reader, Got, Short, Refused, then_read, read_as, judged, byte_at, bytes_at, number_at, reference_at, string_at, items_at, list_at, optional_at, datum_with, kind_at, datum_at, pair_at, opcode_at, count_at, instruction_with, instruction_at, function_head_at, function_with, function_at, named_at, state_at, variable_at, property_head_at, property_with, property_at, object_head_at, size_form_at, object_with, object_at, lines_head_at, lines_with, lines_at, debug_flag_at, debug_with, debug_at, flag_at, heading_at, Texts, texts_at, pex_with, pex_at}

-- a rule that a field may break
abbrev pub IsOfField : PexRule → Type 0
IsOfField Truncated = ⊥
IsOfField Trailing = ⊥
IsOfField TooLarge = ⊥
IsOfField _ = Unit {0}

abbrev pub ByField : {A : Type 0} → Reading A → Type 0
ByField (Got part at rest) = Unit {0}
ByField Short = Unit {0}
ByField (Refused offset rule) = IsOfField rule

abbrev pub RefusesByField : {A : Type 0} → Reader A → Type 0
RefusesByField reader = (at : ℕ) (bytes : List ℕ) → ByField (reader at bytes)

-- ---- the ways of reading

then_by : {A B : Type 0} (r : Reading A) (next : A → Reader B) → ByField r → ((a : A) → RefusesByField (next a)) → ByField (then_read r next)
then_by (Got part at rest) next by each = each part at rest
then_by Short next by each = tt
then_by (Refused offset rule) next by each = by

as_by : {A B : Type 0} (view : A → B) (r : Reading A) → ByField r → ByField (read_as view r)
as_by view (Got part at rest) by = tt
as_by view Short by = tt
as_by view (Refused offset rule) by = by

tested : {A : Type 0} (passes : Bool) (part : A) (at : ℕ) (rest : List ℕ) (rule : PexRule) (offset : ℕ) → IsOfField rule → ByField (if passes then Got part at rest else Refused offset rule)
tested true part at rest rule offset is = tt
tested false part at rest rule offset is = is

judged_by : {A : Type 0} (test : A → Bool) (rule : PexRule) (offset : ℕ) (r : Reading A) → IsOfField rule → ByField r → ByField (judged test rule offset r)
judged_by test rule offset (Got part at rest) is by = tested (test part) part at rest rule offset is
judged_by test rule offset Short is by = tt
judged_by test rule offset (Refused earlier broken) is by = by

-- ---- numbers, references, strings and lists

byte_by_field : RefusesByField byte_at
byte_by_field at [] = tt
byte_by_field at (byte ∷ rest) = tt

bytes_if : (there : Bool) (count at : ℕ) (bytes : List ℕ) → ByField (if there then Got (take count bytes) (at + count) (drop count bytes) else Short)
bytes_if true count at bytes = tt
bytes_if false count at bytes = tt

bytes_by_field : (count : ℕ) → RefusesByField (bytes_at count)
unfolding bytes_at
bytes_by_field count at bytes = bytes_if (nat_le count (length bytes)) count at bytes

number_by_field : (width : ℕ) → RefusesByField (number_at width)
unfolding number_at
number_by_field width at bytes = as_by _ (bytes_at width at bytes) (bytes_by_field width at bytes)

reference_by_field : (strings : ℕ) → RefusesByField (reference_at strings)
unfolding reference_at
reference_by_field strings at bytes = judged_by _ _ at (number_at 2 at bytes) tt (number_by_field 2 at bytes)

string_by_field : RefusesByField string_at
unfolding string_at
string_by_field at bytes = then_by (number_at 2 at bytes) bytes_at (number_by_field 2 at bytes) bytes_by_field

items_by_field : {A : Type 0} (item : Reader A) → RefusesByField item → (n : ℕ) → RefusesByField (items_at item n)
items_by_field item one zero at bytes = tt
items_by_field item one (suc n) at bytes =
    then_by (item at bytes) _ (one at bytes) (λ first at1 rest1. as_by _ (items_at item n at1 rest1) (items_by_field item one n at1 rest1))

list_by_field : {A : Type 0} (item : Reader A) → RefusesByField item → RefusesByField (list_at item)
unfolding list_at
list_by_field item one at bytes = then_by (number_at 2 at bytes) (items_at item) (number_by_field 2 at bytes) (items_by_field item one)

optional_by_field : {A : Type 0} (asked : Bool) (part : Reader A) → RefusesByField part → RefusesByField (optional_at asked part)
optional_by_field true part one at bytes = as_by Some (part at bytes) (one at bytes)
optional_by_field false part one at bytes = tt

-- two readers in a row, and a reader whose part is seen in another way
then_field : {A B : Type 0} (first : Reader A) (next : A → Reader B) → RefusesByField first → ((a : A) → RefusesByField (next a)) → RefusesByField (λ at bytes. then_read (first at bytes) next)
then_field first next one each at bytes = then_by (first at bytes) next (one at bytes) each

as_field : {A B : Type 0} (view : A → B) (reader : Reader A) → RefusesByField reader → RefusesByField (λ at bytes. read_as view (reader at bytes))
as_field view reader one at bytes = as_by view (reader at bytes) (one at bytes)

judged_field : {A : Type 0} (test : A → Bool) (rule : PexRule) (reader : Reader A) → IsOfField rule → RefusesByField reader → RefusesByField (λ at bytes. judged test rule at (reader at bytes))
judged_field test rule reader is one at bytes = judged_by test rule at (reader at bytes) is (one at bytes)

-- ---- values and code

datum_with_by_field : (strings kind : ℕ) → RefusesByField (datum_with strings kind)
datum_with_by_field strings zero at rest = tt
datum_with_by_field strings (suc zero) at rest = as_field _ (reference_at strings) (reference_by_field strings) at rest
datum_with_by_field strings (suc (suc zero)) at rest = as_field _ (reference_at strings) (reference_by_field strings) at rest
datum_with_by_field strings (suc (suc (suc zero))) at rest = as_field _ (number_at 4) (number_by_field 4) at rest
datum_with_by_field strings (suc (suc (suc (suc zero)))) at rest = as_field _ (number_at 4) (number_by_field 4) at rest
datum_with_by_field strings (suc (suc (suc (suc (suc kind))))) at rest = as_field _ byte_at byte_by_field at rest

kind_by_field : RefusesByField kind_at
unfolding kind_at
kind_by_field = judged_field _ _ byte_at tt byte_by_field

datum_by_field : (strings : ℕ) → RefusesByField (datum_at strings)
unfolding datum_at
datum_by_field strings = then_field kind_at (datum_with strings) kind_by_field (datum_with_by_field strings)

pair_by_field : (strings : ℕ) → RefusesByField (pair_at strings)
unfolding pair_at
pair_by_field strings = then_field (reference_at strings) _ (reference_by_field strings) (λ name. as_field _ (reference_at strings) (reference_by_field strings))

opcode_by_field : RefusesByField opcode_at
unfolding opcode_at
opcode_by_field = judged_field _ _ byte_at tt byte_by_field

count_by_field : RefusesByField count_at
unfolding count_at
count_by_field at bytes =
    then_by _ _ (judged_by _ _ at (kind_at at bytes) tt (kind_by_field at bytes))
    (λ kind at1 rest1. judged_by _ _ at (number_at 4 at1 rest1) tt (number_by_field 4 at1 rest1))

instruction_with_by_field : (strings opcode : ℕ) (operands : Option (ℕ × Bool)) → RefusesByField (instruction_with strings opcode operands)
instruction_with_by_field strings opcode (Some (n, true)) at bytes =
    then_field (items_at (datum_at strings) n) _ (items_by_field (datum_at strings) (datum_by_field strings) n)
    (λ fixed. then_field count_at _ count_by_field (λ count. as_field _ (items_at (datum_at strings) count) (items_by_field (datum_at strings) (datum_by_field strings) count))) at bytes
instruction_with_by_field strings opcode (Some (n, false)) at bytes = as_field _ (items_at (datum_at strings) n) (items_by_field (datum_at strings) (datum_by_field strings) n) at bytes
instruction_with_by_field strings opcode None at bytes = tt

instruction_by_field : (strings : ℕ) → RefusesByField (instruction_at strings)
unfolding instruction_at
instruction_by_field strings = then_field opcode_at _ opcode_by_field (λ opcode. instruction_with_by_field strings opcode (operands_of opcode))

-- ---- functions

function_head_by_field : (strings : ℕ) → RefusesByField (function_head_at strings)
unfolding function_head_at
function_head_by_field strings =
    then_field (reference_at strings) _ (reference_by_field strings) (λ result. then_field (reference_at strings) _ (reference_by_field strings)
    (λ doc. then_field (number_at 4) _ (number_by_field 4) (λ flags. then_field byte_at _ byte_by_field (λ bits. as_field _ (number_at 2) (number_by_field 2)))))

function_with_by_field : (strings : ℕ) (head : FunctionHead) → RefusesByField (function_with strings head)
function_with_by_field strings head =
    then_field (items_at (pair_at strings) head.parameters) _ (items_by_field (pair_at strings) (pair_by_field strings) head.parameters)
    (λ parameters. then_field (list_at (pair_at strings)) _ (list_by_field (pair_at strings) (pair_by_field strings))
    (λ locals. as_field _ (list_at (instruction_at strings)) (list_by_field (instruction_at strings) (instruction_by_field strings))))

function_by_field : (strings : ℕ) → RefusesByField (function_at strings)
unfolding function_at
function_by_field strings = then_field (function_head_at strings) (function_with strings) (function_head_by_field strings) (function_with_by_field strings)

named_by_field : (strings : ℕ) → RefusesByField (named_at strings)
unfolding named_at
named_by_field strings = then_field (reference_at strings) _ (reference_by_field strings) (λ name. as_field _ (function_at strings) (function_by_field strings))

state_by_field : (strings : ℕ) → RefusesByField (state_at strings)
unfolding state_at
state_by_field strings =
    then_field (reference_at strings) _ (reference_by_field strings) (λ name. as_field _ (list_at (named_at strings)) (list_by_field (named_at strings) (named_by_field strings)))

-- ---- variables, properties and objects

variable_by_field : (strings : ℕ) → RefusesByField (variable_at strings)
unfolding variable_at
variable_by_field strings =
    then_field (reference_at strings) _ (reference_by_field strings) (λ name. then_field (reference_at strings) _ (reference_by_field strings)
    (λ kind. then_field (number_at 4) _ (number_by_field 4) (λ flags. as_field _ (datum_at strings) (datum_by_field strings))))

property_head_by_field : (strings : ℕ) → RefusesByField (property_head_at strings)
unfolding property_head_at
property_head_by_field strings =
    then_field (reference_at strings) _ (reference_by_field strings) (λ name. then_field (reference_at strings) _ (reference_by_field strings)
    (λ kind. then_field (reference_at strings) _ (reference_by_field strings) (λ doc. then_field (number_at 4) _ (number_by_field 4)
    (λ flags. then_field byte_at _ byte_by_field (λ bits. as_field _ _ (optional_by_field _ (reference_at strings) (reference_by_field strings)))))))

property_with_by_field : (strings : ℕ) (head : PropertyHead) → RefusesByField (property_with strings head)
property_with_by_field strings head =
    then_field (optional_at (has_read head.bits) (function_at strings)) _ (optional_by_field (has_read head.bits) (function_at strings) (function_by_field strings))
    (λ read. as_field _ (optional_at (has_write head.bits) (function_at strings)) (optional_by_field (has_write head.bits) (function_at strings) (function_by_field strings)))

property_by_field : (strings : ℕ) → RefusesByField (property_at strings)
unfolding property_at
property_by_field strings = then_field (property_head_at strings) (property_with strings) (property_head_by_field strings) (property_with_by_field strings)

object_head_by_field : (strings : ℕ) → RefusesByField (object_head_at strings)
unfolding object_head_at
object_head_by_field strings =
    then_field (reference_at strings) _ (reference_by_field strings) (λ name at1 rest1. then_by _ _ (number_by_field 4 at1 rest1)
    (λ size. then_field (reference_at strings) _ (reference_by_field strings) (λ parent. then_field (reference_at strings) _ (reference_by_field strings)
    (λ doc. then_field (number_at 4) _ (number_by_field 4) (λ flags. then_field (reference_at strings) _ (reference_by_field strings)
    (λ auto_state. as_field _ (number_at 2) (number_by_field 2)))))))

by_sizes : (counted bare : Bool) (size_at at : ℕ) (bytes : List ℕ)
    → ByField (if counted then Got Counted at bytes else (if bare then Got Bare at bytes else Refused size_at BadSize))
by_sizes true bare size_at at bytes = tt
by_sizes false true size_at at bytes = tt
by_sizes false false size_at at bytes = tt

size_form_by_field : (size_at size : ℕ) → RefusesByField (size_form_at size_at size)
size_form_by_field size_at size at bytes = by_sizes (size_at + size == at) (size_at + 4 + size == at) size_at at bytes

object_with_by_field : (strings : ℕ) (head : ObjectHead) → RefusesByField (object_with strings head)
object_with_by_field strings head =
    then_field (items_at (variable_at strings) head.variables) _ (items_by_field (variable_at strings) (variable_by_field strings) head.variables)
    (λ variables. then_field (list_at (property_at strings)) _ (list_by_field (property_at strings) (property_by_field strings))
    (λ properties. then_field (list_at (state_at strings)) _ (list_by_field (state_at strings) (state_by_field strings))
    (λ states. as_field _ (size_form_at head.size_at head.size) (size_form_by_field head.size_at head.size))))

object_by_field : (strings : ℕ) → RefusesByField (object_at strings)
unfolding object_at
object_by_field strings = then_field (object_head_at strings) (object_with strings) (object_head_by_field strings) (object_with_by_field strings)

-- ---- debug information, flags and the file

lines_head_by_field : (strings : ℕ) → RefusesByField (lines_head_at strings)
unfolding lines_head_at
lines_head_by_field strings =
    then_field (reference_at strings) _ (reference_by_field strings) (λ object. then_field (reference_at strings) _ (reference_by_field strings)
    (λ state. then_field (reference_at strings) _ (reference_by_field strings) (λ function. then_field byte_at _ byte_by_field (λ kind. as_field _ (number_at 2) (number_by_field 2)))))

lines_with_by_field : (head : LinesHead) → RefusesByField (lines_with head)
lines_with_by_field head = as_field _ (items_at (number_at 2) head.lines) (items_by_field (number_at 2) (number_by_field 2) head.lines)

lines_by_field : (strings : ℕ) → RefusesByField (lines_at strings)
unfolding lines_at
lines_by_field strings = then_field (lines_head_at strings) lines_with (lines_head_by_field strings) lines_with_by_field

debug_flag_by_field : RefusesByField debug_flag_at
unfolding debug_flag_at
debug_flag_by_field = judged_field _ _ byte_at tt byte_by_field

debug_with_by_field : (strings flag : ℕ) → RefusesByField (debug_with strings flag)
debug_with_by_field strings zero at bytes = tt
debug_with_by_field strings (suc flag) at bytes =
    then_field (number_at 8) _ (number_by_field 8) (λ time. as_field _ (list_at (lines_at strings)) (list_by_field (lines_at strings) (lines_by_field strings))) at bytes

debug_by_field : (strings : ℕ) → RefusesByField (debug_at strings)
unfolding debug_at
debug_by_field strings = then_field debug_flag_at (debug_with strings) debug_flag_by_field (debug_with_by_field strings)

flag_by_field : (strings : ℕ) → RefusesByField (flag_at strings)
unfolding flag_at
flag_by_field strings = then_field (reference_at strings) _ (reference_by_field strings) (λ name. as_field _ byte_at byte_by_field)

heading_by_field : RefusesByField heading_at
unfolding heading_at
heading_by_field =
    then_field _ _ (judged_field _ _ (number_at 4) tt (number_by_field 4)) (λ magic. then_field _ _ (judged_field _ _ byte_at tt byte_by_field)
    (λ major. then_field _ _ (judged_field _ _ byte_at tt byte_by_field) (λ minor. then_field _ _ (judged_field _ _ (number_at 2) tt (number_by_field 2))
    (λ game. as_field _ (number_at 8) (number_by_field 8)))))

texts_by_field : RefusesByField texts_at
unfolding texts_at
texts_by_field =
    then_field string_at _ string_by_field (λ source. then_field string_at _ string_by_field (λ user. then_field string_at _ string_by_field
    (λ machine. as_field _ (list_at string_at) (list_by_field string_at string_by_field))))

pex_with_by_field : (heading : FileHeader) (texts : Texts) → RefusesByField (pex_with heading texts)
pex_with_by_field heading texts =
    let strings = length texts.strings in
    then_field (debug_at strings) _ (debug_by_field strings) (λ debug. then_field (list_at (flag_at strings)) _ (list_by_field (flag_at strings) (flag_by_field strings))
    (λ user_flags. as_field _ (list_at (object_at strings)) (list_by_field (object_at strings) (object_by_field strings))))

pub pex_by_field : RefusesByField pex_at
unfolding pex_at
pex_by_field = then_field heading_at _ heading_by_field (λ heading. then_field texts_at _ texts_by_field (λ texts. pex_with_by_field heading texts))
