-- What stands at an offset of a file: the fields of the format in a row. A field is judged when its last byte is there.
use Rattle.std.specs.Prelude.{ℕ, zero, suc, ◌+◌, ◌^◌, ◌==◌, Bool, true, false, ◌||◌, List, [], ◌∷◌, length, take, drop, Option, Some, None, is_some, nat_le, nat_lt, if◌then◌else◌}
use Rattle.std.specs.Int.{w32, cast_signed}
use Rattle.byteorder.specs.Endian.{big_from}
use Rattle.pex_values.specs.declared.values.Datum.{Datum}
use Rattle.pex_values.specs.declared.values.Datum.TheVariants.{NoneValue, Word, Quoted, Int, Float, Bool as BoolByte}
use Rattle.pex_values.specs.declared.values.PexVariable.{PexVariable}
use Rattle.pex_values.specs.declared.values.SizeForm.{SizeForm}
use Rattle.pex_values.specs.declared.values.SizeForm.TheVariants.{Counted, Bare}
use Rattle.pex_values.specs.Bits.{has_variable, has_read, has_write}
use Rattle.pex_values.specs.Opcodes.{operands_of}
use Rattle.pex_values.specs.Plain.{PlainInstruction, PlainFunction, PlainState, PlainProperty, PlainObject, PlainLines, PlainDebug, PlainPex}
use Rattle.pex_codec.specs.declared.faults.PexRule.{PexRule}
use Rattle.pex_codec.specs.declared.faults.PexRule.TheVariants.{BadMagic, BadVersion, BadGame, BadDebugFlag, BadKind, BadOpcode, BadCount, BadIndex, BadSize}
use Rattle.pex_codec.specs.declared.cursor.FileHeader.{FileHeader}
use Rattle.pex_codec.specs.declared.cursor.FunctionHead.{FunctionHead}
use Rattle.pex_codec.specs.declared.cursor.PropertyHead.{PropertyHead}
use Rattle.pex_codec.specs.declared.cursor.ObjectHead.{ObjectHead}
use Rattle.pex_codec.specs.declared.cursor.LinesHead.{LinesHead}

pub data Reading (A : Type 0) : Type 0 where
  -- the part, the offset behind it, and the bytes behind it
  Got : (part : A) (at : ℕ) (rest : List ℕ) → Reading A
  -- the bytes end before the part does, and none of its fields that are complete is refused
  Short : Reading A
  -- the first field that is refused: the rule that it breaks, and that rule's offset
  Refused : (offset : ℕ) (rule : PexRule) → Reading A

-- a part from an offset on
abbrev pub Reader : Type 0 → Type 0
Reader A = ℕ → List ℕ → Reading A

-- what stands behind a part
abbrev pub then_read : {A B : Type 0} → Reading A → (A → Reader B) → Reading B
then_read (Got part at rest) next = next part at rest
then_read Short next = Short
then_read (Refused offset rule) next = Refused offset rule

abbrev pub read_as : {A B : Type 0} → (A → B) → Reading A → Reading B
read_as view (Got part at rest) = Got (view part) at rest
read_as view Short = Short
read_as view (Refused offset rule) = Refused offset rule

-- a part that breaks a rule where it doesn't pass a test
abbrev pub judged : {A : Type 0} → (A → Bool) → PexRule → ℕ → Reading A → Reading A
judged test rule offset (Got part at rest) = if test part then Got part at rest else Refused offset rule
judged test rule offset Short = Short
judged test rule offset (Refused earlier broken) = Refused earlier broken

-- ---- numbers, references, strings and lists

abbrev pub byte_at : Reader ℕ
byte_at at [] = Short
byte_at at (byte ∷ rest) = Got byte (suc at) rest

unfoldable pub bytes_at : ℕ → Reader (List ℕ)
bytes_at count at bytes = if nat_le count (length bytes) then Got (take count bytes) (at + count) (drop count bytes) else Short

unfoldable pub number_at : ℕ → Reader ℕ
number_at width at bytes = read_as (λ field. big_from 0 width field) (bytes_at width at bytes)

-- a place in a table of so many strings
unfoldable pub reference_at : ℕ → Reader ℕ
reference_at strings at bytes = judged (λ n. nat_lt n strings) BadIndex at (number_at 2 at bytes)

unfoldable pub string_at : Reader (List ℕ)
string_at at bytes = then_read (number_at 2 at bytes) bytes_at

abbrev pub items_at : {A : Type 0} → Reader A → ℕ → Reader (List A)
items_at item zero at bytes = Got [] at bytes
items_at item (suc n) at bytes = then_read (item at bytes) (λ first at1 rest1. read_as (λ others. first ∷ others) (items_at item n at1 rest1))

-- the number of items, and each item
unfoldable pub list_at : {A : Type 0} → Reader A → Reader (List A)
list_at item at bytes = then_read (number_at 2 at bytes) (items_at item)

-- a part that stands only where it is asked for
abbrev pub optional_at : {A : Type 0} → Bool → Reader A → Reader (Option A)
optional_at true part at bytes = read_as Some (part at bytes)
optional_at false part at bytes = Got None at bytes

-- ---- values

-- the value behind its kind
abbrev pub datum_with : ℕ → ℕ → Reader Datum
datum_with strings zero at rest = Got NoneValue at rest
datum_with strings (suc zero) at rest = read_as Word (reference_at strings at rest)
datum_with strings (suc (suc zero)) at rest = read_as Quoted (reference_at strings at rest)
datum_with strings (suc (suc (suc zero))) at rest = read_as (λ n. Int (cast_signed w32 n)) (number_at 4 at rest)
datum_with strings (suc (suc (suc (suc zero)))) at rest = read_as Float (number_at 4 at rest)
datum_with strings _ at rest = read_as BoolByte (byte_at at rest)

unfoldable pub kind_at : Reader ℕ
kind_at at bytes = judged (λ kind. nat_le kind 5) BadKind at (byte_at at bytes)

unfoldable pub datum_at : ℕ → Reader Datum
datum_at strings at bytes = then_read (kind_at at bytes) (datum_with strings)

unfoldable pub pair_at : ℕ → Reader (ℕ × ℕ)
pair_at strings at bytes = then_read (reference_at strings at bytes) (λ name at1 rest1. read_as (λ kind. (name, kind)) (reference_at strings at1 rest1))

-- ---- code

unfoldable pub opcode_at : Reader ℕ
opcode_at at bytes = judged (λ opcode. is_some (operands_of opcode)) BadOpcode at (byte_at at bytes)

-- how many operands more: an integer value that isn't below 0. Both its parts are refused at its kind
unfoldable pub count_at : Reader ℕ
count_at at bytes =
    then_read (judged (λ kind. kind == 3) BadCount at (kind_at at bytes))
    (λ kind at1 rest1. judged (λ n. nat_lt n (2 ^ 31)) BadCount at (number_at 4 at1 rest1))

-- the operands behind an opcode that has so many
abbrev pub instruction_with : ℕ → ℕ → Option (ℕ × Bool) → Reader PlainInstruction
instruction_with strings opcode (Some (n, true)) at bytes =
    then_read (items_at (datum_at strings) n at bytes) (λ fixed at1 rest1. then_read (count_at at1 rest1)
    (λ count at2 rest2. read_as (λ more. record { opcode = opcode; fixed = fixed; more = more }) (items_at (datum_at strings) count at2 rest2)))
instruction_with strings opcode (Some (n, false)) at bytes =
    read_as (λ fixed. record { opcode = opcode; fixed = fixed; more = [] }) (items_at (datum_at strings) n at bytes)
instruction_with strings opcode None at bytes = Short

unfoldable pub instruction_at : ℕ → Reader PlainInstruction
instruction_at strings at bytes = then_read (opcode_at at bytes) (λ opcode at1 rest1. instruction_with strings opcode (operands_of opcode) at1 rest1)

-- ---- functions

-- what stands before the parameters, and their number
unfoldable pub function_head_at : ℕ → Reader FunctionHead
function_head_at strings at bytes =
    then_read (reference_at strings at bytes) (λ result at1 rest1. then_read (reference_at strings at1 rest1)
    (λ doc at2 rest2. then_read (number_at 4 at2 rest2)
    (λ flags at3 rest3. then_read (byte_at at3 rest3)
    (λ bits at4 rest4. read_as (λ parameters. record { result = result; doc = doc; flags = flags; bits = bits; parameters = parameters }) (number_at 2 at4 rest4)))))

-- the parameters, the locals and the code behind a head
abbrev pub function_with : ℕ → FunctionHead → Reader PlainFunction
function_with strings head at bytes =
    then_read (items_at (pair_at strings) head.parameters at bytes) (λ parameters at1 rest1. then_read (list_at (pair_at strings) at1 rest1)
    (λ locals at2 rest2. read_as (λ code. record {
      result = head.result;
      doc = head.doc;
      flags = head.flags;
      bits = head.bits;
      parameters = parameters;
      locals = locals;
      code = code;
    }) (list_at (instruction_at strings) at2 rest2)))

unfoldable pub function_at : ℕ → Reader PlainFunction
function_at strings at bytes = then_read (function_head_at strings at bytes) (function_with strings)

unfoldable pub named_at : ℕ → Reader (ℕ × PlainFunction)
named_at strings at bytes = then_read (reference_at strings at bytes) (λ name at1 rest1. read_as (λ function. (name, function)) (function_at strings at1 rest1))

unfoldable pub state_at : ℕ → Reader PlainState
state_at strings at bytes =
    then_read (reference_at strings at bytes)
    (λ name at1 rest1. read_as (λ functions. record { name = name; functions = functions }) (list_at (named_at strings) at1 rest1))

-- ---- variables and properties

unfoldable pub variable_at : ℕ → Reader PexVariable
variable_at strings at bytes =
    then_read (reference_at strings at bytes) (λ name at1 rest1. then_read (reference_at strings at1 rest1)
    (λ kind at2 rest2. then_read (number_at 4 at2 rest2)
    (λ flags at3 rest3. read_as (λ value. record { name = name; kind = kind; flags = flags; value = value }) (datum_at strings at3 rest3))))

-- what stands before the functions of a property
unfoldable pub property_head_at : ℕ → Reader PropertyHead
property_head_at strings at bytes =
    then_read (reference_at strings at bytes) (λ name at1 rest1. then_read (reference_at strings at1 rest1)
    (λ kind at2 rest2. then_read (reference_at strings at2 rest2)
    (λ doc at3 rest3. then_read (number_at 4 at3 rest3)
    (λ flags at4 rest4. then_read (byte_at at4 rest4)
    (λ bits at5 rest5. read_as (λ variable. record { name = name; kind = kind; doc = doc; flags = flags; bits = bits; variable = variable })
    (optional_at (has_variable bits) (reference_at strings) at5 rest5))))))

-- the functions behind a head
abbrev pub property_with : ℕ → PropertyHead → Reader PlainProperty
property_with strings head at bytes =
    then_read (optional_at (has_read head.bits) (function_at strings) at bytes) (λ read at1 rest1. read_as (λ write. record {
      name = head.name;
      kind = head.kind;
      doc = head.doc;
      flags = head.flags;
      bits = head.bits;
      variable = head.variable;
      read = read;
      write = write;
    }) (optional_at (has_write head.bits) (function_at strings) at1 rest1))

unfoldable pub property_at : ℕ → Reader PlainProperty
property_at strings at bytes = then_read (property_head_at strings at bytes) (property_with strings)

-- ---- objects

-- what stands before the variables, and their number
unfoldable pub object_head_at : ℕ → Reader ObjectHead
object_head_at strings at bytes =
    then_read (reference_at strings at bytes) (λ name at1 rest1. then_read (number_at 4 at1 rest1)
    (λ size at2 rest2. then_read (reference_at strings at2 rest2)
    (λ parent at3 rest3. then_read (reference_at strings at3 rest3)
    (λ doc at4 rest4. then_read (number_at 4 at4 rest4)
    (λ flags at5 rest5. then_read (reference_at strings at5 rest5)
    (λ auto_state at6 rest6. read_as (λ variables. record {
      name = name;
      size_at = at1;
      size = size;
      parent = parent;
      doc = doc;
      flags = flags;
      auto_state = auto_state;
      variables = variables;
    }) (number_at 2 at6 rest6)))))))

-- behind an object's data: the size, whose field stands at an offset, is the length of the data behind it, or that and its own four bytes
abbrev pub size_form_at : ℕ → ℕ → Reader SizeForm
size_form_at size_at size at bytes =
    if size_at + size == at then Got Counted at bytes
    else if size_at + 4 + size == at then Got Bare at bytes
    else Refused size_at BadSize

-- the lists of an object behind its head
abbrev pub object_with : ℕ → ObjectHead → Reader PlainObject
object_with strings head at bytes =
    then_read (items_at (variable_at strings) head.variables at bytes) (λ variables at1 rest1. then_read (list_at (property_at strings) at1 rest1)
    (λ properties at2 rest2. then_read (list_at (state_at strings) at2 rest2)
    (λ states at3 rest3. read_as (λ size_form. record {
      name = head.name;
      size_form = size_form;
      parent = head.parent;
      doc = head.doc;
      flags = head.flags;
      auto_state = head.auto_state;
      variables = variables;
      properties = properties;
      states = states;
    }) (size_form_at head.size_at head.size at3 rest3))))

unfoldable pub object_at : ℕ → Reader PlainObject
object_at strings at bytes = then_read (object_head_at strings at bytes) (object_with strings)

-- ---- debug information and flags

-- what stands before the line numbers of a function, and their number
unfoldable pub lines_head_at : ℕ → Reader LinesHead
lines_head_at strings at bytes =
    then_read (reference_at strings at bytes) (λ object at1 rest1. then_read (reference_at strings at1 rest1)
    (λ state at2 rest2. then_read (reference_at strings at2 rest2)
    (λ function at3 rest3. then_read (byte_at at3 rest3)
    (λ kind at4 rest4. read_as (λ lines. record { object = object; state = state; function = function; kind = kind; lines = lines }) (number_at 2 at4 rest4)))))

abbrev pub lines_with : LinesHead → Reader PlainLines
lines_with head at bytes =
    read_as (λ lines. record { object = head.object; state = head.state; function = head.function; kind = head.kind; lines = lines })
    (items_at (number_at 2) head.lines at bytes)

unfoldable pub lines_at : ℕ → Reader PlainLines
lines_at strings at bytes = then_read (lines_head_at strings at bytes) lines_with

unfoldable pub debug_flag_at : Reader ℕ
debug_flag_at at bytes = judged (λ flag. nat_le flag 1) BadDebugFlag at (byte_at at bytes)

-- what stands behind the debug flag
abbrev pub debug_with : ℕ → ℕ → Reader (Option PlainDebug)
debug_with strings zero at bytes = Got None at bytes
debug_with strings _ at bytes =
    then_read (number_at 8 at bytes)
    (λ time at1 rest1. read_as (λ functions. Some (record { time = time; functions = functions })) (list_at (lines_at strings) at1 rest1))

unfoldable pub debug_at : ℕ → Reader (Option PlainDebug)
debug_at strings at bytes = then_read (debug_flag_at at bytes) (debug_with strings)

-- a reference to a flag's name, and the number of its bit
unfoldable pub flag_at : ℕ → Reader (ℕ × ℕ)
flag_at strings at bytes = then_read (reference_at strings at bytes) (λ name at1 rest1. read_as (λ index. (name, index)) (byte_at at1 rest1))

-- ---- the file

-- FA57C0DE, the major version 3, the minor one, the game's number 1 and the time
unfoldable pub heading_at : Reader FileHeader
heading_at at bytes =
    then_read (judged (λ magic. magic == 0xFA57C0DE) BadMagic at (number_at 4 at bytes))
    (λ magic at1 rest1. then_read (judged (λ major. major == 3) BadVersion at1 (byte_at at1 rest1))
    (λ major at2 rest2. then_read (judged (λ minor. minor == 1 || minor == 2) BadVersion at2 (byte_at at2 rest2))
    (λ minor at3 rest3. then_read (judged (λ game. game == 1) BadGame at3 (number_at 2 at3 rest3))
    (λ game at4 rest4. read_as (λ time. record { minor = minor; time = time }) (number_at 8 at4 rest4)))))

-- the header's strings and the string table
pub record Texts : Type 0 where
  pub source : List ℕ
  pub user : List ℕ
  pub machine : List ℕ
  pub strings : List (List ℕ)

unfoldable pub texts_at : Reader Texts
texts_at at bytes =
    then_read (string_at at bytes) (λ source at1 rest1. then_read (string_at at1 rest1)
    (λ user at2 rest2. then_read (string_at at2 rest2)
    (λ machine at3 rest3. read_as (λ strings. record { source = source; user = user; machine = machine; strings = strings }) (list_at string_at at3 rest3))))

-- what stands behind the string table
abbrev pub pex_with : FileHeader → Texts → Reader PlainPex
pex_with heading texts at bytes =
    then_read (debug_at (length texts.strings) at bytes) (λ debug at1 rest1. then_read (list_at (flag_at (length texts.strings)) at1 rest1)
    (λ user_flags at2 rest2. read_as (λ objects. record {
      minor = heading.minor;
      time = heading.time;
      source = texts.source;
      user = texts.user;
      machine = texts.machine;
      strings = texts.strings;
      debug = debug;
      user_flags = user_flags;
      objects = objects;
    }) (list_at (object_at (length texts.strings)) at2 rest2)))

unfoldable pub pex_at : Reader PlainPex
pex_at at bytes =
    then_read (heading_at at bytes) (λ heading at1 rest1. then_read (texts_at at1 rest1)
    (λ texts at2 rest2. pex_with heading texts at2 rest2))
