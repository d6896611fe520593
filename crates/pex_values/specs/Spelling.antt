-- The bytes that spell a value: the fields of a PEX 3.1 or 3.2 file in a row. Numbers have their highest byte first.
use Rattle.std.specs.Prelude.{ℕ, ◌+◌, ℤ, pos, Bool, true, List, [], ◌∷◌, ◌++◌, length, Option, Some, None}
use Rattle.std.specs.List.{flat_map}
use Rattle.std.specs.Int.{w32, bytes_high_first, cast_unsigned}
use Rattle.pex_values.specs.declared.values.Datum.{Datum}
use Rattle.pex_values.specs.declared.values.Datum.TheVariants.{NoneValue, Word, Quoted, Int, Float, Bool as BoolByte}
use Rattle.pex_values.specs.declared.values.PexVariable.{PexVariable}
use Rattle.pex_values.specs.declared.values.SizeForm.{SizeForm}
use Rattle.pex_values.specs.declared.values.SizeForm.TheVariants.{Counted, Bare}
use Rattle.pex_values.specs.Opcodes.{operands_of}
use Rattle.pex_values.specs.Plain.{PlainInstruction, PlainFunction, PlainState, PlainProperty, PlainObject, PlainLines, PlainDebug, PlainPex}

abbrev pub one_byte : ℕ → List ℕ
one_byte n = n ∷ []

abbrev pub two_bytes : ℕ → List ℕ
two_bytes n = bytes_high_first 2 n

abbrev pub four_bytes : ℕ → List ℕ
four_bytes n = bytes_high_first 4 n

abbrev pub eight_bytes : ℕ → List ℕ
eight_bytes n = bytes_high_first 8 n

-- the number of bytes, and the bytes
abbrev pub string : List ℕ → List ℕ
string text = two_bytes (length text) ++ text

-- the number of items, and each item
abbrev pub list : {A : Type 0} → (A → List ℕ) → List A → List ℕ
list item items = two_bytes (length items) ++ flat_map item items

-- a part that stands only where it is asked for
abbrev pub optional : {A : Type 0} → (A → List ℕ) → Option A → List ℕ
optional part None = []
optional part (Some x) = part x

abbrev pub integer : ℤ → List ℕ
integer n = 3 ∷ four_bytes (cast_unsigned w32 n)

-- the kind, and the value
abbrev pub datum : Datum → List ℕ
datum NoneValue = 0 ∷ []
datum (Word n) = 1 ∷ two_bytes n
datum (Quoted n) = 2 ∷ two_bytes n
datum (Int n) = integer n
datum (Float n) = 4 ∷ four_bytes n
datum (BoolByte n) = 5 ∷ n ∷ []

-- where more operands may follow: their number as an integer value, and each of them
abbrev pub counted : Option (ℕ × Bool) → List Datum → List ℕ
counted (Some (n, true)) more = integer (pos (length more)) ++ flat_map datum more
counted _ more = []

unfoldable pub instruction : PlainInstruction → List ℕ
instruction i = one_byte i.opcode ++ flat_map datum i.fixed ++ counted (operands_of i.opcode) i.more

abbrev pub pair : ℕ × ℕ → List ℕ
pair p = two_bytes p.0 ++ two_bytes p.1

unfoldable pub function : PlainFunction → List ℕ
function f =
    two_bytes f.result ++ two_bytes f.doc ++ four_bytes f.flags ++ one_byte f.bits
    ++ list pair f.parameters ++ list pair f.locals ++ list instruction f.code

abbrev pub named : ℕ × PlainFunction → List ℕ
named f = two_bytes f.0 ++ function f.1

unfoldable pub state : PlainState → List ℕ
state s = two_bytes s.name ++ list named s.functions

unfoldable pub variable : PexVariable → List ℕ
variable v = two_bytes v.name ++ two_bytes v.kind ++ four_bytes v.flags ++ datum v.value

unfoldable pub property : PlainProperty → List ℕ
property p =
    two_bytes p.name ++ two_bytes p.kind ++ two_bytes p.doc ++ four_bytes p.flags ++ one_byte p.bits
    ++ optional two_bytes p.variable ++ optional function p.read ++ optional function p.write

-- an object without its name and its size
unfoldable pub object_data : PlainObject → List ℕ
object_data o =
    two_bytes o.parent ++ two_bytes o.doc ++ four_bytes o.flags ++ two_bytes o.auto_state
    ++ list variable o.variables ++ list property o.properties ++ list state o.states

-- what the size field of an object with so many bytes of data holds
abbrev pub size_of : SizeForm → ℕ → ℕ
size_of Counted len = len + 4
size_of Bare len = len

unfoldable pub object : PlainObject → List ℕ
object o = two_bytes o.name ++ four_bytes (size_of o.size_form (length (object_data o))) ++ object_data o

unfoldable pub lines : PlainLines → List ℕ
lines e = two_bytes e.object ++ two_bytes e.state ++ two_bytes e.function ++ one_byte e.kind ++ list two_bytes e.lines

-- a flag, and behind 1 the debug information
unfoldable pub debug : Option PlainDebug → List ℕ
debug None = 0 ∷ []
debug (Some d) = 1 ∷ (eight_bytes d.time ++ list lines d.functions)

abbrev pub flag : ℕ × ℕ → List ℕ
flag f = two_bytes f.0 ++ one_byte f.1

-- FA57C0DE, the major version 3, the minor one and the game's number 1
abbrev pub heading : ℕ → List ℕ
heading minor = 0xFA ∷ 0x57 ∷ 0xC0 ∷ 0xDE ∷ 3 ∷ minor ∷ 0 ∷ 1 ∷ []

unfoldable pub spelling : PlainPex → List ℕ
spelling v =
    heading v.minor ++ eight_bytes v.time ++ string v.source ++ string v.user ++ string v.machine
    ++ list string v.strings ++ debug v.debug ++ list flag v.user_flags ++ list object v.objects
