-- How many bytes the parts of a value have.
use Rattle.std.proofs.Common.{◌≡◌, ℕ, ◌+◌, ◌++◌, Bool, true, false, List, length, Option, Some, None, refl, ap, arith}
use Rattle.std.specs.List.{flat_map}
use Rattle.std.proofs.lemmas.List.{length-append}
use Rattle.pex_values.specs.declared.values.PexVariable.{PexVariable}
use Rattle.pex_values.specs.Opcodes.{operands_of}
use Rattle.pex_values.specs.Plain.{PlainInstruction, PlainFunction, PlainState, PlainProperty, PlainObject, PlainLines, PlainDebug, PlainPex}
use Rattle.pex_values.specs.Spelling.{one_byte, two_bytes, four_bytes, eight_bytes, string, list, optional, datum, counted, pair, instruction, function, named, state, variable, property, object_data, object, size_of, lines, debug, flag, heading, spelling}

pub variable_size : (v : PexVariable) → length (variable v) ≡ 8 + length (datum v.value)
unfolding variable
variable_size v = omega (arith, length-append (two_bytes v.name ++ two_bytes v.kind ++ four_bytes v.flags) (datum v.value))

pub plain_size : (i : PlainInstruction) (n : ℕ) → operands_of i.opcode ≡ Some (n, false) → length (instruction i) ≡ 1 + length (flat_map datum i.fixed)
unfolding instruction
plain_size i n is =
    let a = length-append (one_byte i.opcode ++ flat_map datum i.fixed) (counted (operands_of i.opcode) i.more) in
    let b = length-append (one_byte i.opcode) (flat_map datum i.fixed) in
    let none : length (counted (operands_of i.opcode) i.more) ≡ 0 = ap (λ (o : Option (ℕ × Bool)). length (counted o i.more)) is in
    omega arith

pub counted_size : (i : PlainInstruction) (n : ℕ) → operands_of i.opcode ≡ Some (n, true) → length (instruction i) ≡ 6 + length (flat_map datum i.fixed) + length (flat_map datum i.more)
unfolding instruction
counted_size i n is =
    let a = length-append (one_byte i.opcode ++ flat_map datum i.fixed) (counted (operands_of i.opcode) i.more) in
    let b = length-append (one_byte i.opcode) (flat_map datum i.fixed) in
    let some : length (counted (operands_of i.opcode) i.more) ≡ length (counted (Some (n, true)) i.more) = ap (λ (o : Option (ℕ × Bool)). length (counted o i.more)) is in
    omega arith

pub function_size : (f : PlainFunction) → length (function f) ≡ 15 + length (flat_map pair f.parameters) + length (flat_map pair f.locals) + length (flat_map instruction f.code)
unfolding function
function_size f =
    let heading = two_bytes f.result ++ two_bytes f.doc ++ four_bytes f.flags ++ one_byte f.bits in
    omega (arith, length-append (heading ++ list pair f.parameters ++ list pair f.locals) (list instruction f.code), length-append (heading ++ list pair f.parameters) (list pair f.locals), length-append heading (list pair f.parameters), length-append (two_bytes (length f.parameters)) (flat_map pair f.parameters), length-append (two_bytes (length f.locals)) (flat_map pair f.locals), length-append (two_bytes (length f.code)) (flat_map instruction f.code))

pub named_size : (f : ℕ × PlainFunction) → length (named f) ≡ 2 + length (function f.1)
named_size f = omega (arith, length-append (two_bytes f.0) (function f.1))

pub property_size : (p : PlainProperty) → length (property p) ≡ 11 + length (optional two_bytes p.variable) + length (optional function p.read) + length (optional function p.write)
unfolding property
property_size p =
    let heading = two_bytes p.name ++ two_bytes p.kind ++ two_bytes p.doc ++ four_bytes p.flags ++ one_byte p.bits in
    let v = optional two_bytes p.variable in
    let r = optional function p.read in
    let w = optional function p.write in
    omega (arith, length-append (heading ++ v ++ r) w, length-append (heading ++ v) r, length-append heading v)

pub state_size : (s : PlainState) → length (state s) ≡ 4 + length (flat_map named s.functions)
unfolding state
state_size s =
    omega (arith, length-append (two_bytes s.name) (list named s.functions), length-append (two_bytes (length s.functions)) (flat_map named s.functions))

pub object_data_size : (o : PlainObject) → length (object_data o) ≡ 16 + length (flat_map variable o.variables) + length (flat_map property o.properties) + length (flat_map state o.states)
unfolding object_data
object_data_size o =
    let heading = two_bytes o.parent ++ two_bytes o.doc ++ four_bytes o.flags ++ two_bytes o.auto_state in
    let vs = o.variables in
    let ps = o.properties in
    let ss = o.states in
    omega (arith, length-append (heading ++ list variable vs ++ list property ps) (list state ss), length-append (heading ++ list variable vs) (list property ps), length-append heading (list variable vs), length-append (two_bytes (length vs)) (flat_map variable vs), length-append (two_bytes (length ps)) (flat_map property ps), length-append (two_bytes (length ss)) (flat_map state ss))

pub object_size : (o : PlainObject) → length (object o) ≡ 6 + length (object_data o)
unfolding object
object_size o =
    omega (arith, length-append (two_bytes o.name ++ four_bytes (size_of o.size_form (length (object_data o)))) (object_data o))

pub lines_size : (e : PlainLines) → length (lines e) ≡ 9 + length (flat_map two_bytes e.lines)
unfolding lines
lines_size e =
    let front = two_bytes e.object ++ two_bytes e.state ++ two_bytes e.function ++ one_byte e.kind in
    omega (arith, length-append front (list two_bytes e.lines), length-append (two_bytes (length e.lines)) (flat_map two_bytes e.lines))

pub debug_size : (d : PlainDebug) → length (debug (Some d)) ≡ 11 + length (flat_map lines d.functions)
unfolding debug
debug_size d =
    omega (arith, length-append (eight_bytes d.time) (list lines d.functions), length-append (two_bytes (length d.functions)) (flat_map lines d.functions))

pub no_debug_size : length (debug None) ≡ 1
unfolding debug
no_debug_size = refl

pub spelling_size : (v : PlainPex) → length (spelling v) ≡ 28 + (length v.source + length v.user + length v.machine) + length (flat_map string v.strings) + length (debug v.debug) + length (flat_map flag v.user_flags) + length (flat_map object v.objects)
unfolding spelling
spelling_size v =
    let h = heading v.minor ++ eight_bytes v.time in
    let s = string v.source in
    let u = string v.user in
    let m = string v.machine in
    let t = list string v.strings in
    let d = debug v.debug in
    let f = list flag v.user_flags in
    let o = list object v.objects in
    omega (arith, length-append (h ++ s ++ u ++ m ++ t ++ d ++ f) o, length-append (h ++ s ++ u ++ m ++ t ++ d) f, length-append (h ++ s ++ u ++ m ++ t) d, length-append (h ++ s ++ u ++ m) t, length-append (h ++ s ++ u) m, length-append (h ++ s) u, length-append h s, length-append (two_bytes (length v.source)) v.source, length-append (two_bytes (length v.user)) v.user, length-append (two_bytes (length v.machine)) v.machine, length-append (two_bytes (length v.strings)) (flat_map string v.strings), length-append (two_bytes (length v.user_flags)) (flat_map flag v.user_flags), length-append (two_bytes (length v.objects)) (flat_map object v.objects))
