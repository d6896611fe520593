-- The listing of a value: a line for each part, in the order of the file. `spelled` is how references are spelled.
use Rattle.std.specs.Prelude.{ℕ, List, [], ◌∷◌, ◌++◌, codes, slice_index_or, Option, Some, None}
use Rattle.std.specs.List.{flat_map}
use Rattle.std.specs.Fmt.{signed_decimal}
use Rattle.pex_values.specs.declared.values.Datum.{Datum}
use Rattle.pex_values.specs.declared.values.Datum.TheVariants.{NoneValue, Word, Quoted, Int, Float, Bool as BoolByte}
use Rattle.pex_values.specs.declared.values.PexVariable.{PexVariable}
use Rattle.pex_values.specs.declared.values.SizeForm.{SizeForm}
use Rattle.pex_values.specs.declared.values.SizeForm.TheVariants.{Counted, Bare}
use Rattle.pex_values.specs.Plain.{PlainInstruction, PlainFunction, PlainState, PlainProperty, PlainObject, PlainLines, PlainDebug, PlainPex}
use Rattle.pex_listing.specs.Lines.{eight_digits, reference, field, number, line_end, first_line, header_lines, table_lines}

-- the names of the opcodes, each at the place of its code
abbrev pub opcode_names : List (List ℕ)
opcode_names =
    codes "nop" ∷ codes "iadd" ∷ codes "fadd" ∷ codes "isub" ∷ codes "fsub" ∷ codes "imul" ∷ codes "fmul" ∷ codes "idiv" ∷ codes "fdiv" ∷ codes "imod"
    ∷ codes "not" ∷ codes "ineg" ∷ codes "fneg" ∷ codes "assign" ∷ codes "cast"
    ∷ codes "cmp_eq" ∷ codes "cmp_lt" ∷ codes "cmp_le" ∷ codes "cmp_gt" ∷ codes "cmp_ge"
    ∷ codes "jmp" ∷ codes "jmpt" ∷ codes "jmpf"
    ∷ codes "callmethod" ∷ codes "callparent" ∷ codes "callstatic"
    ∷ codes "return" ∷ codes "strcat" ∷ codes "propget" ∷ codes "propset"
    ∷ codes "array_create" ∷ codes "array_length" ∷ codes "array_getelement" ∷ codes "array_setelement"
    ∷ codes "array_findelement" ∷ codes "array_rfindelement" ∷ []

unfoldable pub opcode_name : ℕ → List ℕ
opcode_name opcode = slice_index_or opcode_names opcode []

-- the lines before the string table
unfoldable pub heading : PlainPex → List ℕ
heading v = first_line v.minor v.time ++ header_lines v.source v.user v.machine

-- whether there is debug information, and its time
abbrev pub debug_line : Option PlainDebug → List ℕ
debug_line None = codes "nodebug" ++ line_end
debug_line (Some d) = codes "debug" ++ number d.time ++ line_end

abbrev pub entries : Option PlainDebug → List PlainLines
entries None = []
entries (Some d) = d.functions

-- what the size field of an object counts
abbrev pub size_form : SizeForm → List ℕ
size_form Counted = codes " counted"
size_form Bare = codes " bare"

module _ (spelled : ℕ → List ℕ) where
  -- a reference as a field
  abbrev pub name : ℕ → List ℕ
  name place = field (spelled place)

  -- a value as fields
  abbrev pub datum : Datum → List ℕ
  datum NoneValue = codes " none"
  datum (Word place) = codes " id" ++ name place
  datum (Quoted place) = codes " text" ++ name place
  datum (Int n) = codes " int" ++ field (signed_decimal n)
  datum (Float bits) = codes " float" ++ field (eight_digits bits)
  datum (BoolByte n) = codes " bool" ++ number n

  unfoldable pub instruction : PlainInstruction → List ℕ
  instruction i = opcode_name i.opcode ++ flat_map datum i.fixed ++ flat_map datum i.more ++ line_end

  -- a parameter or a local
  abbrev pub pair : List ℕ → ℕ × ℕ → List ℕ
  pair word p = word ++ name p.0 ++ name p.1 ++ line_end

  -- the line that a function begins with, behind its first fields, and the lines of its parameters, locals and code
  unfoldable pub function : PlainFunction → List ℕ
  function f =
      name f.result ++ name f.doc ++ number f.flags ++ number f.bits ++ line_end
      ++ flat_map (pair (codes "param")) f.parameters ++ flat_map (pair (codes "local")) f.locals ++ flat_map instruction f.code

  abbrev pub named : ℕ × PlainFunction → List ℕ
  named f = codes "function" ++ name f.0 ++ function f.1

  -- the function that reads or writes a property
  abbrev pub accessor : List ℕ → Option PlainFunction → List ℕ
  accessor word None = []
  accessor word (Some f) = word ++ function f

  abbrev pub state_line : PlainState → List ℕ
  state_line s = codes "state" ++ name s.name ++ line_end

  unfoldable pub state : PlainState → List ℕ
  state s = state_line s ++ flat_map named s.functions

  unfoldable pub variable : PexVariable → List ℕ
  variable v = codes "variable" ++ name v.name ++ name v.kind ++ number v.flags ++ datum v.value ++ line_end

  -- the variable of an auto property
  abbrev pub own_variable : Option ℕ → List ℕ
  own_variable None = []
  own_variable (Some place) = name place

  unfoldable pub property_line : PlainProperty → List ℕ
  property_line p = codes "property" ++ name p.name ++ name p.kind ++ name p.doc ++ number p.flags ++ number p.bits ++ own_variable p.variable ++ line_end

  abbrev pub property : PlainProperty → List ℕ
  property p = property_line p ++ accessor (codes "read") p.read ++ accessor (codes "write") p.write

  unfoldable pub object_line : PlainObject → List ℕ
  object_line o = codes "object" ++ name o.name ++ size_form o.size_form ++ name o.parent ++ name o.doc ++ number o.flags ++ name o.auto_state ++ line_end

  unfoldable pub object : PlainObject → List ℕ
  object o = object_line o ++ flat_map variable o.variables ++ flat_map property o.properties ++ flat_map state o.states

  -- the source lines of a function's instructions
  unfoldable pub lines : PlainLines → List ℕ
  lines e = codes "lines" ++ name e.object ++ name e.state ++ name e.function ++ number e.kind ++ flat_map number e.lines ++ line_end

  unfoldable pub debug : Option PlainDebug → List ℕ
  debug d = debug_line d ++ flat_map lines (entries d)

  abbrev pub flag : ℕ × ℕ → List ℕ
  flag f = codes "flag" ++ name f.0 ++ number f.1 ++ line_end

  unfoldable pub all_lines : PlainPex → List ℕ
  all_lines v = heading v ++ table_lines v.strings ++ debug v.debug ++ flat_map flag v.user_flags ++ flat_map object v.objects

-- the whole listing
abbrev pub listing : PlainPex → List ℕ
listing v = all_lines (reference v.strings) v
