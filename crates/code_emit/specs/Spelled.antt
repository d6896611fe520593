-- What a file says, part by part: the script, its members, and the code of its functions.
use Rattle.std.specs.Prelude.{◌≡◌, ℕ, ◌+◌, suc, Bool, true, false, if◌then◌else◌, pos, List, [], ◌∷◌, ◌++◌, length, map, Option, None, Some, is_some, unwrap_or, slice_get, codes}
use Rattle.core_tree.specs.declared.core_type.CoreType.{CoreType}
use Rattle.core_tree.specs.declared.script.CoreVariable.{CoreVariable}
use Rattle.core_tree.specs.declared.value.Value.{Value}
use Rattle.core_tree.specs.declared.value.Value.TheVariants as values
use Rattle.core_tree.specs.Set as trees
use Rattle.code_lower.specs.declared.place.Place.{Place}
use Rattle.code_lower.specs.declared.place.Place.TheVariants as place
use Rattle.code_lower.specs.declared.place.Unary.{Unary}
use Rattle.code_lower.specs.declared.place.Unary.TheVariants as unary
use Rattle.code_lower.specs.declared.place.Binary.{Binary}
use Rattle.code_lower.specs.declared.place.Binary.TheVariants as binary
use Rattle.code_lower.specs.declared.place.Search.{Search}
use Rattle.code_lower.specs.declared.place.Search.TheVariants as search_from
use Rattle.code_lower.specs.declared.place.Coded.{Coded}
use Rattle.code_lower.specs.declared.place.Coded.TheVariants as coded
use Rattle.code_lower.specs.declared.place.Lowered.{Lowered}
use Rattle.code_lower.specs.Whole.{IsLowered}
use Rattle.pex_values.specs.declared.values.Datum.{Datum}
use Rattle.pex_values.specs.declared.values.Datum.TheVariants as datum
use Rattle.pex_values.specs.declared.values.PexVariable.{PexVariable}
use Rattle.pex_values.specs.Plain.{PlainInstruction, PlainFunction, PlainState, PlainProperty, PlainObject, PlainLines, PlainPex}
use Rattle.code_emit.specs.declared.operands.Operand.{Operand}
use Rattle.code_emit.specs.declared.operands.Operand.TheVariants as operand
use Rattle.code_emit.specs.declared.writer.DebugName.{DebugName}
use Rattle.code_emit.specs.Strings.{Origin, Table, Reads, ReadsName, home_of, type_name, local_name}

-- the one list says what the other does, item by item
abbrev pub Each : {A B : Type 0} → (A → B → Type 0) → List A → List B → Type 0
Each Says [] [] = Unit {0}
Each Says (x ∷ xs) (y ∷ ys) = Says x y × Each Says xs ys
Each Says _ _ = ⊥

-- the same where each item also has debug entries, which stand behind each other
abbrev pub EachWith : {A B E : Type 0} → (A → B → List E → Type 0) → List A → List B → List E → Type 0
EachWith {E = E} Says [] [] entries = entries ≡ []
EachWith {E = E} Says (x ∷ xs) (y ∷ ys) entries =
    (first : List E) × (rest : List E) × (entries ≡ first ++ rest) × Says x y first × EachWith Says xs ys rest
EachWith Says _ _ entries = ⊥

-- ---- operands
-- what the operands of a function may name: the strings, and its parameters and locals by name and type
pub record Scope : Type 0 where
  pub table : Table
  pub slots : List (ℕ × ℕ)

abbrev pub SpellsWord : Table → Datum → Option (List ℕ) → Type 0
SpellsWord table d name = (reference : ℕ) × (d ≡ datum.Word reference) × ReadsName table.strings reference name

abbrev pub SpellsLiteral : Table → Datum → Value → Type 0
SpellsLiteral table d values.NoneValue = d ≡ datum.NoneValue
SpellsLiteral table d (values.Int number) = d ≡ datum.Int number
SpellsLiteral table d (values.Bool truth) = d ≡ datum.Bool (if truth then 1 else 0)
SpellsLiteral table d (values.Text text) = (reference : ℕ) × (d ≡ datum.Quoted reference) × Reads table.strings reference text
SpellsLiteral table d _ = ⊥

-- an operand that is the name of a parameter, a local or a temporary
abbrev pub SpellsSlotName : Scope → Datum → ℕ → Type 0
SpellsSlotName scope d number = (slot : ℕ × ℕ) × (slice_get scope.slots number ≡ Some slot) × (d ≡ datum.Word slot.0)

abbrev pub SpellsPlace : Scope → Datum → Place → Type 0
SpellsPlace scope d (place.Literal value) = SpellsLiteral scope.table d value.now
SpellsPlace scope d (place.Local number) = SpellsSlotName scope d number
SpellsPlace scope d (place.Temporary number kind) = SpellsSlotName scope d number
SpellsPlace scope d (place.Nothing number) = SpellsSlotName scope d number
SpellsPlace scope d (place.Variable number kind) = SpellsWord scope.table d (slice_get scope.table.home.variables number)
SpellsPlace scope d place.OwnInstance = SpellsWord scope.table d (Some (codes "self"))
SpellsPlace scope d place.StateText = SpellsWord scope.table d (Some (codes "::State"))

abbrev pub SpellsOperand : Scope → Datum → Operand → Type 0
SpellsOperand scope d (operand.At place) = SpellsPlace scope d place
SpellsOperand scope d (operand.Member name) = SpellsWord scope.table d (Some name.now)
SpellsOperand scope d (operand.Script number) = SpellsWord scope.table d (slice_get scope.table.home.scripts number)
SpellsOperand scope d (operand.Number number) = d ≡ datum.Int number
SpellsOperand scope d operand.Nothing = d ≡ datum.NoneValue

-- ---- instructions
abbrev pub unary_code : Unary → ℕ
unary_code unary.Not = 0x0A
unary_code unary.INeg = 0x0B
unary_code unary.Assign = 0x0D
unary_code unary.Cast = 0x0E
unary_code unary.ArrayLength = 0x1F

abbrev pub binary_code : Binary → ℕ
binary_code binary.IAdd = 0x01
binary_code binary.ISub = 0x03
binary_code binary.IMul = 0x05
binary_code binary.IDiv = 0x07
binary_code binary.IMod = 0x09
binary_code binary.StrCat = 0x1B
binary_code binary.CmpEq = 0x0F
binary_code binary.CmpLt = 0x10
binary_code binary.CmpLe = 0x11
binary_code binary.CmpGt = 0x12
binary_code binary.CmpGe = 0x13
binary_code binary.ArrayGetElement = 0x20

abbrev pub search_code : Search → ℕ
search_code search_from.First = 0x22
search_code search_from.Last = 0x23

-- jmpt jumps where its operand is true, and jmpf where it isn't
abbrev pub jump_code : Bool → ℕ
jump_code true = 0x15
jump_code false = 0x16

-- the opcode, the operands that it always has, and the arguments of a call
pub record Form : Type 0 where
  pub opcode : ℕ
  pub fixed : List Operand
  pub more : List Place

abbrev fixed : ℕ → List Operand → Form
fixed opcode operands = record { opcode = opcode; fixed = operands; more = [] }

abbrev pub given : Option Place → Operand
given None = operand.Nothing
given (Some value) = operand.At value

-- by the table of the opcodes, with the operands in the order of the file
abbrev pub form_of : Coded → Form
form_of (coded.Unary opcode result of) = fixed (unary_code opcode) (operand.At result ∷ operand.At of ∷ [])
form_of (coded.Binary opcode result left right) = fixed (binary_code opcode) (operand.At result ∷ operand.At left ∷ operand.At right ∷ [])
form_of (coded.Search opcode array result searched start) =
    fixed (search_code opcode) (operand.At array ∷ operand.At result ∷ operand.At searched ∷ operand.At start ∷ [])
form_of (coded.NewArray result count) = fixed 0x1E (operand.At result ∷ operand.Number (pos count) ∷ [])
form_of (coded.PropGet name of result) = fixed 0x1C (operand.Member name ∷ operand.At of ∷ operand.At result ∷ [])
form_of (coded.PropSet name of value) = fixed 0x1D (operand.Member name ∷ operand.At of ∷ operand.At value ∷ [])
form_of (coded.SetElement array index value) = fixed 0x21 (operand.At array ∷ operand.At index ∷ operand.At value ∷ [])
form_of (coded.Return value) = fixed 0x1A (given value ∷ [])
form_of (coded.CallMethod name of result more) =
    record { opcode = 0x17; fixed = operand.Member name ∷ operand.At of ∷ operand.At result ∷ []; more = more.items }
form_of (coded.CallParent name result more) =
    record { opcode = 0x18; fixed = operand.Member name ∷ operand.At result ∷ []; more = more.items }
form_of (coded.CallStatic script name result more) =
    record { opcode = 0x19; fixed = operand.Script script ∷ operand.Member name ∷ operand.At result ∷ []; more = more.items }
form_of (coded.Jump offset) = fixed 0x14 (operand.Number offset ∷ [])
form_of (coded.JumpIf decided condition offset) = fixed (jump_code decided) (operand.At condition ∷ operand.Number offset ∷ [])

pub record SpellsForm (scope : Scope) (i : PlainInstruction) (form : Form) : Type 0 where
  pub opcode : i.opcode ≡ form.opcode
  pub fixed : Each (SpellsOperand scope) i.fixed form.fixed
  pub more : Each (SpellsPlace scope) i.more form.more

abbrev pub SpellsInstruction : Scope → PlainInstruction → Coded → Type 0
SpellsInstruction scope i code = SpellsForm scope i (form_of code)

-- ---- functions
-- the name of a slot: one without a type takes what calls without a result give
abbrev pub slot_name : ℕ → Option CoreType → List ℕ
slot_name number None = codes "::NoneVar"
slot_name number (Some kind) = local_name number

pub record SpellsSlot (table : Table) (number : ℕ) (slot : ℕ × ℕ) (kind : Option CoreType) : Type 0 where
  pub name : Reads table.strings slot.0 (slot_name number kind)
  pub kind_is : ReadsName table.strings slot.1 (type_name table.home.scripts kind)

-- slots that are numbered from this number on
abbrev pub SpellsSlots : Table → ℕ → List (ℕ × ℕ) → List (Option CoreType) → Type 0
SpellsSlots table number [] [] = Unit {0}
SpellsSlots table number (slot ∷ slots) (kind ∷ kinds) = SpellsSlot table number slot kind × SpellsSlots table (suc number) slots kinds
SpellsSlots table number _ _ = ⊥

-- 1 is global and 2 is native
abbrev pub function_bits : Bool → Bool → ℕ
function_bits false false = 0
function_bits true false = 1
function_bits false true = 2
function_bits true true = 3

abbrev pub doc_text : Option (List ℕ) → List ℕ
doc_text doc = unwrap_or doc []

-- a function that has this code
pub record SpellsCode (table : Table) (tree : trees.Function) (lowered : Lowered) (f : PlainFunction) : Type 0 where
  pub result : ReadsName table.strings f.result (type_name table.home.scripts tree.result)
  pub doc : Reads table.strings f.doc (doc_text tree.doc)
  pub flags : f.flags ≡ tree.flags
  pub bits : f.bits ≡ function_bits tree.is_global tree.is_native
  pub parameters : length f.parameters ≡ length tree.parameters
  pub slots : SpellsSlots table 0 (f.parameters ++ f.locals) lowered.kinds.items
  pub code : Each (SpellsInstruction (record { table = table; slots = f.parameters ++ f.locals })) f.code (map (λ i. i.0) lowered.code.items)

-- ---- debug entries
-- where a function stands: its object, its state, its name, and 0 for a state's function, 1 for a Get and 2 for a Set
pub record Part : Type 0 where
  pub object : List ℕ
  pub state : List ℕ
  pub name : List ℕ
  pub kind : ℕ

pub record SpellsLines (table : Table) (part : Part) (e : PlainLines) (lines : List ℕ) : Type 0 where
  pub object : Reads table.strings e.object part.object
  pub state : Reads table.strings e.state part.state
  pub function : Reads table.strings e.function part.name
  pub kind : e.kind ≡ part.kind
  pub lines_are : e.lines ≡ lines

-- a function with a body has one entry, with a line for each instruction
abbrev pub lines_told : (is_native : Bool) → List ℕ → List (List ℕ)
lines_told true lines = []
lines_told false lines = lines ∷ []

-- a function, whose code may stand for the tree wherever it stands, and its debug entry
pub record SpellsFunction (from : Origin) (table : Table) (part : Part) (f : PlainFunction) (tree : trees.Function) (entries : List PlainLines) : Type 0 where
  pub lowered : Lowered
  pub is_lowered : IsLowered from.set from.script tree lowered
  pub spelled : SpellsCode table tree lowered f
  pub told : Each (SpellsLines table part) entries (lines_told tree.is_native (map (λ i. i.1) lowered.code.items))

abbrev pub part_named : DebugName → Part
part_named place = record { object = place.object.now; state = place.state.now; name = place.name.now; kind = place.kind }

-- ---- members
abbrev pub part_of : Origin → List ℕ → List ℕ → ℕ → Part
part_of from state name kind = record { object = from.script.name; state = state; name = name; kind = kind }

-- a function beside its name
pub record SpellsNamed (from : Origin) (table : Table) (state : List ℕ) (f : ℕ × PlainFunction) (tree : trees.Function) (entries : List PlainLines) : Type 0 where
  pub name : Reads table.strings f.0 tree.name
  pub function : SpellsFunction from table (part_of from state tree.name 0) f.1 tree entries

pub record SpellsState (from : Origin) (table : Table) (s : PlainState) (tree : trees.State) (entries : List PlainLines) : Type 0 where
  pub name : Reads table.strings s.name tree.name
  pub functions : EachWith (SpellsNamed from table tree.name) s.functions tree.functions entries

abbrev pub SpellsAccessor : Origin → Table → Part → Option PlainFunction → Option trees.Function → List PlainLines → Type 0
SpellsAccessor from table part None None entries = entries ≡ []
SpellsAccessor from table part (Some f) (Some tree) entries = SpellsFunction from table part f tree entries
SpellsAccessor from table part _ _ entries = ⊥

-- an auto property is read and written by its variable
pub record SpellsAuto (table : Table) (p : PlainProperty) (variable : ℕ) (entries : List PlainLines) : Type 0 where
  pub reference : ℕ
  pub variable_is : p.variable ≡ Some reference
  pub names : ReadsName table.strings reference (slice_get table.home.variables variable)
  pub bits : p.bits ≡ 7
  pub read : p.read ≡ None
  pub write : p.write ≡ None
  pub none : entries ≡ []

-- 1 is read and 2 is write
abbrev pub accessor_bits : Bool → Bool → ℕ
accessor_bits false false = 0
accessor_bits true false = 1
accessor_bits false true = 2
accessor_bits true true = 3

pub record SpellsFull (from : Origin) (table : Table) (p : PlainProperty) (name : List ℕ) (read write : Option trees.Function) (entries : List PlainLines) : Type 0 where
  pub first : List PlainLines
  pub second : List PlainLines
  pub both : entries ≡ first ++ second
  pub variable : p.variable ≡ None
  pub bits : p.bits ≡ accessor_bits (is_some read) (is_some write)
  pub read_is : SpellsAccessor from table (part_of from [] name 1) p.read read first
  pub write_is : SpellsAccessor from table (part_of from [] name 2) p.write write second

abbrev pub SpellsAccess : Origin → Table → PlainProperty → List ℕ → trees.Access → List PlainLines → Type 0
SpellsAccess from table p name (trees.Auto variable) entries = SpellsAuto table p variable entries
SpellsAccess from table p name (trees.Full read write) entries = SpellsFull from table p name read write entries

pub record SpellsProperty (from : Origin) (table : Table) (p : PlainProperty) (tree : trees.Property) (entries : List PlainLines) : Type 0 where
  pub name : Reads table.strings p.name tree.name
  pub kind : ReadsName table.strings p.kind (type_name table.home.scripts (Some tree.kind))
  pub doc : Reads table.strings p.doc (doc_text tree.doc)
  pub flags : p.flags ≡ tree.flags
  pub access : SpellsAccess from table p tree.name tree.access entries

pub record SpellsVariable (table : Table) (v : PexVariable) (tree : CoreVariable) : Type 0 where
  pub name : Reads table.strings v.name tree.name
  pub kind : ReadsName table.strings v.kind (type_name table.home.scripts (Some tree.kind))
  pub flags : v.flags ≡ tree.flags
  pub value : SpellsLiteral table v.value tree.value

-- ---- the object and the file
-- no parent has the empty name
abbrev pub parent_name : List (List ℕ) → Option ℕ → Option (List ℕ)
parent_name scripts None = Some []
parent_name scripts (Some number) = slice_get scripts number

pub record SpellsObject (from : Origin) (table : Table) (o : PlainObject) (tree : trees.Script) (entries : List PlainLines) : Type 0 where
  pub name : Reads table.strings o.name tree.name
  pub parent : ReadsName table.strings o.parent (parent_name table.home.scripts tree.parent)
  pub doc : Reads table.strings o.doc (doc_text tree.doc)
  pub flags : o.flags ≡ tree.flags
  pub auto_state : Reads table.strings o.auto_state (unwrap_or tree.auto_state [])
  pub variables : Each (SpellsVariable table) o.variables tree.variables
  pub of_properties : List PlainLines
  pub of_states : List PlainLines
  pub both : entries ≡ of_properties ++ of_states
  pub properties : EachWith (SpellsProperty from table) o.properties tree.properties of_properties
  pub states : EachWith (SpellsState from table) o.states tree.states of_states

pub record SpellsFlag (table : Table) (flag : ℕ × ℕ) (wanted : List ℕ × ℕ) : Type 0 where
  pub name : Reads table.strings flag.0 wanted.0
  pub index : flag.1 ≡ wanted.1

abbrev pub user_flags : List (List ℕ × ℕ)
user_flags = (codes "hidden", 0) ∷ (codes "conditional", 1) ∷ []

-- the file of a script of a set: one object, the flags, and the debug entries of its functions in their order
pub record SpellsScript (from : Origin) (file : PlainPex) : Type 0 where
  pub object : PlainObject
  pub objects : file.objects ≡ object ∷ []
  pub entries : List PlainLines
  pub debug : file.debug ≡ Some (record { time = 0; functions = entries })
  pub spelled : SpellsObject from (record { home = home_of from; strings = file.strings }) object (trees.script_of from.script) entries
  pub flags : Each (SpellsFlag (record { home = home_of from; strings = file.strings })) file.user_flags user_flags
