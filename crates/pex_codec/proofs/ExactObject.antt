-- The bytes of variables, properties and objects.
use Rattle.std.proofs.Common.{◌≡◌, ℕ, ◌+◌, ◌<◌, ◌^◌, List, ◌++◌, length, Bool, true, false, Option, Some, None, refl, sym, ap, subst, ◌∙◌, length-append, arith}
use Rattle.std.specs.Prelude.{IfSome, ◌==◌, if◌then◌else◌}
use Rattle.std.specs.List.{flat_map}
use Rattle.std.proofs.lemmas.Bool.Decides.{nat_tests}
use Rattle.pex_values.specs.declared.values.Datum.{Datum}
use Rattle.pex_values.specs.declared.values.PexVariable.{PexVariable}
use Rattle.pex_values.specs.declared.values.SizeForm.{SizeForm}
use Rattle.pex_values.specs.declared.values.SizeForm.TheVariants.{Counted, Bare}
use Rattle.pex_values.specs.Bits.{has_variable, has_read, has_write}
use Rattle.pex_values.specs.Fit.{FitsFunction, FitsState, FitsProperty, FitsObject}
use Rattle.pex_values.specs.Plain.{PlainFunction, PlainState, PlainProperty, PlainObject}
use Rattle.pex_values.specs.Shape.{IsReference, IsShapedFunction, IsShapedState, IsShapedVariable, IsShapedProperty, IsShapedObject}
use Rattle.pex_values.specs.Spelling.{one_byte, two_bytes, four_bytes, datum, variable, optional, function, property, state, list, object_data, size_of, object}
use Rattle.pex_codec.specs.declared.faults.PexRule.TheVariants.{BadSize}
use Rattle.pex_codec.specs.declared.cursor.PropertyHead.{PropertyHead}
use Rattle.pex_codec.specs.declared.cursor.ObjectHead.{ObjectHead}
use Rattle.pex_codec.specs.Laws.{AreBytes}
use Rattle.pex_codec.specs.Reading.{Reader, Got, Refused, then_read, read_as, reference_at, optional_at, function_at, variable_at, property_head_at, property_with, property_at, object_head_at, size_form_at, object_with, object_at}
use Rattle.pex_codec.specs.Writing.{FitEach}
use Rattle.pex_codec.proofs.Exact.{Spans, Stands, IsExact, joined, spelled_as, same_got, ended_at, refused_got, parted, read_got, taken, viewed, follow, ending, row2, row3, row4, byte_exact, two_exact, four_exact, AreItems, items_exact, list_exact, IsWanted, optional_exact}
use Rattle.pex_codec.proofs.ExactCode.{reference_exact, datum_exact, ShapedFunction, function_exact, ShapedState, state_exact, each_first, each_second, each_both}

-- ---- variables

abbrev make_variable : ℕ → ℕ → ℕ → Datum → PexVariable
make_variable name kind flags value = record { name = name; kind = kind; flags = flags; value = value }

variable_complete : (strings : ℕ) (v : PexVariable) (at : ℕ) (rest : List ℕ) → IsShapedVariable strings v → variable_at strings at (variable v ++ rest) ≡ Got v (at + length (variable v)) rest
unfolding variable variable_at
variable_complete strings v at rest p =
    let r = reference_exact strings in
    row4 (variable_at strings) at (two_bytes v.name) (two_bytes v.kind) (four_bytes v.flags) (datum v.value) rest v
    (follow _ r v.name at _ p.name ∙ (follow _ r v.kind (at + 2) _ p.kind ∙ (follow _ four_exact v.flags (at + 2 + 2) _ p.flags
    ∙ ending (λ value. make_variable v.name v.kind v.flags value) (datum_exact strings) v.value (at + 2 + 2 + 4) rest p.value)))

variable_sound : (strings : ℕ) (v : PexVariable) (at : ℕ) (bytes : List ℕ) (end : ℕ) (rest : List ℕ) → AreBytes bytes → variable_at strings at bytes ≡ Got v end rest → Stands (IsShapedVariable strings) variable v at bytes end rest
unfolding variable variable_at
variable_sound strings v at bytes end rest b e =
    let r = reference_exact strings in
    let name = taken r _ at bytes v end rest b e in
    let kind = taken r _ name.mid name.behind v end rest name.others name.later in
    let flags = taken four_exact _ kind.mid kind.behind v end rest kind.others kind.later in
    let value = viewed (datum_exact strings) _ flags.mid flags.behind v end rest flags.others flags.later in
    subst (λ z. Stands (IsShapedVariable strings) variable z at bytes end rest) value.is
    (record {
      may = record { name = name.may; kind = kind.may; flags = flags.may; value = value.may };
      spans = joined (joined (joined name.spans kind.spans) flags.spans) value.spans;
      others = value.others;
    })

pub variable_exact : (strings : ℕ) → IsExact (IsShapedVariable strings) variable (variable_at strings)
variable_exact strings = record { complete = variable_complete strings; sound = variable_sound strings }

-- ---- properties

record IsPropertyHead (strings : ℕ) (h : PropertyHead) : Type 0 where
  pub name : IsReference strings h.name
  pub kind : IsReference strings h.kind
  pub doc : IsReference strings h.doc
  pub flags : h.flags < 2 ^ 32
  pub bits : h.bits < 2 ^ 8
  pub variable : IsWanted (IsReference strings) (has_variable h.bits) h.variable

-- what stands before the variable
abbrev property_front : PropertyHead → List ℕ
property_front h = two_bytes h.name ++ two_bytes h.kind ++ two_bytes h.doc ++ four_bytes h.flags ++ one_byte h.bits

abbrev property_head : PropertyHead → List ℕ
property_head h = property_front h ++ optional two_bytes h.variable

abbrev make_head : ℕ → ℕ → ℕ → ℕ → ℕ → Option ℕ → PropertyHead
make_head name kind doc flags bits variable = record { name = name; kind = kind; doc = doc; flags = flags; bits = bits; variable = variable }

-- what stands behind the bits
abbrev behind_bits : ℕ → ℕ → ℕ → ℕ → ℕ → ℕ → Reader PropertyHead
behind_bits strings name kind doc flags bits at bytes = read_as (λ variable. make_head name kind doc flags bits variable) (optional_at (has_variable bits) (reference_at strings) at bytes)

head_complete : (strings : ℕ) (h : PropertyHead) (at : ℕ) (rest : List ℕ) → IsPropertyHead strings h → property_head_at strings at (property_head h ++ rest) ≡ Got h (at + length (property_head h)) rest
unfolding property_head_at
head_complete strings h at rest p =
    let r = reference_exact strings in
    row2 (property_head_at strings) at (property_front h) (optional two_bytes h.variable) rest h
    (follow _ r h.name at _ p.name ∙ (follow _ r h.kind (at + 2) _ p.kind ∙ (follow _ r h.doc (at + 2 + 2) _ p.doc ∙ (follow _ four_exact h.flags (at + 2 + 2 + 2) _ p.flags
    ∙ (follow (behind_bits strings h.name h.kind h.doc h.flags) byte_exact h.bits (at + 2 + 2 + 2 + 4) (optional two_bytes h.variable ++ rest) p.bits
    ∙ (ending (λ variable. make_head h.name h.kind h.doc h.flags h.bits variable) (optional_exact r (has_variable h.bits)) h.variable (at + 2 + 2 + 2 + 4 + 1) rest p.variable
    ∙ ended_at h rest (at + 2 + 2 + 2 + 4 + 1 + length (optional two_bytes h.variable)) (at + 11 + length (optional two_bytes h.variable)) (omega arith)))))))

head_sound : (strings : ℕ) (h : PropertyHead) (at : ℕ) (bytes : List ℕ) (end : ℕ) (rest : List ℕ) → AreBytes bytes → property_head_at strings at bytes ≡ Got h end rest → Stands (IsPropertyHead strings) property_head h at bytes end rest
unfolding property_head_at
head_sound strings h at bytes end rest b e =
    let r = reference_exact strings in
    let name = taken r _ at bytes h end rest b e in
    let kind = taken r _ name.mid name.behind h end rest name.others name.later in
    let doc = taken r _ kind.mid kind.behind h end rest kind.others kind.later in
    let flags = taken four_exact _ doc.mid doc.behind h end rest doc.others doc.later in
    let bits = taken byte_exact _ flags.mid flags.behind h end rest flags.others flags.later in
    let variable = viewed (optional_exact r (has_variable bits.part)) _ bits.mid bits.behind h end rest bits.others bits.later in
    subst (λ z. Stands (IsPropertyHead strings) property_head z at bytes end rest) variable.is
    (record {
      may = record { name = name.may; kind = kind.may; doc = doc.may; flags = flags.may; bits = bits.may; variable = variable.may };
      spans = joined (joined (joined (joined (joined name.spans kind.spans) doc.spans) flags.spans) bits.spans) variable.spans;
      others = variable.others;
    })

property_head_exact : (strings : ℕ) → IsExact (IsPropertyHead strings) property_head (property_head_at strings)
property_head_exact strings = record { complete = head_complete strings; sound = head_sound strings }

if_first : (strings : ℕ) (f : Option PlainFunction) → IfSome f (ShapedFunction strings) → IfSome f (IsShapedFunction strings)
if_first strings None h = tt
if_first strings (Some f) h = h.0

if_second : (strings : ℕ) (f : Option PlainFunction) → IfSome f (ShapedFunction strings) → IfSome f FitsFunction
if_second strings None h = tt
if_second strings (Some f) h = h.1

if_both : (strings : ℕ) (f : Option PlainFunction) → IfSome f (IsShapedFunction strings) → IfSome f FitsFunction → IfSome f (ShapedFunction strings)
if_both strings None p q = tt
if_both strings (Some f) p q = (p, q)

abbrev pub ShapedProperty : ℕ → PlainProperty → Type 0
ShapedProperty strings p = IsShapedProperty strings p × FitsProperty p

abbrev head_of : PlainProperty → PropertyHead
head_of p = record { name = p.name; kind = p.kind; doc = p.doc; flags = p.flags; bits = p.bits; variable = p.variable }

abbrev make_property : PropertyHead → Option PlainFunction → Option PlainFunction → PlainProperty
make_property h read write = record { name = h.name; kind = h.kind; doc = h.doc; flags = h.flags; bits = h.bits; variable = h.variable; read = read; write = write }

property_complete : (strings : ℕ) (x : PlainProperty) (at : ℕ) (rest : List ℕ) → ShapedProperty strings x → property_at strings at (property x ++ rest) ≡ Got x (at + length (property x)) rest
unfolding property property_at
property_complete strings x at rest p =
    let f = function_exact strings in
    let h = head_of x in
    let front = at + length (property_head h) in
    row3 (property_at strings) at (property_head h) (optional function x.read) (optional function x.write) rest x
    (follow (property_with strings) (property_head_exact strings) h at (optional function x.read ++ (optional function x.write ++ rest))
    (record { name = p.0.name; kind = p.0.kind; doc = p.0.doc; flags = p.0.flags; bits = p.0.bits; variable = (p.0.has_variable, p.0.variable) })
    ∙ (follow (λ read at1 rest1. read_as (λ write. make_property h read write) (optional_at (has_write h.bits) (function_at strings) at1 rest1))
    (optional_exact f (has_read x.bits)) x.read front (optional function x.write ++ rest) (p.0.has_read, if_both strings x.read p.0.read p.1.read)
    ∙ ending (λ write. make_property h x.read write) (optional_exact f (has_write x.bits)) x.write (front + length (optional function x.read)) rest (p.0.has_write, if_both strings x.write p.0.write p.1.write)))

property_sound : (strings : ℕ) (x : PlainProperty) (at : ℕ) (bytes : List ℕ) (end : ℕ) (rest : List ℕ) → AreBytes bytes → property_at strings at bytes ≡ Got x end rest → Stands (ShapedProperty strings) property x at bytes end rest
unfolding property property_at
property_sound strings x at bytes end rest b e =
    let f = function_exact strings in
    let head = taken (property_head_exact strings) (property_with strings) at bytes x end rest b e in
    let h = head.part in
    let read = taken (optional_exact f (has_read h.bits)) _ head.mid head.behind x end rest head.others head.later in
    let write = viewed (optional_exact f (has_write h.bits)) _ read.mid read.behind x end rest read.others read.later in
    subst (λ z. Stands (ShapedProperty strings) property z at bytes end rest) write.is
    (record {
      may = (
        record {
          name = head.may.name;
          kind = head.may.kind;
          doc = head.may.doc;
          flags = head.may.flags;
          bits = head.may.bits;
          has_variable = head.may.variable.0;
          has_read = read.may.0;
          has_write = write.may.0;
          variable = head.may.variable.1;
          read = if_first strings read.part read.may.1;
          write = if_first strings write.part write.may.1;
        },
        record { read = if_second strings read.part read.may.1; write = if_second strings write.part write.may.1 },
      );
      spans = joined (joined head.spans read.spans) write.spans;
      others = write.others;
    })

pub property_exact : (strings : ℕ) → IsExact (ShapedProperty strings) property (property_at strings)
property_exact strings = record { complete = property_complete strings; sound = property_sound strings }

-- ---- objects

record IsObjectHead (strings : ℕ) (h : ObjectHead) : Type 0 where
  pub name : IsReference strings h.name
  pub size : h.size < 2 ^ 32
  pub parent : IsReference strings h.parent
  pub doc : IsReference strings h.doc
  pub flags : h.flags < 2 ^ 32
  pub auto_state : IsReference strings h.auto_state
  pub variables : h.variables < 2 ^ 16

abbrev object_head : ObjectHead → List ℕ
object_head h = two_bytes h.name ++ four_bytes h.size ++ two_bytes h.parent ++ two_bytes h.doc ++ four_bytes h.flags ++ two_bytes h.auto_state ++ two_bytes h.variables

object_head_complete : (strings : ℕ) (h : ObjectHead) (at : ℕ) (rest : List ℕ) → IsObjectHead strings h → h.size_at ≡ at + 2 → object_head_at strings at (object_head h ++ rest) ≡ Got h (at + 18) rest
unfolding object_head_at
object_head_complete strings h at rest p start =
    let r = reference_exact strings in
    let same : record h { size_at = at + 2 } ≡ h = ap (λ (n : ℕ). record h { size_at = n }) (sym start) in
    follow _ r h.name at _ p.name ∙ (follow _ four_exact h.size (at + 2) _ p.size ∙ (follow _ r h.parent (at + 2 + 4) _ p.parent ∙ (follow _ r h.doc (at + 2 + 4 + 2) _ p.doc
    ∙ (follow _ four_exact h.flags (at + 2 + 4 + 2 + 2) _ p.flags ∙ (follow _ r h.auto_state (at + 2 + 4 + 2 + 2 + 4) _ p.auto_state
    ∙ (ending (λ (variables : ℕ). record h { size_at = at + 2; variables = variables }) two_exact h.variables (at + 2 + 4 + 2 + 2 + 4 + 2) rest p.variables
    ∙ (ap (λ x. Got x (at + 2 + 4 + 2 + 2 + 4 + 2 + 2) rest) same ∙ ended_at h rest (at + 2 + 4 + 2 + 2 + 4 + 2 + 2) (at + 18) (omega arith))))))))

record HeadStands (strings : ℕ) (h : ObjectHead) (at : ℕ) (bytes : List ℕ) (end : ℕ) (rest : List ℕ) : Type 0 where
  pub may : IsObjectHead strings h
  pub size_at : h.size_at ≡ at + 2
  pub spans : Spans at bytes (object_head h) end rest
  pub others : AreBytes rest

object_head_sound : (strings : ℕ) (h : ObjectHead) (at : ℕ) (bytes : List ℕ) (end : ℕ) (rest : List ℕ) → AreBytes bytes → object_head_at strings at bytes ≡ Got h end rest → HeadStands strings h at bytes end rest
unfolding object_head_at
object_head_sound strings h at bytes end rest b e =
    let r = reference_exact strings in
    let name = taken r _ at bytes h end rest b e in
    let size = taken four_exact _ name.mid name.behind h end rest name.others name.later in
    let parent = taken r _ size.mid size.behind h end rest size.others size.later in
    let doc = taken r _ parent.mid parent.behind h end rest parent.others parent.later in
    let flags = taken four_exact _ doc.mid doc.behind h end rest doc.others doc.later in
    let auto_state = taken r _ flags.mid flags.behind h end rest flags.others flags.later in
    let variables = viewed two_exact _ auto_state.mid auto_state.behind h end rest auto_state.others auto_state.later in
    subst (λ z. HeadStands strings z at bytes end rest) variables.is
    (record {
      may = record { name = name.may; size = size.may; parent = parent.may; doc = doc.may; flags = flags.may; auto_state = auto_state.may; variables = variables.may };
      size_at = name.spans.ended;
      spans = joined (joined (joined (joined (joined (joined name.spans size.spans) parent.spans) doc.spans) flags.spans) auto_state.spans) variables.spans;
      others = variables.others;
    })

-- ---- the size of an object

size_complete : (form : SizeForm) (start size len at : ℕ) (bytes : List ℕ) → size ≡ size_of form len → at ≡ start + 4 + len → size_form_at start size at bytes ≡ Got form at bytes
size_complete Counted start size len at bytes is end =
    let same : (start + size == at) ≡ true = grind (arith, nat_tests) in
    rw same refl
size_complete Bare start size len at bytes is end =
    let other : (start + size == at) ≡ false = grind (arith, nat_tests) in
    let same : (start + 4 + size == at) ≡ true = grind (arith, nat_tests) in
    rw (other, same) refl

record HasForm (form : SizeForm) (size len at : ℕ) (bytes : List ℕ) (end : ℕ) (rest : List ℕ) : Type 0 where
  pub holds : size ≡ size_of form len
  pub same_end : end ≡ at
  pub same_rest : rest ≡ bytes

size_judged : (counted bare : Bool) (form : SizeForm) (start size len at : ℕ) (bytes : List ℕ) (end : ℕ) (rest : List ℕ) → at ≡ start + 4 + len → (start + size == at) ≡ counted → (start + 4 + size == at) ≡ bare
    → (if counted then Got Counted at bytes else if bare then Got Bare at bytes else Refused start BadSize) ≡ Got form end rest → HasForm form size len at bytes end rest
size_judged true bare form start size len at bytes end rest is first second e =
    let same : size ≡ len + 4 = grind (arith, nat_tests) in
    same_got (λ z i r. HasForm z size len at bytes i r) Counted form at end bytes rest e (record { holds = same; same_end = refl; same_rest = refl })
size_judged false true form start size len at bytes end rest is first second e =
    let same : size ≡ len = grind (arith, nat_tests) in
    same_got (λ z i r. HasForm z size len at bytes i r) Bare form at end bytes rest e (record { holds = same; same_end = refl; same_rest = refl })
size_judged false false form start size len at bytes end rest is first second e = refused_got start BadSize form end rest e

size_sound : (form : SizeForm) (start size len at : ℕ) (bytes : List ℕ) (end : ℕ) (rest : List ℕ) → at ≡ start + 4 + len → size_form_at start size at bytes ≡ Got form end rest → HasForm form size len at bytes end rest
size_sound form start size len at bytes end rest is e = size_judged (start + size == at) (start + 4 + size == at) form start size len at bytes end rest is refl refl e

-- ---- whole objects

-- its lists fit their counts, and its size fits four bytes
abbrev pub IsSized : PlainObject → Type 0
IsSized o = FitsObject o × (size_of o.size_form (length (object_data o)) < 2 ^ 32)

abbrev pub ShapedObject : ℕ → PlainObject → Type 0
ShapedObject strings o = IsShapedObject strings o × IsSized o

data_length : (o : PlainObject) → length (object_data o) ≡ 12 + length (flat_map variable o.variables) + length (list property o.properties) + length (list state o.states)
unfolding object_data
data_length o =
    let vs = flat_map variable o.variables in
    let ps = list property o.properties in
    omega (arith, length-append (vs ++ ps) (list state o.states), length-append vs ps)

abbrev object_head_of : ℕ → PlainObject → ObjectHead
object_head_of at o = record {
  name = o.name;
  size_at = at + 2;
  size = size_of o.size_form (length (object_data o));
  parent = o.parent;
  doc = o.doc;
  flags = o.flags;
  auto_state = o.auto_state;
  variables = length o.variables;
}

abbrev make_object : ObjectHead → List PexVariable → List PlainProperty → List PlainState → SizeForm → PlainObject
make_object h variables properties states form = record {
  name = h.name;
  size_form = form;
  parent = h.parent;
  doc = h.doc;
  flags = h.flags;
  auto_state = h.auto_state;
  variables = variables;
  properties = properties;
  states = states;
}

object_complete : (strings : ℕ) (o : PlainObject) (at : ℕ) (rest : List ℕ) → ShapedObject strings o → object_at strings at (object o ++ rest) ≡ Got o (at + length (object o)) rest
unfolding object object_data object_at
object_complete strings o at rest p =
    let h = object_head_of at o in
    let f = p.1.0 in
    let vs = flat_map variable o.variables in
    let ps = list property o.properties in
    let ss = list state o.states in
    let len = length (object_data o) in
    let behind : at + 18 + length vs + length ps + length ss ≡ at + 2 + 4 + len = omega (arith, data_length o) in
    let properties = each_both (IsShapedProperty strings) FitsProperty o.properties p.0.properties f.each_property in
    let states = each_both (IsShapedState strings) FitsState o.states p.0.states f.each_state in
    row4 (object_at strings) at (object_head h) vs ps ss rest o
    (ap (λ r. then_read r (object_with strings)) (object_head_complete strings h at (vs ++ (ps ++ (ss ++ rest)))
    (record { name = p.0.name; size = p.1.1; parent = p.0.parent; doc = p.0.doc; flags = p.0.flags; auto_state = p.0.auto_state; variables = f.variables }) refl)
    ∙ (follow _ (items_exact (variable_exact strings) (length o.variables)) o.variables (at + 18) (ps ++ (ss ++ rest)) (refl, p.0.variables)
    ∙ (follow _ (list_exact (property_exact strings)) o.properties (at + 18 + length vs) (ss ++ rest) (f.properties, properties)
    ∙ (follow _ (list_exact (state_exact strings)) o.states (at + 18 + length vs + length ps) rest (f.states, states)
    ∙ ap (λ r. read_as (λ form. make_object h o.variables o.properties o.states form) r) (size_complete o.size_form (at + 2) (size_of o.size_form len) len (at + 18 + length vs + length ps + length ss) rest refl behind)))))

-- an object of parts that were read
object_made : (strings : ℕ) (h : ObjectHead) (vs : List PexVariable) (ps : List PlainProperty) (ss : List PlainState) (form : SizeForm) (o : PlainObject) (at : ℕ) (bytes : List ℕ) (mid : ℕ) (behind : List ℕ) (end : ℕ) (rest : List ℕ)
    → IsObjectHead strings h → AreItems (IsShapedVariable strings) h.variables vs → FitEach (ShapedProperty strings) ps → FitEach (ShapedState strings) ss
    → Spans at bytes (object_head h ++ flat_map variable vs ++ list property ps ++ list state ss) mid behind → AreBytes behind
    → HasForm form h.size (length (object_data (make_object h vs ps ss form))) mid behind end rest → make_object h vs ps ss form ≡ o
    → Stands (ShapedObject strings) object o at bytes end rest
unfolding object object_data
object_made strings h vs ps ss form o at bytes mid behind end rest head variables properties states spans others form_is is =
    let made = make_object h vs ps ss form in
    let len = length (object_data made) in
    let count = sym variables.0 in
    let number = λ (size n : ℕ). two_bytes h.name ++ four_bytes size ++ two_bytes h.parent ++ two_bytes h.doc ++ four_bytes h.flags ++ two_bytes h.auto_state ++ two_bytes n ++ flat_map variable vs ++ list property ps ++ list state ss in
    let same : number h.size h.variables ≡ number (size_of form len) (length vs) = ap (λ (size : ℕ). number size h.variables) form_is.holds ∙ ap (λ (n : ℕ). number (size_of form len) n) count in
    let whole : Spans at bytes (object made) mid behind = spelled_as same spans in
    let there : Spans at bytes (object made) end rest = record { spelled = whole.spelled ∙ ap (λ (r : List ℕ). object made ++ r) (sym form_is.same_rest); ended = form_is.same_end ∙ whole.ended } in
    subst (λ z. Stands (ShapedObject strings) object z at bytes end rest) is
    (record {
      may = (
        record {
          name = head.name;
          parent = head.parent;
          doc = head.doc;
          flags = head.flags;
          auto_state = head.auto_state;
          variables = variables.1;
          properties = each_first (IsShapedProperty strings) FitsProperty ps properties.1;
          states = each_first (IsShapedState strings) FitsState ss states.1;
        },
        (
          record {
            variables = subst (λ (n : ℕ). n < 2 ^ 16) count head.variables;
            properties = properties.0;
            each_property = each_second (IsShapedProperty strings) FitsProperty ps properties.1;
            states = states.0;
            each_state = each_second (IsShapedState strings) FitsState ss states.1;
          },
          subst (λ (n : ℕ). n < 2 ^ 32) form_is.holds head.size,
        ),
      );
      spans = there;
      others = subst AreBytes (sym form_is.same_rest) others;
    })

object_sound : (strings : ℕ) (o : PlainObject) (at : ℕ) (bytes : List ℕ) (end : ℕ) (rest : List ℕ) → AreBytes bytes → object_at strings at bytes ≡ Got o end rest → Stands (ShapedObject strings) object o at bytes end rest
unfolding object object_data object_at
object_sound strings o at bytes end rest b e =
    let first = parted (object_head_at strings at bytes) (object_with strings) o end rest e in
    let h = first.part in
    let head = object_head_sound strings h at bytes first.mid first.behind b first.first in
    let variables = taken (items_exact (variable_exact strings) h.variables) _ first.mid first.behind o end rest head.others first.later in
    let properties = taken (list_exact (property_exact strings)) _ variables.mid variables.behind o end rest variables.others variables.later in
    let states = taken (list_exact (state_exact strings)) _ properties.mid properties.behind o end rest properties.others properties.later in
    let last = read_got (make_object h variables.part properties.part states.part) (size_form_at h.size_at h.size states.mid states.behind) o end rest states.later in
    object_made strings h variables.part properties.part states.part last.part o at bytes states.mid states.behind end rest head.may variables.may properties.may states.may
    (joined (joined (joined head.spans variables.spans) properties.spans) states.spans) states.others
    (size_sound last.part h.size_at h.size (length (object_data (make_object h variables.part properties.part states.part last.part))) states.mid states.behind end rest
    (omega (arith, head.size_at, head.spans.ended, variables.spans.ended, properties.spans.ended, states.spans.ended, data_length (make_object h variables.part properties.part states.part last.part))) last.first)
    last.is

pub object_exact : (strings : ℕ) → IsExact (ShapedObject strings) object (object_at strings)
object_exact strings = record { complete = object_complete strings; sound = object_sound strings }
