-- PEX values without where they lie in memory: a list in place of each vector.
use Rattle.std.specs.Prelude.{ℕ, List, map, Option, option_map}
use Rattle.pex_values.specs.declared.values.Datum.{Datum}
use Rattle.pex_values.specs.declared.values.Instruction.{Instruction}
use Rattle.pex_values.specs.declared.values.Pex.{Pex}
use Rattle.pex_values.specs.declared.debug.PexDebug.{PexDebug}
use Rattle.pex_values.specs.declared.values.PexFunction.{PexFunction}
use Rattle.pex_values.specs.declared.debug.PexLines.{PexLines}
use Rattle.pex_values.specs.declared.values.PexObject.{PexObject}
use Rattle.pex_values.specs.declared.values.PexProperty.{PexProperty}
use Rattle.pex_values.specs.declared.values.PexState.{PexState}
use Rattle.pex_values.specs.declared.values.PexVariable.{PexVariable}
use Rattle.pex_values.specs.declared.values.SizeForm.{SizeForm}

pub record PlainInstruction : Type 0 where
  pub opcode : ℕ
  pub fixed : List Datum
  pub more : List Datum

pub record PlainFunction : Type 0 where
  pub result : ℕ
  pub doc : ℕ
  pub flags : ℕ
  pub bits : ℕ
  pub parameters : List (ℕ × ℕ)
  pub locals : List (ℕ × ℕ)
  pub code : List PlainInstruction

pub record PlainState : Type 0 where
  pub name : ℕ
  pub functions : List (ℕ × PlainFunction)

pub record PlainProperty : Type 0 where
  pub name : ℕ
  pub kind : ℕ
  pub doc : ℕ
  pub flags : ℕ
  pub bits : ℕ
  pub variable : Option ℕ
  pub read : Option PlainFunction
  pub write : Option PlainFunction

pub record PlainObject : Type 0 where
  pub name : ℕ
  pub size_form : SizeForm
  pub parent : ℕ
  pub doc : ℕ
  pub flags : ℕ
  pub auto_state : ℕ
  pub variables : List PexVariable
  pub properties : List PlainProperty
  pub states : List PlainState

pub record PlainLines : Type 0 where
  pub object : ℕ
  pub state : ℕ
  pub function : ℕ
  pub kind : ℕ
  pub lines : List ℕ

pub record PlainDebug : Type 0 where
  pub time : ℕ
  pub functions : List PlainLines

pub record PlainPex : Type 0 where
  pub minor : ℕ
  pub time : ℕ
  pub source : List ℕ
  pub user : List ℕ
  pub machine : List ℕ
  pub strings : List (List ℕ)
  pub debug : Option PlainDebug
  pub user_flags : List (ℕ × ℕ)
  pub objects : List PlainObject

-- ---- what a value holds

abbrev pub plain_instruction : Instruction → PlainInstruction
plain_instruction i = record { opcode = i.opcode; fixed = i.fixed.items; more = i.more.items }

abbrev pub plain_function : PexFunction → PlainFunction
plain_function f = record {
  result = f.result;
  doc = f.doc;
  flags = f.flags;
  bits = f.bits;
  parameters = f.parameters.items;
  locals = f.locals.items;
  code = map plain_instruction f.code.items;
}

abbrev pub plain_named : ℕ × PexFunction → ℕ × PlainFunction
plain_named f = (f.0, plain_function f.1)

abbrev pub plain_state : PexState → PlainState
plain_state s = record { name = s.name; functions = map plain_named s.functions.items }

abbrev pub plain_property : PexProperty → PlainProperty
plain_property p = record {
  name = p.name;
  kind = p.kind;
  doc = p.doc;
  flags = p.flags;
  bits = p.bits;
  variable = p.variable;
  read = option_map plain_function p.read;
  write = option_map plain_function p.write;
}

abbrev pub plain_object : PexObject → PlainObject
plain_object o = record {
  name = o.name;
  size_form = o.size_form;
  parent = o.parent;
  doc = o.doc;
  flags = o.flags;
  auto_state = o.auto_state;
  variables = o.variables.items;
  properties = map plain_property o.properties.items;
  states = map plain_state o.states.items;
}

abbrev pub plain_lines : PexLines → PlainLines
plain_lines e = record { object = e.object; state = e.state; function = e.function; kind = e.kind; lines = e.lines.items }

abbrev pub plain_debug : PexDebug → PlainDebug
plain_debug d = record { time = d.time; functions = map plain_lines d.functions.items }

abbrev pub plain : Pex → PlainPex
plain v = record {
  minor = v.minor;
  time = v.time;
  source = v.source;
  user = v.user;
  machine = v.machine;
  strings = v.strings.items;
  debug = option_map plain_debug v.debug;
  user_flags = v.user_flags.items;
  objects = map plain_object v.objects.items;
}
