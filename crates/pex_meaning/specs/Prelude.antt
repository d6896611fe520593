-- The scripts that stand before the files of each set, as a file, and the members that each script without
-- parent has.
use Prim.Native.String.{String}
use Rattle.std.specs.Prelude.{ℕ, List, [], ◌∷◌, map, None, codes, bytes_eq}
use Rattle.std.specs.List.{position_or_len}
use Rattle.pex_values.specs.declared.values.Datum.TheVariants.{Word}
use Rattle.pex_values.specs.declared.values.SizeForm.TheVariants.{Counted}
use Rattle.pex_values.specs.Plain.{PlainInstruction, PlainFunction, PlainState, PlainObject, PlainPex}

-- the string table: each string once, in the order in which they are first used
abbrev pub strings : List (List ℕ)
strings =
    map codes
    ("" ∷ "Debug" ∷ "Trace" ∷ "None" ∷ "asTextToPrint" ∷ "String" ∷ "aiSeverity" ∷ "Int"
    ∷ "Utility" ∷ "RandomInt" ∷ "aiMin" ∷ "aiMax" ∷ "Scene" ∷ "Sleep" ∷ "turns"
    ∷ "Form" ∷ "Quest" ∷ "OnInit" ∷ "ObjectReference"
    ∷ "GotoState" ∷ "asNewState" ∷ "::NoneVar" ∷ "OnEndState" ∷ "self" ∷ "::State" ∷ "OnBeginState" ∷ "GetState" ∷ [])

abbrev pub reference : String → ℕ
reference string = position_or_len (bytes_eq (codes string)) strings

-- ---- functions
-- a parameter or a local
abbrev pub slot : String → String → ℕ × ℕ
slot kind name = (reference name, reference kind)

abbrev pub function : String → ℕ → List (ℕ × ℕ) → List (ℕ × ℕ) → List PlainInstruction → PlainFunction
function result bits parameters locals code = record {
  result = reference result;
  doc = reference "";
  flags = 0;
  bits = bits;
  parameters = parameters;
  locals = locals;
  code = code;
}

-- bit 1 is Global and bit 2 is Native
abbrev pub global_native : String → List (ℕ × ℕ) → PlainFunction
global_native result parameters = function result 3 parameters [] []

-- an event without parameters that does nothing
abbrev pub event : PlainFunction
event = function "None" 0 [] [] []

-- ---- members of scripts without parent
-- an instruction whose operands are these identifiers
abbrev pub instruction : ℕ → List String → PlainInstruction
instruction opcode names = record { opcode = opcode; fixed = map (λ name. Word (reference name)) names; more = [] }

-- a callmethod of the own instance without arguments, whose result is dropped
abbrev pub own_call : String → PlainInstruction
own_call name = instruction 0x17 (name ∷ "self" ∷ "::NoneVar" ∷ [])

-- an assign stands between the calls
abbrev pub goto_state : PlainFunction
goto_state =
    function "None" 0 (slot "String" "asNewState" ∷ []) (slot "None" "::NoneVar" ∷ [])
    (own_call "OnEndState" ∷ instruction 0x0D ("::State" ∷ "asNewState" ∷ []) ∷ own_call "OnBeginState" ∷ [])

-- by a return
abbrev pub get_state : PlainFunction
get_state = function "String" 0 [] [] (instruction 0x1A ("::State" ∷ []) ∷ [])

abbrev pub members : List (ℕ × PlainFunction)
members =
    (reference "GotoState", goto_state) ∷ (reference "GetState", get_state)
    ∷ (reference "OnBeginState", event) ∷ (reference "OnEndState", event) ∷ []

-- ---- scripts
-- where there is no function there is no state
abbrev pub empty_state : List (ℕ × PlainFunction) → List PlainState
empty_state [] = []
empty_state (first ∷ rest) = record { name = reference ""; functions = first ∷ rest } ∷ []

-- with functions in the empty state alone
abbrev pub script : String → String → List (ℕ × PlainFunction) → PlainObject
script name parent functions = record {
  name = reference name;
  size_form = Counted;
  parent = reference parent;
  doc = reference "";
  flags = 0;
  auto_state = reference "";
  variables = [];
  properties = [];
  states = empty_state functions;
}

-- the scripts that are no types, and that have no members but their own functions
abbrev pub libraries : List (List ℕ)
libraries = map codes ("Debug" ∷ "Utility" ∷ "Scene" ∷ [])

abbrev pub prelude : PlainPex
prelude = record {
  minor = 2;
  time = 0;
  source = [];
  user = [];
  machine = [];
  strings = strings;
  debug = None;
  user_flags = [];
  objects =
      script "Debug" "" ((reference "Trace", global_native "None" (slot "String" "asTextToPrint" ∷ slot "Int" "aiSeverity" ∷ [])) ∷ [])
      ∷ script "Utility" "" ((reference "RandomInt", global_native "Int" (slot "Int" "aiMin" ∷ slot "Int" "aiMax" ∷ [])) ∷ [])
      ∷ script "Scene" "" ((reference "Sleep", global_native "None" (slot "Int" "turns" ∷ [])) ∷ [])
      ∷ script "Form" "" []
      ∷ script "Quest" "Form" ((reference "OnInit", event) ∷ [])
      ∷ script "ObjectReference" "Form" ((reference "OnInit", event) ∷ []) ∷ [];
}
