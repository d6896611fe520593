-- What the prelude's parts are in a file with these strings, as the rows of what every set declares say.
use denote.Bor.{Bor}
use Rattle.std.specs.Prelude.{ℕ, List, [], ◌∷◌, length, map, min, position, Option, None, Some, unwrap_or, codes, bytes_eq}
use Rattle.papy_base.specs.declared.prelude.StandardBody.{StandardBody}
use Rattle.papy_base.specs.declared.prelude.StandardBody.TheVariants.{Native, ChangeState, ReturnState}
use Rattle.papy_base.specs.declared.prelude.StandardFunction.{StandardFunction}
use Rattle.papy_base.specs.declared.prelude.StandardParameter.{StandardParameter}
use Rattle.papy_base.specs.declared.prelude.StandardScript.{StandardScript}
use Rattle.pex_values.specs.declared.values.Datum.TheVariants.{Word}
use Rattle.pex_values.specs.declared.values.SizeForm.TheVariants.{Counted}
use Rattle.pex_values.specs.Plain.{PlainInstruction, PlainFunction, PlainState, PlainObject}

-- the place of the first such string, and one behind the strings where there is none
abbrev pub reference_in : List (List ℕ) → List ℕ → ℕ
reference_in strings word = min (unwrap_or (position (bytes_eq word) strings) (length strings)) 65535

-- a word that may be there, and another one where it isn't
abbrev pub word_in : Option (Bor (List ℕ)) → List ℕ → List ℕ
word_in None other = other
word_in (Some word) other = word.now

-- ---- functions
abbrev pub parameter_in : List (List ℕ) → StandardParameter → ℕ × ℕ
parameter_in strings row = (reference_in strings row.name.now, reference_in strings row.kind.now)

-- an instruction whose operands are these identifiers
abbrev pub instruction_in : List (List ℕ) → ℕ → List (List ℕ) → PlainInstruction
instruction_in strings opcode names =
    record { opcode = opcode; fixed = map (λ name. Word (reference_in strings name)) names; more = [] }

abbrev pub own_call_in : List (List ℕ) → List ℕ → PlainInstruction
own_call_in strings name = instruction_in strings 0x17 (name ∷ codes "self" ∷ codes "::NoneVar" ∷ [])

abbrev pub bits_of : StandardBody → ℕ
bits_of Native = 3
bits_of _ = 0

abbrev pub locals_in : List (List ℕ) → StandardBody → List (ℕ × ℕ)
locals_in strings ChangeState = (reference_in strings (codes "::NoneVar"), reference_in strings (codes "None")) ∷ []
locals_in strings _ = []

abbrev pub code_in : List (List ℕ) → StandardBody → List PlainInstruction
code_in strings ChangeState =
    own_call_in strings (codes "OnEndState")
    ∷ instruction_in strings 0x0D (codes "::State" ∷ codes "asNewState" ∷ [])
    ∷ own_call_in strings (codes "OnBeginState") ∷ []
code_in strings ReturnState = instruction_in strings 0x1A (codes "::State" ∷ []) ∷ []
code_in strings _ = []

abbrev pub function_in : List (List ℕ) → StandardFunction → PlainFunction
function_in strings row = record {
  result = reference_in strings (word_in row.result (codes "None"));
  doc = 0;
  flags = 0;
  bits = bits_of row.body;
  parameters = map (parameter_in strings) row.parameters.now;
  locals = locals_in strings row.body;
  code = code_in strings row.body;
}

abbrev pub named_in : List (List ℕ) → StandardFunction → ℕ × PlainFunction
named_in strings row = (reference_in strings row.name.now, function_in strings row)

-- ---- scripts
-- the empty state with these functions, and no state where there are none
abbrev pub states_in : List (List ℕ) → List StandardFunction → List PlainState
states_in strings [] = []
states_in strings (first ∷ rest) = record { name = 0; functions = map (named_in strings) (first ∷ rest) } ∷ []

abbrev pub object_in : List (List ℕ) → StandardScript → PlainObject
object_in strings row = record {
  name = reference_in strings row.name.now;
  size_form = Counted;
  parent = reference_in strings (word_in row.parent []);
  doc = 0;
  flags = 0;
  auto_state = 0;
  variables = [];
  properties = [];
  states = states_in strings row.functions.now;
}
